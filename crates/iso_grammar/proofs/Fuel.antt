-- More fuel than there are tokens changes nothing.
use Rattle.std.proofs.Common.{◌≡◌, ℕ, zero, suc, ◌≤◌, true, false, List, [], ◌∷◌, length, Ok, Err, refl, sym, ap, subst, ◌∙◌, inl, inr, length-append, arith}
use Rattle.iso_grammar.specs.declared.token.Token.{Token}
use Rattle.iso_grammar.specs.Kinds.{Kinds}
use Rattle.iso_grammar.specs.Grammar.{Lang}
use Rattle.iso_grammar.specs.Reading.{Parser, Outcome, and_then, begins, many, pure}
use Rattle.iso_grammar.proofs.Lists.{same_refl}
use Rattle.iso_grammar.proofs.Laws.{Reads, ok_or_err}
use Rattle.iso_grammar.proofs.Choices.{decide, both_ways}
use Rattle.iso_grammar.proofs.Many.{one_more, turn_took, turn_passed}
use Rattle.iso_grammar.proofs.Whole.{one_place}

pub and_then-cong : {A B : Type 0} (o : Outcome A) (f g : A → Parser B) → ((x : A) (r : List Token) → o ≡ Ok (x, r) → f x r ≡ g x r) → and_then o f ≡ and_then o g
and_then-cong (Ok p) f g h = h p.0 p.1 refl
and_then-cong (Err e) f g h = refl

pub and_then-assoc : {A B C : Type 0} (o : Outcome A) (f : A → Parser B) (g : B → Parser C) → and_then (and_then o f) g ≡ and_then o (λ x r. and_then (f x r) g)
and_then-assoc (Ok p) f g = refl
and_then-assoc (Err e) f g = refl

module _ {A : Type 0} {p : ℕ → Parser A} {L : Lang A} {first goes : Kinds} (r : Reads p L first goes false) where
  pub shrinks : (n : ℕ) (ts rest : List Token) (x : A) → length ts ≤ n → p n ts ≡ Ok (x, rest) → suc (length rest) ≤ length ts
  shrinks n ts rest x le e =
      let w = (r.answer n).ok ts x rest le e in
      omega (arith, ap length w.split, length-append w.front rest, some w.front x w.spelled)
    where
      some : (f : List Token) (x : A) → L f x → 1 ≤ length f
      some [] x l = absurd (both_ways false (r.begin.empty x l) refl)
      some (t ∷ f) x l = omega arith

  agree_ok : (n m : ℕ) (ts rest : List Token) (x : A) → length ts ≤ n → length ts ≤ m → p n ts ≡ Ok (x, rest) → p m ts ≡ Ok (x, rest)
  agree_ok n m ts rest x le lem e =
      let w = (r.answer n).ok ts x rest le e in
      ap (p m) w.split ∙ w.again m rest (subst (λ (z : List Token). length z ≤ m) w.split lem) (same_refl rest)

  pub agree : (n m : ℕ) (ts : List Token) → length ts ≤ n → length ts ≤ m → p n ts ≡ p m ts
  agree n m ts le lem = go (p n ts) (p m ts) refl refl
    where
      go : (a b : Outcome A) → p n ts ≡ a → p m ts ≡ b → p n ts ≡ p m ts
      go (Ok x) b e f = e ∙ sym (agree_ok n m ts x.1 x.0 le lem e)
      go (Err a) (Ok y) e f = absurd (ok_or_err (p n ts) y a (agree_ok m n ts y.1 y.0 lem le f) e)
      go (Err a) (Err b) e f = e ∙ ap Err (one_place r ts a b ((r.answer n).err ts a le e) ((r.answer m).err ts b lem f)) ∙ sym f

module _ {A : Type 0} (first : Kinds) (q : Parser A) (n : ℕ) (shr : (ts rest : List Token) (x : A) → length ts ≤ n → q ts ≡ Ok (x, rest) → suc (length rest) ≤ length ts) where
  pub many-turns : (j k : ℕ) (ts : List Token) → length ts ≤ n → length ts ≤ j → length ts ≤ k → many first q j ts ≡ many first q k ts
  many-turns zero k [] le lej lek = sym (turn_passed first q k [] refl)
  many-turns zero k (t ∷ ts) le lej lek = absurd (omega (arith, lej))
  many-turns (suc j) zero [] le lej lek = turn_passed first q (suc j) [] refl
  many-turns (suc j) zero (t ∷ ts) le lej lek = absurd (omega (arith, lek))
  many-turns (suc j) (suc k) ts le lej lek = elim (decide (begins first ts)) [
    | inr b ↦ turn_passed first q (suc j) ts b ∙ sym (turn_passed first q (suc k) ts b)
    | inl b ↦ turn_took first q j ts b ∙ and_then-cong (q ts) (one_more first q j) (one_more first q k)
        (λ x rest e. let s = shr ts rest x le e in ap (λ o. and_then o (λ xs. pure (x ∷ xs))) (many-turns j k rest (omega (arith, s)) (omega (arith, s)) (omega (arith, s)))) ∙ sym (turn_took first q k ts b)
  ]

  -- another turn, and what comes behind the repetition, whatever it holds
  pub many-more : {B : Type 0} (K : Parser B) (ts : List Token) → length ts ≤ n → begins first ts ≡ true → and_then (many first q n ts) (λ _. K) ≡ and_then (q ts) (λ _ r. and_then (many first q n r) (λ _. K))
  many-more K ts le b = go n refl
    where
      go : (m : ℕ) → n ≡ m → and_then (many first q n ts) (λ _. K) ≡ and_then (q ts) (λ _ r. and_then (many first q n r) (λ _. K))
      go zero e = absurd (both_ways (begins first ts) b (ap (begins first) (nil ts (omega (arith, le, e)))))
        where
          nil : (ts : List Token) → length ts ≤ 0 → ts ≡ []
          nil [] le = refl
          nil (t ∷ ts) le = absurd (omega (arith, le))
      go (suc m) e =
          let one : many first q n ts ≡ and_then (q ts) (one_more first q m) = ap (λ j. many first q j ts) e ∙ turn_took first q m ts b in
          ap (λ o. and_then o (λ _. K)) one ∙ and_then-assoc (q ts) (one_more first q m) (λ _. K)
          ∙ and_then-cong (q ts) (λ x r. and_then (one_more first q m x r) (λ _. K)) (λ _ r. and_then (many first q n r) (λ _. K))
          (λ x rest f. let s = shr ts rest x le f in
          and_then-assoc (many first q m rest) (λ xs. pure (x ∷ xs)) (λ _. K) ∙ ap (λ o. and_then o (λ _. K)) (many-turns m n rest (omega (arith, s, le)) (omega (arith, s, le, e)) (omega (arith, s, le))))

  pub many-none : {B : Type 0} (K : Parser B) (ts : List Token) → begins first ts ≡ false → and_then (many first q n ts) (λ _. K) ≡ K ts
  many-none K ts b = ap (λ o. and_then o (λ _. K)) (turn_passed first q n ts b)
