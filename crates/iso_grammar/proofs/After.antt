-- A token, and behind it what is read with a bound that is one less.
use Rattle.std.proofs.Common.{◌≡◌, ℕ, zero, suc, ◌≤◌, true, false, List, [], ◌∷◌, ◌++◌, length, Ok, Err, refl, sym, ap, subst, ◌∙◌, inl, inr, append_assoc, length-append, arith}
use Rattle.iso_grammar.specs.declared.token.Kind.{Kind}
use Rattle.iso_grammar.specs.declared.token.Token.{Token}
use Rattle.iso_grammar.specs.Kinds.{Kinds, has}
use Rattle.iso_grammar.specs.Grammar as g
use Rattle.iso_grammar.specs.Grammar.{Lang, SameHead, StopsAt as Fails}
use Rattle.iso_grammar.specs.Reading as r
use Rattle.iso_grammar.specs.Reading.{Parser, Outcome, and_then, begins}
use Rattle.iso_grammar.proofs.Lists.{cut, same_start}
use Rattle.iso_grammar.proofs.Laws.{Completes, Takes, Answers, then_ok, then_err, ok_or_err}
use Rattle.iso_grammar.proofs.Choices.{no_nil, token-reads}

abbrev pub after : {A : Type 0} → Kind → (Token → ℕ → Parser A) → ℕ → Parser A
after kind q zero = λ ts. Err (length ts)
after kind q (suc n) = r.◌>>=◌ (r.expect kind) (λ t. q t n)

module _ {A : Type 0} (kind : Kind) (q : Token → ℕ → Parser A) (M : Token → Lang A) where
  abbrev whole : Lang A
  whole = g.◌>>=◌ (g.token kind) M

  pub not_empty : (x : A) (ts : List Token) → whole ts x → ts ≡ [] → ⊥
  not_empty x ts w e = no_nil w.0 w.2 (ap (λ (z : List Token). z ++ w.2) (sym w.4.0) ∙ sym w.3 ∙ e)

  pub after-heads : (t : Token) (ts : List Token) (x : A) → whole (t ∷ ts) x → has (kind ∷ []) t.kind ≡ true
  after-heads t ts x w = (token-reads kind).begin.heads t [] t (refl, ap (λ (u : Token). u.kind) (first t w.0 ts w.2 (w.3 ∙ ap (λ (z : List Token). z ++ w.2) w.4.0)) ∙ w.4.1)
    where
      first : (t u : Token) (a b : List Token) → t ∷ a ≡ u ∷ b → t ≡ u
      first t u a b e = cc

  pub after-complete : (goes : Kinds) (n : ℕ) → ((t : Token) (k : ℕ) → n ≡ suc k → Completes (q t) (M t) goes k) → Completes (after kind q) whole goes n
  after-complete goes zero cq ts rest x le w stops = absurd (not_empty x ts w (nil ts (omega (arith, length-append ts rest))))
    where
      nil : (ts : List Token) → length ts ≤ 0 → ts ≡ []
      nil [] le = refl
      nil (t ∷ ts) le = absurd (omega arith)
  after-complete goes (suc n) cq ts rest x le w stops =
      let t = w.0 in let back = w.2 in
      let split : ts ++ rest ≡ w.1 ++ (back ++ rest) = ap (λ (z : List Token). z ++ rest) w.3 ∙ append_assoc w.1 back rest in
      let opened : r.expect kind (w.1 ++ (back ++ rest)) ≡ Ok (t, back ++ rest) = (token-reads kind).complete (length (w.1 ++ (back ++ rest))) w.1 (back ++ rest) t (omega arith) w.4 (nothing (back ++ rest)) in
      let len : length (ts ++ rest) ≡ suc (length (back ++ rest)) = ap length split ∙ ap (λ (z : List Token). length (z ++ (back ++ rest))) w.4.0 in
      let others : q t n (back ++ rest) ≡ Ok (x, rest) = cq t n refl back rest x (omega arith) w.5 stops in
      ap (λ (z : List Token). and_then (r.expect kind z) (λ t. q t n)) split ∙ ap (λ o. and_then o (λ t. q t n)) opened ∙ others
    where
      nothing : (ts : List Token) → begins [] ts ≡ false
      nothing [] = refl
      nothing (t ∷ ts) = refl

  pub after-ok : (n : ℕ) → ((t : Token) (k : ℕ) → n ≡ suc k → Answers (q t) (M t) k) → (ts : List Token) (x : A) (rest : List Token) → length ts ≤ n → after kind q n ts ≡ Ok (x, rest) → Takes (after kind q) whole ts x rest
  after-ok zero aq ts x rest le e = absurd cc
  after-ok (suc n) aq ts x rest le e =
      let a = then_ok (r.expect kind ts) (λ t. q t n) (x, rest) e in
      let one = ((token-reads kind).answer (suc n)).ok ts a.0 a.1 le a.2 in
      let len : length ts ≡ suc (length a.1) = ap length one.split ∙ ap (λ (z : List Token). length (z ++ a.1)) one.spelled.0 in
      let two = (aq a.0 n refl).ok a.1 x rest (omega arith) a.3 in
      record {
        front = a.0 ∷ two.front;
        split = one.split ∙ ap (λ (z : List Token). z ++ a.1) one.spelled.0 ∙ ap (λ (z : List Token). a.0 ∷ z) two.split;
        spelled = (a.0, a.0 ∷ [], two.front, refl, (refl, one.spelled.1), two.spelled);
        again = λ k more lek same. go k a.0 two.front more lek one.spelled.1 (λ j lej. two.again j more lej same);
      }
    where
      go : (k : ℕ) (t : Token) (f more : List Token) → length (t ∷ (f ++ more)) ≤ k → t.kind ≡ kind → ((j : ℕ) → length (f ++ more) ≤ j → q t j (f ++ more) ≡ Ok (x, more)) → after kind q k (t ∷ (f ++ more)) ≡ Ok (x, more)
      go zero t f more le is two = absurd (omega arith)
      go (suc k) t f more le is two =
          let opened : r.expect kind (t ∷ (f ++ more)) ≡ Ok (t, f ++ more) = (token-reads kind).complete (suc k) (t ∷ []) (f ++ more) t le (refl, is) (nothing (f ++ more)) in
          ap (λ o. and_then o (λ t. q t k)) opened ∙ two k (omega arith)
        where
          nothing : (ts : List Token) → begins [] ts ≡ false
          nothing [] = refl
          nothing (t ∷ ts) = refl

  pub after-err : ((ts : List Token) × (x : A) × whole ts x) → ((t : Token) → (ts : List Token) × (x : A) × M t ts x) → (n : ℕ) → ((t : Token) (k : ℕ) → n ≡ suc k → Answers (q t) (M t) k)
      → (ts : List Token) (left : ℕ) → length ts ≤ n → after kind q n ts ≡ Err left → Fails whole ts left
  after-err sample behind zero aq [] left le e = record {
    front = [];
    rest = [];
    split = refl;
    count = cc;
    viable = sample;
    dead = λ more x same w. not_empty x more w same;
  }
  after-err sample behind zero aq (t ∷ ts) left le e = absurd (omega (arith, le))
  after-err sample behind (suc n) aq ts left le e = elim (then_err (r.expect kind ts) (λ t. q t n) left e) [
    | inl failed ↦
        let f = ((token-reads kind).answer (suc n)).err ts left le failed in
        record {
          front = f.front;
          rest = f.rest;
          split = f.split;
          count = f.count;
          viable = let v = f.viable in let b = behind v.1 in (v.0 ++ b.0, b.1, (v.1, f.front ++ v.0, b.0, sym (append_assoc f.front v.0 b.0), v.2, b.2));
          dead = λ more x same w. refused ts left f more x same failed w;
        }
    | inr a ↦
        let one = ((token-reads kind).answer (suc n)).ok ts a.0 a.1 le a.2 in
        let len : length ts ≡ suc (length a.1) = ap length one.split ∙ ap (λ (z : List Token). length (z ++ a.1)) one.spelled.0 in
        let f = (aq a.0 n refl).err a.1 left (omega arith) a.3 in
        record {
          front = a.0 ∷ f.front;
          rest = f.rest;
          split = one.split ∙ ap (λ (z : List Token). z ++ a.1) one.spelled.0 ∙ ap (λ (z : List Token). a.0 ∷ z) f.split;
          count = f.count;
          viable = let v = f.viable in (v.0, v.1, (a.0, a.0 ∷ [], f.front ++ v.0, refl, (refl, one.spelled.1), v.2));
          dead = λ more x same w.
              let e : a.0 ∷ (f.front ++ more) ≡ w.0 ∷ w.2 = w.3 ∙ ap (λ (z : List Token). z ++ w.2) w.4.0 in
              f.dead more x same (moved a.0 w.0 (f.front ++ more) w.2 e x w.5);
        }
  ]
    where
      moved : (t u : Token) (a b : List Token) → t ∷ a ≡ u ∷ b → (x : A) → M u b x → M t a x
      moved t u a b e x m =
          let heads : t ≡ u = cc in
          let tails : a ≡ b = cc in
          subst (λ (z : List Token). M t z x) (sym tails) (subst (λ (z : Token). M z b x) (sym heads) m)

      refused : (ts : List Token) (left : ℕ) (f : Fails (g.token kind) ts left) (more : List Token) (x : A) → SameHead f.rest more → r.expect kind ts ≡ Err left → whole (f.front ++ more) x → ⊥
      refused ts left f more x same failed w = elim (cut w.1 w.2 f.front more (sym w.3)) [
        | inl c ↦
            let split : ts ≡ w.1 ++ (c.0 ++ f.rest) = f.split ∙ ap (λ (z : List Token). z ++ f.rest) c.1 ∙ append_assoc w.1 c.0 f.rest in
            let reads : r.expect kind (w.1 ++ (c.0 ++ f.rest)) ≡ Ok (w.0, c.0 ++ f.rest) = (token-reads kind).complete (length (w.1 ++ (c.0 ++ f.rest))) w.1 (c.0 ++ f.rest) w.0 (omega arith) w.4 (nothing (c.0 ++ f.rest)) in
            ok_or_err (r.expect kind ts) (w.0, c.0 ++ f.rest) left (ap (r.expect kind) split ∙ reads) failed
        | inr d ↦ f.dead (d.0 ∷ d.1) w.0 (same_start f.rest more d.1 (d.1 ++ w.2) d.0 same d.3) (subst (λ (z : List Token). g.token kind z w.0) d.2 w.4)
      ]
        where
          nothing : (ts : List Token) → begins [] ts ≡ false
          nothing [] = refl
          nothing (t ∷ ts) = refl
