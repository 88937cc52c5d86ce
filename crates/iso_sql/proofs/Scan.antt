-- What is read without a call of itself is what the grammar's parser reads.
use Rattle.std.proofs.Common.{◌≡◌, ℕ, zero, suc, ◌+◌, ◌≤◌, true, false, cond, List, [], ◌∷◌, length, Option, Ok, refl, sym, ap, ◌∙◌, inl, inr, length-append, arith}
use Rattle.std.specs.Prelude.{fold}
use Rattle.iso_grammar.specs.declared.token.Kind.TheVariants as k
use Rattle.iso_grammar.specs.declared.token.Token.{Token}
use Rattle.iso_grammar.specs.Kinds.{Kinds}
use Rattle.iso_sql.specs.Names.{Names}
use Rattle.iso_sql.specs.declared.found.Found.{Found}
use Rattle.iso_sql.specs.Actions.{negated, both, any, nested}
use Rattle.iso_grammar.specs.Reading.{Parser, and_then, begins, many, pure, expect, either}
use Rattle.iso_sql.specs.ConditionReading.{maybe_not, comparison, negation, and_next, conjunction, or_next, disjunction, paren_at, scan, inside}
use Rattle.iso_grammar.proofs.Rules.{then, word}
use Rattle.iso_grammar.proofs.Choices.{decide, both_ways}
use Rattle.iso_sql.proofs.ConditionLaws.{maybe_not-reads, comparison-reads}
use Rattle.iso_sql.proofs.Parens.{negation-reads, conjunction-reads, disjunction-reads}
use Rattle.iso_grammar.proofs.Fuel.{and_then-cong, and_then-assoc, shrinks, agree, many-more, many-none}

took : {A : Type 0} (first : Kinds) (p q : Parser A) (ts : List Token) → begins first ts ≡ true → either first p q ts ≡ p ts
took first p q ts e = ap (λ b. cond b (p ts) (q ts)) e

passed : {A : Type 0} (first : Kinds) (p q : Parser A) (ts : List Token) → begins first ts ≡ false → either first p q ts ≡ q ts
passed first p q ts e = ap (λ b. cond b (p ts) (q ts)) e

module _ (names : Names) (n : ℕ) where
  neg : ℕ → Parser Found
  neg d = negation names (paren_at names d n)

  ands : ℕ → Parser (List Found)
  ands d = many (k.And ∷ []) (and_next names (paren_at names d n)) n

  ors : ℕ → Parser (List Found)
  ors d = many (k.Or ∷ []) (or_next names (paren_at names d n) n) n

  -- what comes behind a part of a condition, inside parentheses at these depths
  rest : List ℕ → Parser (Unit {0})
  rest [] = pure tt
  rest (d ∷ ds) = λ ts. and_then (ands d ts) (λ _ ts. and_then (ors d ts) (λ _ ts. and_then (expect k.Close ts) (λ _. rest ds)))

  abbrev closing : List ℕ → Parser (Unit {0})
  closing ds = λ ts. and_then (expect k.Close ts) (λ _. rest ds)

  abbrev behind : ℕ → List ℕ → Parser (Unit {0})
  behind d ds = λ ts. and_then (ors d ts) (λ _. closing ds)

  conj-then : (K : Parser (Unit {0})) (d : ℕ) (ts : List Token) → and_then (conjunction names (paren_at names d n) n ts) (λ _. K) ≡ and_then (neg d ts) (λ _ r. and_then (ands d r) (λ _. K))
  unfolding conjunction neg ands
  conj-then K d ts =
      and_then-assoc (neg d ts) (λ first r. and_then (ands d r) (λ more. pure (fold both first more))) (λ _. K)
      ∙ and_then-cong (neg d ts) (λ first r. and_then (and_then (ands d r) (λ more. pure (fold both first more))) (λ _. K)) (λ _ r. and_then (ands d r) (λ _. K))
      (λ first r e. and_then-assoc (ands d r) (λ more. pure (fold both first more)) (λ _. K))

  disj-then : (K : Parser (Unit {0})) (d : ℕ) (ts : List Token) → and_then (disjunction names (paren_at names d n) n ts) (λ _. K) ≡ and_then (neg d ts) (λ _ r. and_then (ands d r) (λ _ r. and_then (ors d r) (λ _. K)))
  unfolding disjunction neg ands ors
  disj-then K d ts =
      and_then-assoc (conjunction names (paren_at names d n) n ts) (λ first r. and_then (ors d r) (λ more. pure (fold any first more))) (λ _. K)
      ∙ and_then-cong (conjunction names (paren_at names d n) n ts) (λ first r. and_then (and_then (ors d r) (λ more. pure (fold any first more))) (λ _. K)) (λ _ r. and_then (ors d r) (λ _. K))
      (λ first r e. and_then-assoc (ors d r) (λ more. pure (fold any first more)) (λ _. K))
      ∙ conj-then (λ r. and_then (ors d r) (λ _. K)) d ts

  rest-and : (d : ℕ) (ds : List ℕ) (ts : List Token) → length ts ≤ n → begins (k.And ∷ []) ts ≡ true → rest (d ∷ ds) ts ≡ and_then (expect k.And ts) (λ _ r. and_then (neg d r) (λ _. rest (d ∷ ds)))
  unfolding rest neg ands ors
  rest-and d ds ts le b =
      many-more (k.And ∷ []) (and_next names (paren_at names d n)) n (λ ts r x lt e. shrinks (then (word k.And) (λ _. negation-reads names d) refl) n ts r x lt e) (behind d ds) ts le b
      ∙ and_then-assoc (expect k.And ts) (λ _. neg d) (λ _ r. and_then (ands d r) (λ _. behind d ds))

  rest-or : (d : ℕ) (ds : List ℕ) (ts : List Token) → length ts ≤ n → begins (k.And ∷ []) ts ≡ false → begins (k.Or ∷ []) ts ≡ true → rest (d ∷ ds) ts ≡ and_then (expect k.Or ts) (λ _ r. and_then (neg d r) (λ _. rest (d ∷ ds)))
  unfolding rest neg ands ors
  rest-or d ds ts le a b =
      many-none (k.And ∷ []) (and_next names (paren_at names d n)) n (λ ts r x lt e. shrinks (then (word k.And) (λ _. negation-reads names d) refl) n ts r x lt e) (behind d ds) ts a
      ∙ many-more (k.Or ∷ []) (or_next names (paren_at names d n) n) n (λ ts r x lt e. shrinks (then (word k.Or) (λ _. conjunction-reads names d) refl) n ts r x lt e) (closing ds) ts le b
      ∙ and_then-assoc (expect k.Or ts) (λ _. conjunction names (paren_at names d n) n) (λ _. behind d ds)
      ∙ and_then-cong (expect k.Or ts) (λ _ r. and_then (conjunction names (paren_at names d n) n r) (λ _. behind d ds)) (λ _ r. and_then (neg d r) (λ _. rest (d ∷ ds))) (λ _ r e. conj-then (behind d ds) d r)

  rest-close : (d : ℕ) (ds : List ℕ) (ts : List Token) → begins (k.And ∷ []) ts ≡ false → begins (k.Or ∷ []) ts ≡ false → rest (d ∷ ds) ts ≡ and_then (expect k.Close ts) (λ _. rest ds)
  unfolding rest neg ands ors
  rest-close d ds ts a b =
      many-none (k.And ∷ []) (and_next names (paren_at names d n)) n (λ ts r x lt e. shrinks (then (word k.And) (λ _. negation-reads names d) refl) n ts r x lt e) (behind d ds) ts a
      ∙ many-none (k.Or ∷ []) (or_next names (paren_at names d n) n) n (λ ts r x lt e. shrinks (then (word k.Or) (λ _. conjunction-reads names d) refl) n ts r x lt e) (closing ds) ts b

  neg-then : (K : Parser (Unit {0})) (d : ℕ) (ts : List Token) → and_then (neg d ts) (λ _. K) ≡ and_then (maybe_not ts) (λ _ r. and_then (either (k.Open ∷ []) (paren_at names d n) (comparison names) r) (λ _. K))
  unfolding negation neg
  neg-then K d ts =
      and_then-assoc (maybe_not ts) (λ w r. and_then (either (k.Open ∷ []) (paren_at names d n) (comparison names) r) (λ x. pure (negated w x))) (λ _. K)
      ∙ and_then-cong (maybe_not ts) (λ w r. and_then (and_then (either (k.Open ∷ []) (paren_at names d n) (comparison names) r) (λ x. pure (negated w x))) (λ _. K)) (λ _ r. and_then (either (k.Open ∷ []) (paren_at names d n) (comparison names) r) (λ _. K))
      (λ w r e. and_then-assoc (either (k.Open ∷ []) (paren_at names d n) (comparison names) r) (λ x. pure (negated w x)) (λ _. K))

  paren-then : (d : ℕ) (ds : List ℕ) (ts : List Token) → length ts ≤ n → begins (k.Open ∷ []) ts ≡ true → and_then (paren_at names d n ts) (λ _. rest ds) ≡ and_then (expect k.Open ts) (λ _ r. and_then (neg (d + 1) r) (λ _. rest ((d + 1) ∷ ds)))
  unfolding rest
  paren-then d ds ts le b = go n refl
    where
      nil : (ts : List Token) → length ts ≤ 0 → ts ≡ []
      nil [] le = refl
      nil (t ∷ ts) le = absurd (omega (arith, le))

      abbrev_goal : Type 0
      abbrev_goal = and_then (paren_at names d n ts) (λ _. rest ds) ≡ and_then (expect k.Open ts) (λ _ r. and_then (neg (d + 1) r) (λ _. rest ((d + 1) ∷ ds)))

      go : (m : ℕ) → n ≡ m → and_then (paren_at names d n ts) (λ _. rest ds) ≡ and_then (expect k.Open ts) (λ _ r. and_then (neg (d + 1) r) (λ _. rest ((d + 1) ∷ ds)))
      go zero e = absurd (both_ways (begins (k.Open ∷ []) ts) b (ap (begins (k.Open ∷ [])) (nil ts (omega (arith, le, e)))))
      go (suc m) e =
          ap (λ j. and_then (paren_at names d j ts) (λ _. rest ds)) e
          ∙ and_then-assoc (expect k.Open ts) (λ t r. and_then (disjunction names (paren_at names (d + 1) m) m r) (λ x r. and_then (expect k.Close r) (λ _. pure (nested d t x)))) (λ _. rest ds)
          ∙ and_then-cong (expect k.Open ts) (λ t r. and_then (and_then (disjunction names (paren_at names (d + 1) m) m r) (λ x r. and_then (expect k.Close r) (λ _. pure (nested d t x)))) (λ _. rest ds))
          (λ _ r. and_then (neg (d + 1) r) (λ _. rest ((d + 1) ∷ ds)))
          (λ t r f. let s = shrinks (word k.Open) n ts r t le f in
          and_then-assoc (disjunction names (paren_at names (d + 1) m) m r) (λ x r. and_then (expect k.Close r) (λ _. pure (nested d t x))) (λ _. rest ds)
          ∙ and_then-cong (disjunction names (paren_at names (d + 1) m) m r) (λ x r. and_then (and_then (expect k.Close r) (λ _. pure (nested d t x))) (λ _. rest ds)) (λ _. closing ds)
          (λ x r g. and_then-assoc (expect k.Close r) (λ _. pure (nested d t x)) (λ _. rest ds))
          ∙ ap (λ o. and_then o (λ _. closing ds)) (agree (disjunction-reads names (d + 1)) m n r (omega (arith, s, le, e)) (omega (arith, s, le)))
          ∙ disj-then (closing ds) (d + 1) r)

  -- ---- the turns of the loop

  abbrev Wants : ℕ → Type 0
  Wants m = (d : ℕ) (ds : List ℕ) (ts : List Token) → suc (length ts) ≤ m → length ts ≤ n → scan names m (suc (length ds)) true ts ≡ and_then (neg d ts) (λ _. rest (d ∷ ds))

  abbrev Has : ℕ → Type 0
  Has m = (ds : List ℕ) (ts : List Token) → suc (length ts) ≤ m → length ts ≤ n → scan names m (length ds) false ts ≡ rest ds ts

  wants_step : (m : ℕ) → Wants m → Has m → Wants (suc m)
  wants_step m w h d ds ts le len =
      and_then-cong (maybe_not ts) (λ _ r. either (k.Open ∷ []) opened compared r) (λ _ r. and_then (either (k.Open ∷ []) (paren_at names d n) (comparison names) r) (λ _. rest (d ∷ ds)))
      (λ x r e. turn r (no_longer x r e))
      ∙ sym (neg-then (rest (d ∷ ds)) d ts)
    where
      opened : Parser (Unit {0})
      opened = λ r. and_then (expect k.Open r) (λ t. scan names m (suc (suc (length ds))) true)

      compared : Parser (Unit {0})
      compared = λ r. and_then (comparison names r) (λ x. scan names m (suc (length ds)) false)

      no_longer : (x : Option Token) (r : List Token) → maybe_not ts ≡ Ok (x, r) → length r ≤ length ts
      no_longer x r e = let t = (maybe_not-reads.answer n).ok ts x r len e in omega (arith, ap length t.split, length-append t.front r)

      turn : (r : List Token) → length r ≤ length ts → either (k.Open ∷ []) opened compared r ≡ and_then (either (k.Open ∷ []) (paren_at names d n) (comparison names) r) (λ _. rest (d ∷ ds))
      turn r short = elim (decide (begins (k.Open ∷ []) r)) [
        | inl b ↦
            took (k.Open ∷ []) opened compared r b
            ∙ and_then-cong (expect k.Open r) (λ t. scan names m (suc (suc (length ds))) true) (λ _ r. and_then (neg (d + 1) r) (λ _. rest ((d + 1) ∷ (d ∷ ds))))
            (λ t r2 e. let s = shrinks (word k.Open) n r r2 t (omega (arith, short, len)) e in w (d + 1) (d ∷ ds) r2 (omega (arith, s, short, le)) (omega (arith, s, short, len)))
            ∙ sym (paren-then d (d ∷ ds) r (omega (arith, short, len)) b)
            ∙ sym (ap (λ o. and_then o (λ _. rest (d ∷ ds))) (took (k.Open ∷ []) (paren_at names d n) (comparison names) r b))
        | inr b ↦
            passed (k.Open ∷ []) opened compared r b
            ∙ and_then-cong (comparison names r) (λ x. scan names m (suc (length ds)) false) (λ _. rest (d ∷ ds))
            (λ x r2 e. let s = shrinks (comparison-reads names) n r r2 x (omega (arith, short, len)) e in h (d ∷ ds) r2 (omega (arith, s, short, le)) (omega (arith, s, short, len)))
            ∙ sym (ap (λ o. and_then o (λ _. rest (d ∷ ds))) (passed (k.Open ∷ []) (paren_at names d n) (comparison names) r b))
      ]

  has_step : (m : ℕ) → Wants m → Has m → Has (suc m)
  unfolding rest
  has_step m w h [] ts le len = refl
  has_step m w h (d ∷ ds) ts le len = elim (decide (begins (k.And ∷ []) ts)) [
    | inl a ↦
        took (k.And ∷ []) by_and others ts a
        ∙ and_then-cong (expect k.And ts) (λ t. scan names m (suc (length ds)) true) (λ _ r. and_then (neg d r) (λ _. rest (d ∷ ds)))
        (λ t r e. let s = shrinks (word k.And) n ts r t len e in w d ds r (omega (arith, s, le)) (omega (arith, s, len)))
        ∙ sym (rest-and d ds ts len a)
    | inr a ↦ passed (k.And ∷ []) by_and others ts a ∙ elim (decide (begins (k.Or ∷ []) ts)) [
      | inl b ↦
          took (k.Or ∷ []) by_or by_close ts b
          ∙ and_then-cong (expect k.Or ts) (λ t. scan names m (suc (length ds)) true) (λ _ r. and_then (neg d r) (λ _. rest (d ∷ ds)))
          (λ t r e. let s = shrinks (word k.Or) n ts r t len e in w d ds r (omega (arith, s, le)) (omega (arith, s, len)))
          ∙ sym (rest-or d ds ts len a b)
      | inr b ↦
          passed (k.Or ∷ []) by_or by_close ts b
          ∙ and_then-cong (expect k.Close ts) (λ t. scan names m (length ds) false) (λ _. rest ds)
          (λ t r e. let s = shrinks (word k.Close) n ts r t len e in h ds r (omega (arith, s, le)) (omega (arith, s, len)))
          ∙ sym (rest-close d ds ts a b)
    ]
  ]
    where
      by_and : Parser (Unit {0})
      by_and = λ r. and_then (expect k.And r) (λ t. scan names m (suc (length ds)) true)

      by_or : Parser (Unit {0})
      by_or = λ r. and_then (expect k.Or r) (λ t. scan names m (suc (length ds)) true)

      by_close : Parser (Unit {0})
      by_close = λ r. and_then (expect k.Close r) (λ t. scan names m (length ds) false)

      others : Parser (Unit {0})
      others = λ r. either (k.Or ∷ []) by_or by_close r

  turns : (m : ℕ) → Wants m × Has m
  turns zero = (λ d ds ts le len. absurd (omega (arith, le)), λ ds ts le len. absurd (omega (arith, le)))
  turns (suc m) = let t = turns m in (wants_step m t.0 t.1, has_step m t.0 t.1)

  pub scan-inside : (depth m : ℕ) (ts : List Token) → suc (length ts) ≤ m → length ts ≤ n → scan names m 1 true ts ≡ inside names depth n ts
  unfolding rest
  scan-inside depth m ts le len = (turns m).0 depth [] ts le len ∙ sym (disj-then (λ r. and_then (expect k.Close r) (λ _. pure tt)) depth ts)
