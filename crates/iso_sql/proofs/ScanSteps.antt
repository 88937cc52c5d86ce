-- One turn of the loop that reads without a call of itself.
use Rattle.std.proofs.Common.{◌≡◌, ℕ, zero, suc, ◌+◌, ◌-◌, ◌<◌, Bool, true, false, cond, List, [], ◌∷◌, Option, Ok, sym, ap, ◌∙◌, arith}
use Rattle.iso_grammar.specs.declared.token.Kind.TheVariants as k
use Rattle.iso_grammar.specs.declared.token.Kind.{Kind}
use Rattle.iso_grammar.specs.declared.token.Token.{Token}
use Rattle.iso_grammar.specs.Kinds.{Kinds}
use Rattle.iso_sql.specs.Names.{Names}
use Rattle.iso_sql.specs.declared.found.Found.{Found}
use Rattle.iso_grammar.specs.Reading.{Parser, and_then, begins, expect, either}
use Rattle.iso_sql.specs.ConditionReading.{maybe_not, comparison, scan}

took : {A : Type 0} (first : Kinds) (p q : Parser A) (ts : List Token) → begins first ts ≡ true → either first p q ts ≡ p ts
took first p q ts e = ap (λ b. cond b (p ts) (q ts)) e

passed : {A : Type 0} (first : Kinds) (p q : Parser A) (ts : List Token) → begins first ts ≡ false → either first p q ts ≡ q ts
passed first p q ts e = ap (λ b. cond b (p ts) (q ts)) e

fewer : (n i : ℕ) → i < n → n - i ≡ suc (n - (i + 1))
fewer n i lt = omega arith

module _ (names : Names) (n i : ℕ) (lt : i < n) where
  abbrev m : ℕ
  m = n - (i + 1)

  opened : (o : ℕ) → Parser (Unit {0})
  opened o = λ r. and_then (expect k.Open r) (λ t. scan names m (suc o) true)

  compared : (o : ℕ) → Parser (Unit {0})
  compared o = λ r. and_then (comparison names r) (λ x. scan names m o false)

  pub opens : (o o' : ℕ) (w : Bool) (ts r after : List Token) (x : Option Token) (t : Token) → w ≡ true → o' ≡ o + 1 → maybe_not ts ≡ Ok (x, r) → begins (k.Open ∷ []) r ≡ true → expect k.Open r ≡ Ok (t, after)
      → scan names (n - (i + 1)) o' true after ≡ scan names (n - i) o w ts
  unfolding opened compared
  opens o o' w ts r after x t ew eo em b ee =
      let up : o' ≡ suc o = omega (arith, eo) in
      ap (λ z. scan names m z true after) up ∙ sym (
      ap (λ z. scan names z o w ts) (fewer n i lt) ∙ ap (λ v. scan names (suc m) o v ts) ew ∙ ap (λ z. and_then z (λ w. either (k.Open ∷ []) (opened o) (compared o))) em
      ∙ took (k.Open ∷ []) (opened o) (compared o) r b ∙ ap (λ z. and_then z (λ t. scan names m (suc o) true)) ee)

  pub compares : (o : ℕ) (w : Bool) (ts r after : List Token) (x : Option Token) (f : Found) → w ≡ true → maybe_not ts ≡ Ok (x, r) → begins (k.Open ∷ []) r ≡ false → comparison names r ≡ Ok (f, after)
      → scan names (n - (i + 1)) o false after ≡ scan names (n - i) o w ts
  unfolding opened compared
  compares o w ts r after x f ew em b ee =
      sym (
      ap (λ z. scan names z o w ts) (fewer n i lt) ∙ ap (λ v. scan names (suc m) o v ts) ew ∙ ap (λ z. and_then z (λ w. either (k.Open ∷ []) (opened o) (compared o))) em
      ∙ passed (k.Open ∷ []) (opened o) (compared o) r b ∙ ap (λ z. and_then z (λ t. scan names m o false)) ee)

  by : Kind → ℕ → Parser (Unit {0})
  by kind o = λ r. and_then (expect kind r) (λ t. scan names m (suc o) true)

  closes : ℕ → Parser (Unit {0})
  closes o = λ r. and_then (expect k.Close r) (λ t. scan names m o false)

  have : (o : ℕ) (w : Bool) (ts : List Token) → w ≡ false → scan names (n - i) (suc o) w ts ≡ either (k.And ∷ []) (by k.And o) (either (k.Or ∷ []) (by k.Or o) (closes o)) ts
  unfolding by closes
  have o w ts ew = ap (λ z. scan names z (suc o) w ts) (fewer n i lt) ∙ ap (λ v. scan names (suc m) (suc o) v ts) ew

  pub joins_and : (o : ℕ) (w : Bool) (ts after : List Token) (t : Token) → w ≡ false → 0 < o → begins (k.And ∷ []) ts ≡ true → expect k.And ts ≡ Ok (t, after) → scan names (n - (i + 1)) o true after ≡ scan names (n - i) o w ts
  unfolding by closes
  joins_and zero w ts after t ew pos b ee = absurd (omega (arith, pos))
  joins_and (suc o) w ts after t ew pos b ee = sym (have o w ts ew ∙ took (k.And ∷ []) (by k.And o) (either (k.Or ∷ []) (by k.Or o) (closes o)) ts b ∙ ap (λ z. and_then z (λ t. scan names m (suc o) true)) ee)

  pub joins_or : (o : ℕ) (w : Bool) (ts after : List Token) (t : Token) → w ≡ false → 0 < o → begins (k.And ∷ []) ts ≡ false → begins (k.Or ∷ []) ts ≡ true → expect k.Or ts ≡ Ok (t, after) → scan names (n - (i + 1)) o true after ≡ scan names (n - i) o w ts
  unfolding by closes
  joins_or zero w ts after t ew pos a b ee = absurd (omega (arith, pos))
  joins_or (suc o) w ts after t ew pos a b ee =
      sym (have o w ts ew ∙ passed (k.And ∷ []) (by k.And o) (either (k.Or ∷ []) (by k.Or o) (closes o)) ts a ∙ took (k.Or ∷ []) (by k.Or o) (closes o) ts b ∙ ap (λ z. and_then z (λ t. scan names m (suc o) true)) ee)

  pub closed : (o o' : ℕ) (w : Bool) (ts after : List Token) (t : Token) → w ≡ false → 0 < o → o' ≡ o - 1 → begins (k.And ∷ []) ts ≡ false → begins (k.Or ∷ []) ts ≡ false → expect k.Close ts ≡ Ok (t, after) → scan names (n - (i + 1)) o' false after ≡ scan names (n - i) o w ts
  unfolding by closes
  closed zero o' w ts after t ew pos eo a b ee = absurd (omega (arith, pos))
  closed (suc o) o' w ts after t ew pos eo a b ee =
      let down : o' ≡ o = omega (arith, eo) in
      ap (λ z. scan names m z false after) down ∙
      sym (have o w ts ew ∙ passed (k.And ∷ []) (by k.And o) (either (k.Or ∷ []) (by k.Or o) (closes o)) ts a ∙ passed (k.Or ∷ []) (by k.Or o) (closes o) ts b ∙ ap (λ z. and_then z (λ t. scan names m o false)) ee)
