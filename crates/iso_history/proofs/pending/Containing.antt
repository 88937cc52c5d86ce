-- What holds of all that a list contains, by recursion, and back.
use Rattle.std.proofs.Common.{◌≡◌, ◌<◌, ℕ, zero, suc, List, [], ◌∷◌, length, refl, arith, subst, slice_index_or, Contains}

module _ {X : Type 0} (P : X → Type 0) where
  -- P holds of each, by recursion
  abbrev pub Each : List X → Type 0
  Each [] = Unit {0}
  Each (x ∷ xs) = P x × Each xs

  pub each-of : (xs : List X) → ((x : X) → Contains xs x → P x) → Each xs
  each-of [] h = tt
  each-of (x ∷ xs) h = (h x (0, omega arith, refl), each-of xs (λ y c. h y (suc c.0, omega (arith, c.1), c.2)))

  each-at : (xs : List X) → Each xs → (x : X) (k : ℕ) → k < length xs → slice_index_or xs k x ≡ x → P x
  each-at [] h x k lt e = absurd (omega (arith, lt))
  each-at (y ∷ ys) h x zero lt e = subst P e h.0
  each-at (y ∷ ys) h x (suc k) lt e = each-at ys h.1 x k (omega (arith, lt)) e

  pub of-each : (xs : List X) → Each xs → (x : X) → Contains xs x → P x
  of-each xs h x c = each-at xs h x c.0 c.1 c.2
