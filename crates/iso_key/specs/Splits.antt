-- Where a list is cut: what a test lets through stands behind.
use Rattle.std.specs.List.{list_all, list_any}
use Rattle.std.specs.Prelude.{◌≡◌, ℕ, ◌≤◌, Bool, true, false, List, [], ◌∷◌, length, take, drop}

-- behind one that passes, all pass
abbrev pub IsRising : {A : Type 0} → (A → Bool) → List A → Type 0
IsRising t [] = Unit {0}
IsRising t (x ∷ xs) = (t x ≡ true → list_all t xs ≡ true) × IsRising t xs

-- none before `low` passes, and all from `high` on
pub record IsBetween {A : Type 0} (t : A → Bool) (xs : List A) (low high : ℕ) : Type 0 where
  pub fits : low ≤ high
  pub within : high ≤ length xs
  pub before : list_any t (take low xs) ≡ false
  pub behind : list_all t (drop high xs) ≡ true

-- none before `at` passes, and all from there on
abbrev pub IsSplit : {A : Type 0} → (A → Bool) → List A → ℕ → Type 0
IsSplit t xs at = IsBetween t xs at at
