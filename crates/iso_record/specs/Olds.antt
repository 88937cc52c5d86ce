-- The old values of the columns that a change changes.
use Rattle.std.specs.Prelude.{ℕ, ◌+◌, List, [], ◌∷◌, if◌then◌else◌}
use Rattle.iso_types.specs.Value.{value_eq}
use Rattle.iso_types.specs.declared.value.Value.{Value}

-- the old values of the columns, from column k on, in which the rows differ
abbrev pub olds_from : ℕ → List Value → List Value → List (ℕ × Value)
olds_from k [] news = []
olds_from k (a ∷ rest) [] = []
olds_from k (a ∷ rest) (b ∷ bs) = if value_eq a b then olds_from (k + 1) rest bs else (k, a) ∷ olds_from (k + 1) rest bs

-- the old values of the changed columns
abbrev pub olds : List Value → List Value → List (ℕ × Value)
olds old new = olds_from 0 old new

-- the old value of one column, where it differs
abbrev pub old_of : ℕ → Value → Value → List (ℕ × Value)
old_of k a b = if value_eq a b then [] else (k, a) ∷ []
