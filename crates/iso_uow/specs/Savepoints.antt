-- The savepoints of a unit, newest first.
use Rattle.std.specs.Option.{option_map}
use Rattle.std.specs.Prelude.{ℕ, Bool, not, List, [], ◌∷◌, if◌then◌else◌, filter, find, map, reverse, Option}
use Rattle.iso_types.specs.Ids.{text_eq}
use Rattle.iso_uow.specs.declared.marks.Savepoint.{Savepoint}

-- a name and its number of records, as a savepoint
abbrev pub savepoint_at : List ℕ × ℕ → Savepoint
savepoint_at e = record { name = e.0; at = e.1 }

-- names with their numbers in the order in which they were set, as the savepoints, newest first
abbrev pub newest_first : List (List ℕ × ℕ) → List Savepoint
newest_first es = reverse (map savepoint_at es)

-- the savepoint has this name
abbrev pub is_named : List ℕ → Savepoint → Bool
is_named name s = text_eq s.name name

-- the number of records at the savepoint of this name
abbrev pub floor_of : List Savepoint → List ℕ → Option ℕ
floor_of marks name = option_map (λ s. s.at) (find (is_named name) marks)

-- setting a name again moves it
abbrev pub set_again : List Savepoint → List ℕ → ℕ → List Savepoint
set_again marks name at = record { name = name; at = at } ∷ filter (λ s. not (is_named name s)) marks

-- the savepoints set later than the one of this name go
abbrev pub down_to : List ℕ → List Savepoint → List Savepoint
down_to name [] = []
down_to name (s ∷ ss) = if is_named name s then s ∷ ss else down_to name ss
