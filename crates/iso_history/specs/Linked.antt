-- The records that a unit has left.
use Rattle.std.specs.Prelude.{◌≡◌, ℕ, ◌+◌, ◌<◌, List, [], ◌∷◌, length, if◌then◌else◌, ◌==◌, slice_get, Some, None, Option}
use Rattle.iso_history.specs.Records.{left, note_of}
use Rattle.iso_history.specs.World.{Note}

-- all are less
abbrev pub AllBelow : ℕ → List ℕ → Type 0
AllBelow n [] = Unit {0}
AllBelow n (m ∷ ms) = (m < n) × AllBelow n ms

-- each record that the unit has left names the one below it
abbrev pub Linked : List Note → List ℕ → Type 0
Linked notes [] = Unit {0}
Linked notes (n ∷ ns) = (n < length notes) × ((note_of notes n).prev_unit ≡ slice_get ns 0) × AllBelow n ns × Linked notes ns

-- for each unit
unfoldable pub AllLinked : List Note → Type 0
AllLinked notes = (u : ℕ) → Linked notes (left notes u)

-- the first record of the unit from record k on, undone or not
abbrev pub first_from : ℕ → ℕ → List Note → Option ℕ
first_from u k [] = None
first_from u k (n ∷ ns) = if n.unit == u then Some k else first_from u (k + 1) ns

-- the first record of the unit
abbrev pub first_made : List Note → ℕ → Option ℕ
first_made notes u = first_from u 0 notes

-- what the unit has left are its own records
abbrev pub Owned : List Note → ℕ → List ℕ → Type 0
Owned notes u [] = Unit {0}
Owned notes u (n ∷ ns) = (n < length notes) × ((note_of notes n).unit ≡ u) × Owned notes u ns

-- for each unit
unfoldable pub AllOwned : List Note → Type 0
AllOwned notes = (u : ℕ) → Owned notes u (left notes u)
