-- The records that a unit has left, along its own chain.
use Rattle.std.specs.Prelude.{◌≡◌, ℕ, ◌<◌, List, [], ◌∷◌, length, IfSome, Some, None, Option}
use Rattle.iso_record.specs.declared.record.Record.{Record}
use Rattle.iso_table.specs.declared.slot.Slot.{Slot}
use Rattle.iso_chain.specs.Logs.{record_at}
use Rattle.iso_chain.specs.Slots.{slots_of}

-- these numbers follow one another along `prev_unit`, down to a record that has none
abbrev pub IsLine : List Record → Option ℕ → List ℕ → Type 0
IsLine log at [] = at ≡ None
IsLine log at (n ∷ ns) =
    (at ≡ Some n) × (n < length log) × IfSome (record_at log n).prev_unit (λ j. j < n) × IsLine log (record_at log n).prev_unit ns

-- each of these records is of a slot that is there
abbrev pub AreWithin : List Record → List (List Slot) → List ℕ → Type 0
AreWithin log tables [] = Unit {0}
AreWithin log tables (n ∷ ns) =
    ((record_at log n).table.0 < length tables) × ((record_at log n).rid.0 < length (slots_of tables (record_at log n).table)) × AreWithin log tables ns

-- the log has such a line, and its slots are there
abbrev pub HasLine : List Record → List (List Slot) → Option ℕ → Type 0
HasLine log tables at = (ns : List ℕ) × IsLine log at ns × AreWithin log tables ns
