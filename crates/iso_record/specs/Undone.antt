-- What undoing a record makes of a slot.
use Rattle.std.specs.List.{list_all}
use Rattle.std.specs.Prelude.{ℕ, Bool, true, false, List, [], ◌∷◌, if◌then◌else◌, nat_lt, slice_set, Some, None, Option}
use Rattle.iso_record.specs.declared.record.Change.{Change}
use Rattle.iso_record.specs.declared.record.Change.TheVariants.{Delete, Insert, Undone, Update}
use Rattle.iso_record.specs.declared.record.Record.{Record}
use Rattle.iso_types.specs.declared.value.Value.{Value}

-- a slot's row, and whether it is live
pub record Face : Type 0 where
  pub row : List Value
  pub live : Bool

-- what a slot shows: its row where it is live, or Absent
abbrev pub shown : Face → Option (List Value)
shown f = if f.live then Some f.row else None

-- the row with old values written back into their columns
abbrev pub restored : List (ℕ × Value) → List Value → List Value
restored [] row = row
restored (p ∷ ps) row = restored ps (slice_set row p.0 p.1)

-- a change is undone: an Insert leaves a dead slot and a Delete a live one, an Update's old values are written back,
-- and an Undone changes nothing
abbrev pub undone : Change → Face → Face
undone Insert f = record f { live = false }
undone (Update olds) f = record f { row = restored olds f.row }
undone Delete f = record f { live = true }
undone (Undone n) f = f

-- the changes of these records are undone, one by one
abbrev pub all_undone : List Record → Face → Face
all_undone [] f = f
all_undone (n ∷ ns) f = all_undone ns (undone n.change f)

-- the columns of the change are in a row of this width
abbrev pub columns_in : ℕ → Change → Bool
columns_in width (Update olds) = list_all (λ p. nat_lt p.0 width) olds
columns_in width _ = true
