-- Slots of a table.
use Rattle.std.specs.Prelude.{true, false, List, [], slice_index_or, None}
use Rattle.iso_table.specs.declared.slot.Slot.{Slot}
use Rattle.iso_types.specs.declared.value.Rid.{Rid}
use Rattle.iso_types.specs.declared.value.Value.{Value}

-- a slot that was just made: live, with no record of a pending change
abbrev pub new_slot : List Value → Slot
new_slot row = record { row = row; live = true; head = None; first = None }

-- what stands for a slot that is not there
abbrev pub no_slot : Slot
no_slot = record { row = []; live = false; head = None; first = None }

-- the slot with this rid
abbrev pub slot_at : List Slot → Rid → Slot
slot_at slots r = slice_index_or slots r.0 no_slot
