-- Slots, log and units as the parts hold them.
use Rattle.std.specs.Prelude.{ℕ, List, [], map, slice_index_or}
use Rattle.iso_log.specs.Journal.{Journal}
use Rattle.iso_table.specs.declared.slot.Slot.{Slot}
use Rattle.iso_types.specs.Filled.{Filled}
use Rattle.iso_types.specs.declared.value.TableId.{TableId}
use Rattle.iso_uow.specs.Book.{Book}
use Rattle.iso_chain.specs.Stands.{Chained}

-- the slots of each table, without the room that it has
abbrev pub bare : List (Filled Slot) → List (List Slot)
bare tables = map (λ t. t.items) tables

-- slots, log and units without their room
abbrev pub chained : List (Filled Slot) → Journal → Book → Chained
chained tables log book = record { tables = bare tables; log = log.records; book = book }

-- the room of a table
abbrev pub spare_at : List (Filled Slot) → TableId → ℕ
spare_at tables t = (slice_index_or tables t.0 (record { items = []; spare = 0 })).spare
