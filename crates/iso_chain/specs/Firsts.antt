-- Slots, log and units before the first entry.
use Rattle.std.specs.Prelude.{[], length, map, replicate, None}
use Rattle.iso_table.specs.Slots.{new_slot}
use Rattle.iso_types.specs.Head.{rows_of, tables}
use Rattle.iso_types.specs.declared.head.Head.{Head}
use Rattle.iso_chain.specs.Stands.{Chained}

-- a live slot for each row that the head gives a table, no record, and no open unit
abbrev pub first_chained : Head → Chained
first_chained head = record {
  tables = map (λ t. map new_slot (rows_of head t)) (tables head);
  log = [];
  book = record { begun = 0; works = replicate (length head.conns) None };
}
