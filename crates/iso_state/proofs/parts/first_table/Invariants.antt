use Rattle.std.proofs.Common.{◌≡◌, filter, map, take}
use Rattle.iso_table.specs.Slots.{new_slot}
use Rattle.iso_types.specs.Ids.{table_eq}
use Rattle.iso_state.proofs.parts.first_table.Given as goal

abbrev pub invariant-loop-first : goal.invariant-loop-first
invariant-loop-first l = l.slots.items ≡ map new_slot (map (λ f. f.row) (filter (λ f. table_eq f.table l.table) (take l.first-index l.head.rows)))
