use Rattle.std.proofs.Common.{◌≡◌, map}
use Rattle.std.specs.List.{range_with_len}
use Rattle.iso_chain.specs.Views.{bare}
use Rattle.iso_table.specs.Slots.{new_slot}
use Rattle.iso_types.specs.Head.{rows_of}
use Rattle.iso_state.proofs.FirstParts.{table_number}
use Rattle.iso_state.proofs.parts.first_tables.Given as goal

abbrev pub invariant-loop-at : goal.invariant-loop-at
invariant-loop-at l = bare l.tables ≡ map (λ k. map new_slot (rows_of l.head (table_number k))) (range_with_len 0 l.at)
