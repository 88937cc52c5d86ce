use Rattle.std.specs.Prelude.{◌≤◌}
use Rattle.iso_state.specs.Stands.{world_of}
use Rattle.iso_writes.proofs.Numbered.{IsNeed}
use Rattle.iso_writes.proofs.indexes.key_need.Given as goal

abbrev pub invariant-loop-at : goal.invariant-loop-at
invariant-loop-at l = record {
  need : IsNeed l.parts.head (world_of l.parts) l.conn l.table l.row l.need l.at;
  few : l.need ≤ l.at;
}
