use Rattle.std.specs.Option.{option_copied}
use Rattle.iso_state.specs.Stands.{world_of}
use Rattle.iso_writes.proofs.Numbered.{IsLeft}
use Rattle.iso_writes.proofs.indexes.judge_indexes.Given as goal

abbrev pub invariant-loop-at : goal.invariant-loop-at
invariant-loop-at l = IsLeft l.parts.head (world_of l.parts) l.conn l.table l.rid (option_copied l.old) l.row l.at
