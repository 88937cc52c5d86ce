use Rattle.std.proofs.Common.{take}
use Rattle.iso_state.specs.Stands.{world_of}
use Rattle.iso_pace.specs.Told.{IsYoungestOf}
use Rattle.iso_pace.proofs.deadlocks.youngest.Given as goal

abbrev pub invariant-loop-at : goal.invariant-loop-at
invariant-loop-at l = IsYoungestOf l.parts.head (world_of l.parts) (take l.at l.cycle) l.youngest
