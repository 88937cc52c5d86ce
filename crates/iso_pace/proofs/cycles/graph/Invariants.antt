use Rattle.std.proofs.Common.{◌≡◌, length}
use Rattle.iso_pace.specs.Told.{AreToldTo}
use Rattle.iso_state.specs.Stands.{world_of}
use Rattle.iso_pace.proofs.cycles.graph.Given as goal

abbrev pub invariant-loop-at : goal.invariant-loop-at
invariant-loop-at l = (length l.sets ≡ 32) × AreToldTo l.parts.head (world_of l.parts) l.at l.sets
