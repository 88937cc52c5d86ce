use Rattle.iso_ends.specs.Doubts.{IsKnown, known_of}
use Rattle.iso_state.specs.Stands.{world_of}
use Rattle.iso_ends.proofs.settling.sweep.Given as goal

abbrev pub invariant-loop : goal.invariant-loop
invariant-loop l = IsKnown l.parts.head (world_of l.parts) l.index (known_of l.doubt)
