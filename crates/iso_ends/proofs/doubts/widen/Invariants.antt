use Rattle.std.proofs.Common.{◌-◌, length}
use Rattle.iso_ends.specs.Doubts.{AreDoubts}
use Rattle.iso_ends.proofs.doubts.widen.Given as goal

abbrev pub invariant-sets : goal.invariant-sets
invariant-sets l = AreDoubts l.parts.head l.parts.history.items l.sets

abbrev pub decreases-sets : goal.decreases-sets
decreases-sets l = length l.parts.head.indexes - length l.sets
