use Rattle.iso_ends.specs.Doubts.{WasKnown, known_of}
use Rattle.iso_ends.proofs.reading.read_on.Given as goal

abbrev pub invariant-loop-at : goal.invariant-loop-at
invariant-loop-at l = WasKnown l.parts.head l.parts.history.items l.index (known_of l.doubt) l.at
