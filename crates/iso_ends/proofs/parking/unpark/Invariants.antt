use Rattle.iso_ends.specs.Doubts.{IsStill, known_of}
use Rattle.iso_ends.proofs.parking.unpark.Given as goal

abbrev pub invariant-loop : goal.invariant-loop
invariant-loop l = IsStill (known_of l.initial.doubt) (known_of l.doubt)
