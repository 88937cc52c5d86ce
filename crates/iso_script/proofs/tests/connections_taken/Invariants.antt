use Rattle.iso_script.specs.Kept.{IsKept}
use Rattle.iso_script.proofs.tests.connections_taken.Given as goal

abbrev pub invariant-loop-number : goal.invariant-loop-number
invariant-loop-number l = IsKept l.progress
