use Rattle.iso_script.specs.Kept.{IsKept}
use Rattle.iso_script.proofs.tests.keys_taken.Given as goal

abbrev pub invariant-loop-key : goal.invariant-loop-key
invariant-loop-key l = IsKept l.progress
