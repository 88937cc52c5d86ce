use Rattle.iso_script.specs.Kept.{IsKept}
use Rattle.iso_script.proofs.tests.rows_taken.Given as goal

abbrev pub invariant-loop-count : goal.invariant-loop-count
invariant-loop-count l = IsKept l.progress
