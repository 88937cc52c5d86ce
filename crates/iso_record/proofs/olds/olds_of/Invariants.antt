use Rattle.std.proofs.Common.{◌≡◌, ◌++◌, drop}
use Rattle.iso_record.specs.Olds.{olds, olds_from}
use Rattle.iso_record.proofs.olds.olds_of.Given as goal

abbrev pub invariant-loop-at : goal.invariant-loop-at
invariant-loop-at l = l.list ++ olds_from l.at (drop l.at l.old) (drop l.at l.new) ≡ olds l.old l.new
