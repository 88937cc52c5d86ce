use Rattle.iso_lines.proofs.Pruned.{ArePruned}
use Rattle.iso_lines.proofs.work.prune.Given as goal

abbrev pub invariant-loop-at : goal.invariant-loop-at
invariant-loop-at l = ArePruned l.walked.entries l.lines l.conn l.initial.names.entries l.names.entries l.at
