use Rattle.iso_pace.proofs.Peels.{HasAll}
use Rattle.iso_pace.proofs.cores.may_be_cyclic.Given as goal

abbrev pub invariant-loop-round : goal.invariant-loop-round
invariant-loop-round l = HasAll l.edges l.left
