use Rattle.std.proofs.Common.{Some}
use Rattle.iso_director.specs.Untied.{WasAcyclic}
use Rattle.iso_director.proofs.untied.untied_until.Given as goal

abbrev pub invariant-loop-at : goal.invariant-loop-at
invariant-loop-at l = WasAcyclic l.parts.head l.parts.history.items (Some l.at)
