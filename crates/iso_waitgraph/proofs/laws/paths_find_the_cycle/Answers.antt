use Rattle.iso_waitgraph.proofs.Agree.{chosen, chosen-one, on-cycle}
use Rattle.iso_waitgraph.proofs.laws.paths_find_the_cycle.Goals as goal

pub returns-clause-chosen : goal.returns-clause-chosen
returns-clause-chosen c = chosen

pub returns-clause-on : goal.returns-clause-on
returns-clause-on c = λ edge targets all d h. on-cycle edge targets all h d

pub returns-clause-one : goal.returns-clause-one
returns-clause-one c = chosen-one
