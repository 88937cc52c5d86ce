use Rattle.iso_waitgraph.proofs.Paths.{cycle-inside}
use Rattle.iso_waitgraph.proofs.laws.a_closed_set_has_a_cycle.Goals as goal

pub returns : goal.returns
returns c = cycle-inside
