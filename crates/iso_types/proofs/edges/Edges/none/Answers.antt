use Rattle.iso_types.proofs.Bits.{has_zero}
use Rattle.iso_types.specs.Edges.{has_edge}
use Rattle.iso_types.proofs.edges.Edges.none.Goals as goal

pub returns : goal.returns
unfolding has_edge
returns c = λ d. has_zero d.0
