use Rattle.iso_types.proofs.Bits.{has_and}
use Rattle.iso_types.specs.Edges.{has_edge}
use Rattle.iso_types.proofs.edges.Edges.intersection.Goals as goal

pub returns : goal.returns
unfolding has_edge
returns c = λ d. has_and c.args.self.0 c.args.other.0 d.0
