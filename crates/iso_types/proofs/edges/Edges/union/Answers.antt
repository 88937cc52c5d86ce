use Rattle.iso_types.proofs.Bits.{has_or}
use Rattle.iso_types.specs.Edges.{has_edge}
use Rattle.iso_types.proofs.edges.Edges.union.Goals as goal

pub returns : goal.returns
unfolding has_edge
returns c = λ d. has_or c.args.self.0 c.args.other.0 d.0
