use Rattle.std.proofs.Common.{arith}
use Rattle.iso_types.proofs.Bits.{has_without}
use Rattle.iso_types.specs.Edges.{has_edge}
use Rattle.iso_types.proofs.edges.Edges.difference.Goals as goal

pub returns : goal.returns
unfolding has_edge
returns c = λ d. has_without c.args.self.0 c.args.other.0 d.0 (omega arith) (omega arith)
