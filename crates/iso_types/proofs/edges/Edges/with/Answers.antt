use Rattle.iso_types.proofs.Bits.{has_with}
use Rattle.iso_types.specs.Edges.{has_edge}
use Rattle.iso_types.proofs.edges.Edges.with.Goals as goal

pub returns : goal.returns
unfolding has_edge
returns c = λ d. has_with c.args.self.0 c.args.conn.0 d.0 c.requires
