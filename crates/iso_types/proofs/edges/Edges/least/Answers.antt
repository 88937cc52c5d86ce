use Rattle.std.proofs.Common.{arith}
use Rattle.iso_types.proofs.Bits.{has_least, has_zero}
use Rattle.iso_types.specs.Edges.{has_edge}
use Rattle.iso_types.proofs.edges.Edges.least.Goals as goal

pub returns-then-self-eq0 : goal.returns-then-self-eq0
unfolding has_edge
returns-then-self-eq0 c = λ d. rw c.if-self-eq0.true (has_zero d.0)

pub returns : goal.returns
unfolding has_edge
returns c =
    let t = has_least c.args.self.0 (omega arith) (omega arith) in
    (t.0, t.1, λ d h. t.2 d.0 h)
