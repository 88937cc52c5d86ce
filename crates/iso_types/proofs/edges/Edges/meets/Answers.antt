use Rattle.std.proofs.Common.{arith}
use Rattle.iso_types.proofs.Bits.{has_meets}
use Rattle.iso_types.specs.Edges.{has_edge}
use Rattle.iso_types.proofs.edges.Edges.meets.Goals as goal

pub returns : goal.returns
unfolding has_edge
returns c =
    let t = has_meets c.args.self.0 c.args.other.0 (omega arith) in
    (λ h. let w = t.0 h in (record { 0 = w.0 }, w.1, w.2), λ w. t.1 (w.0.0, w.1, w.2))
