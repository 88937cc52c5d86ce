use Rattle.std.proofs.Common.{◌∙◌, sym}
use Rattle.iso_state.specs.Stands.{world_of}
use Rattle.iso_state.proofs.FactsAlong.{facts-of}
use Rattle.iso_state.proofs.LockReads.{one-wait}
use Rattle.iso_pace.proofs.Graphs.{edges-told}
use Rattle.iso_pace.proofs.Waits.{no-edge}
use Rattle.iso_pace.proofs.cycles.edges_of.Goals as goal

pub returns-then-waits : goal.returns-then-waits
returns-then-waits c =
    let p = c.args.parts.now in
    let s = c.requires.stands.stands in
    λ d. edges-told p.head (world_of p) (facts-of s) s.fits.conns c.args.conn d c.edges.result
    (c.edges.ensures (world_of p).holds (world_of p).waits s.parts.locks (one-wait p.head (world_of p) (facts-of s) c.args.conn))

pub returns-else-waits : goal.returns-else-waits
returns-else-waits c =
    let p = c.args.parts.now in
    λ d. c.none.ensures d ∙ sym (no-edge p c.requires.stands c.args.conn d (sym c.waits.ensures ∙ c.if-waits.false))
