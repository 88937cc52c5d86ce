use Rattle.std.proofs.Common.{◌∙◌, arith, refl}
use Rattle.std.proofs.Math.ListN.{length-set}
use Rattle.iso_state.specs.Stands.{world_of}
use Rattle.iso_pace.proofs.Graphs.{all-told, first-told, one-told}
use Rattle.iso_pace.proofs.cycles.graph.Goals as goal

pub loop-at-init : goal.loop-at-init
loop-at-init c = (refl, first-told c.args.parts.now.head (world_of c.args.parts.now) 32 c.none-sets.result c.none-sets.ensures)

pub loop-at-preserved : goal.loop-at-preserved
loop-at-preserved c =
    let p = c.args.parts.now in
    let few = c.requires.stands.stands.fits.conns in (
      length-set c.loop-at.sets c.loop-at.at c.edges_of.result ∙ c.loop-at.invariant.0,
      one-told p.head (world_of p) c.loop-at.at c.loop-at.sets c.edges_of.result
          (omega (arith, few, c.loop-at.invariant.0, c.loop-at-test.true, c.len-at-end.ensures)) c.edges_of.ensures c.loop-at.invariant.1,
    )

pub returns : goal.returns
returns c =
    let p = c.args.parts.now in
    all-told p.head (world_of p) c.loop-at.at c.loop-at.sets (omega (arith, c.loop-at-test.false, c.len-at-end.ensures)) c.loop-at.invariant.1
    (omega (arith, c.loop-at.auto.at-end, c.len-at-end.ensures))
