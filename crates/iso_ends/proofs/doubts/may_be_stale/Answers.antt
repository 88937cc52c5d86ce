use Rattle.std.proofs.Common.{arith, sym}
use Rattle.iso_state.specs.Stands.{world_of}
use Rattle.iso_ends.proofs.StaleWalks.{fresh-next, stale-none}
use Rattle.iso_ends.proofs.doubts.may_be_stale.Goals as goal

pub loop-at-init : goal.loop-at-init
loop-at-init c = (c.requires.known, λ k lt. absurd (omega (arith, lt)))

pub loop-at-preserved : goal.loop-at-preserved
loop-at-preserved c =
    let p = c.args.parts.now in (
      c.may_be_stale_of.ensures.known,
      fresh-next p.head (world_of p) c.loop-at.at c.loop-at.invariant.1 (c.may_be_stale_of.ensures.fresh c.if-may_be_stale_of.false),
    )

pub returns-clause-fresh : goal.returns-clause-fresh
returns-clause-fresh c e =
    let p = c.args.parts.now in
    sym (stale-none p.head (world_of p) (λ k lt. c.loop-at.invariant.1 k (omega (arith, lt, c.loop-at-test.false, c.len-at-end.ensures))))
