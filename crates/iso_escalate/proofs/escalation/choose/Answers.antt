use Rattle.std.proofs.Common.{◌≡◌, subst, arith, ℕ, length}
use Rattle.iso_escalate.proofs.Most.{IsMost, least_told, most_told, prey_is}
use Rattle.iso_queue.specs.Limits.{weight}
use Rattle.iso_escalate.proofs.escalation.choose.Goals.{then-weight-most, else-weight-most}
use Rattle.iso_escalate.proofs.escalation.choose.Goals as goal

pub loop-at-preserved : goal.loop-at-preserved
loop-at-preserved c = λ hs xs tables are single.
    let is = c.loop-at.invariant hs xs tables are single in
    let here = c.weight-weight.ensures c.args.head.now hs xs tables are single in
    elim c.if-weight-most.branch [
      | then-weight-most b ↦ most_told (weight c.args.head.now hs c.args.conn) c.loop-at.at c.loop-at.most c.weight-weight.result c.loop-at.prey _ _ is here b.if-weight-most.true b.prey-is b.most-is
      | else-weight-most b ↦ least_told (weight c.args.head.now hs c.args.conn) c.loop-at.at c.loop-at.most c.weight-weight.result c.loop-at.prey _ _ is here b.if-weight-most.false b.prey-is b.most-is
    ]

pub returns : goal.returns
returns c = λ hs xs tables are single.
    let end : c.loop-at.at ≡ length c.args.head.now.tables = omega (arith, c.loop-at-test.false, c.loop-at.auto.at-end, c.len-at-end.ensures) in
    prey_is c.args.head.now hs c.args.conn c.loop-at.most c.loop-at.prey
    (subst (λ (k : ℕ). IsMost (weight c.args.head.now hs c.args.conn) k c.loop-at.most c.loop-at.prey) end (c.loop-at.invariant hs xs tables are single))
