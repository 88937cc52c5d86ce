use Rattle.std.proofs.Common.{◌∙◌, Bool, not, ap}
use Rattle.iso_pace.proofs.Peels.{all-first, all-next, least-none, none-left}
use Rattle.iso_pace.proofs.cores.may_be_cyclic.Goals as goal

pub loop-round-init : goal.loop-round-init
loop-round-init c = all-first c.args.edges.now c.everyone-left.result c.everyone-left.ensures

pub loop-round-preserved : goal.loop-round-preserved
loop-round-preserved c =
    all-next c.args.edges.now c.loop-round.left c.leading_into.result c.intersection-next.result c.leading_into.ensures c.intersection-next.ensures
    c.loop-round.invariant

pub returns-then-is_none : goal.returns-then-is_none
returns-then-is_none c e =
    none-left c.args.edges.now c.intersection-next.result
    (least-none c.intersection-next.result _ c.least.result c.least.ensures (c.is_none.ensures ∙ ap not c.if-is_none.true))
    (all-next c.args.edges.now c.loop-round.left c.leading_into.result c.intersection-next.result c.leading_into.ensures c.intersection-next.ensures
    c.loop-round.invariant)
