use Rattle.std.proofs.Common.{arith}
use Rattle.std.proofs.lemmas.List.{get_or_default}
use Rattle.std.proofs.lemmas.List.Edits.{map_over_more}
use Rattle.iso_queue.specs.Lines.{settled_hold}
use Rattle.iso_queue.proofs.lists.settle_each.Goals as goal

pub loop-at-preserved : goal.loop-at-preserved
loop-at-preserved c = rw c.settle_hold.ensures
    (map_over_more (settled_hold c.args.conn c.args.spared) c.args.holders.now c.loop-at.holders c.loop-at.at _ c.loop-at-test.true
    c.loop-at.invariant (get_or_default c.loop-at.holders c.loop-at.at _ _ (omega (arith, c.loop-at-test.true, c.loop-at.auto.holders))))
