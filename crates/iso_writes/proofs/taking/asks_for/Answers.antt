use Rattle.iso_state.specs.Stands.{world_of}
use Rattle.iso_writes.proofs.Asked.{one-more}
use Rattle.iso_writes.proofs.taking.asks_for.Goals as goal

pub loop-at-preserved : goal.loop-at-preserved
loop-at-preserved c =
    let p = c.args.parts.now in
    one-more p.head (world_of p) c.args.conn c.args.table c.args.row.now c.loop-at.at c.len-at-end.result _ c.loop-at-test.true c.len-at-end.ensures
    c.loop-at.asks c.add_ask-in-loop-at.new.asks _ _ c.key_ask.ensures c.in_ok-add_ask-2.ensures.ok c.loop-at.invariant
