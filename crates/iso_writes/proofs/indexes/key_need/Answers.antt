use Rattle.std.proofs.Common.{◌≡◌, arith, length}
use Rattle.iso_state.specs.Stands.{world_of}
use Rattle.iso_writes.proofs.Numbered.{need-last, need-next}
use Rattle.iso_writes.proofs.indexes.key_need.Goals as goal

pub loop-at-preserved : goal.loop-at-preserved
loop-at-preserved c =
    let p = c.args.parts.now in
    let few = c.loop-at.invariant.few in
    let one = c.need_at-need.ensures.few in
    record {
      need = need-next p.head (world_of p) c.args.conn c.args.table c.args.row.now c.loop-at.need c.loop-at.at c.loop-at.invariant.need
          c.numbered-index.result c.numbered-index.ensures c.need_at-need.result c.need_at-need.ensures.need;
      few = omega (arith, few, one);
    }

pub returns-clause-need : goal.returns-clause-need
returns-clause-need c =
    let p = c.args.parts.now in
    let end : c.loop-at.at ≡ length p.head.indexes = omega (arith, c.loop-at-test.false, c.loop-at.auto.at-end, c.len-at-end.ensures) in
    need-last p.head (world_of p) c.args.conn c.args.table c.args.row.now c.loop-at.need c.loop-at.at c.loop-at.invariant.need end
