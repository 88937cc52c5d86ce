use Rattle.std.proofs.Common.{◌≡◌, ◌<◌, arith, length}
use Rattle.std.specs.Option.{option_copied}
use Rattle.iso_state.specs.Stands.{world_of}
use Rattle.iso_writes.proofs.Numbered.{left-last, left-next, stopped}
use Rattle.iso_writes.proofs.indexes.judge_indexes.Goals as goal

pub returns-then-not-is_done : goal.returns-then-not-is_done
returns-then-not-is_done c =
    let p = c.args.parts.now in
    let lt : c.loop-at.at < length p.head.indexes = omega (arith, c.loop-at-test.true, c.len-at-end.ensures) in
    stopped p.head (world_of p) c.args.conn c.args.table c.args.rid (option_copied c.args.old) c.args.row.now c.loop-at.at c.loop-at.invariant
    c.numbered-index.result c.numbered-index.ensures _ c.judge_at-coming.ensures _ c.is_done.ensures lt c.if-not-is_done.true

pub loop-at-preserved : goal.loop-at-preserved
loop-at-preserved c =
    let p = c.args.parts.now in
    left-next p.head (world_of p) c.args.conn c.args.table c.args.rid (option_copied c.args.old) c.args.row.now c.loop-at.at c.loop-at.invariant
    c.numbered-index.result c.numbered-index.ensures _ c.judge_at-coming.ensures _ c.is_done.ensures c.if-not-is_done.false

pub returns : goal.returns
returns c =
    let p = c.args.parts.now in
    let end : c.loop-at.at ≡ length p.head.indexes = omega (arith, c.loop-at-test.false, c.loop-at.auto.at-end, c.len-at-end.ensures) in
    left-last p.head (world_of p) c.args.conn c.args.table c.args.rid (option_copied c.args.old) c.args.row.now c.loop-at.at c.loop-at.invariant end
