use Rattle.std.proofs.Common.{◌<◌, ◌≤◌, arith, length}
use Rattle.iso_serial.proofs.Picks.{agents-count, end-count, one-most}
use Rattle.iso_serial.specs.Rounds.{could_act}
use Rattle.iso_serial.proofs.drawing.count_able.Goals as goal

pub loop-at-preserved : goal.loop-at-preserved
loop-at-preserved c =
    let head = c.args.script.now.head in
    let p = could_act c.args.script.now c.args.parts.now.history.items in
    let lt : c.loop-at.at < length head.conns = omega (arith, c.loop-at-test.true, c.len-at-end.ensures) in
    let more = agents-count p head c.loop-at.at lt c.is_able.result c.is_able.ensures in
    let most = one-most c.is_able.result in
    record {
      counted = omega (arith, more, c.loop-at.invariant.counted, c.one_if-count.ensures);
      few = omega (arith, most, c.loop-at.invariant.few, c.one_if-count.ensures);
    }

pub returns-clause-count : goal.returns-clause-count
returns-clause-count c =
    let head = c.args.script.now.head in
    let p = could_act c.args.script.now c.args.parts.now.history.items in
    let le : length head.conns ≤ c.loop-at.at = omega (arith, c.loop-at-test.false, c.len-at-end.ensures) in
    let none = end-count p head c.loop-at.at le in
    omega (arith, none, c.loop-at.invariant.counted)
