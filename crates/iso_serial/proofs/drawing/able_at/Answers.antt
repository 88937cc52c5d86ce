use Rattle.std.proofs.Common.{◌<◌, ◌≤◌, ◌∙◌, arith, length, sym}
use Rattle.iso_serial.proofs.Picks.{agents-here, agents-past, end-none, is-first, not-first}
use Rattle.iso_serial.specs.Rounds.{could_act}
use Rattle.iso_serial.proofs.drawing.able_at.Goals as goal

pub returns-then-is_first-clause-found : goal.returns-then-is_first-clause-found
returns-then-is_first-clause-found c =
    let head = c.args.script.now.head in
    let p = could_act c.args.script.now c.args.parts.now.history.items in
    let lt : c.loop-at.at < length head.conns = omega (arith, c.loop-at-test.true, c.len-at-end.ensures) in
    let first = is-first c.is_able-able.result c.loop-at.left (sym c.is_first.ensures ∙ c.if-is_first.true) in
    sym (agents-here p head c.loop-at.at lt c.is_able-able.result c.is_able-able.ensures c.loop-at.left first.0 first.1) ∙ c.loop-at.invariant

pub behind-left-requires : goal.behind-left-requires
behind-left-requires c = not-first c.is_able-able.result c.loop-at.left (sym c.is_first.ensures ∙ c.if-is_first.false)

pub loop-at-preserved : goal.loop-at-preserved
loop-at-preserved c =
    let head = c.args.script.now.head in
    let p = could_act c.args.script.now c.args.parts.now.history.items in
    let lt : c.loop-at.at < length head.conns = omega (arith, c.loop-at-test.true, c.len-at-end.ensures) in
    let more = not-first c.is_able-able.result c.loop-at.left (sym c.is_first.ensures ∙ c.if-is_first.false) in
    rw c.behind-left.ensures
    (sym (agents-past p head c.loop-at.at lt c.is_able-able.result c.is_able-able.ensures c.loop-at.left more) ∙ c.loop-at.invariant)

pub returns-clause-found : goal.returns-clause-found
returns-clause-found c =
    let head = c.args.script.now.head in
    let p = could_act c.args.script.now c.args.parts.now.history.items in
    let le : length head.conns ≤ c.loop-at.at = omega (arith, c.loop-at-test.false, c.len-at-end.ensures) in
    sym (end-none p head c.loop-at.at c.loop-at.left le) ∙ c.loop-at.invariant
