use Rattle.std.proofs.Common.{◌<◌, ◌∙◌, arith, length, sym, true}
use Rattle.iso_state.specs.Stands.{world_of}
use Rattle.iso_pace.proofs.Walks.{all-pass, next-one, one-fails}
use Rattle.iso_pace.proofs.closing.all_over.Goals as goal

pub loop-at-init : goal.loop-at-init
loop-at-init c = λ k lt. absurd (omega (arith, lt))

pub returns-then-not-is_over : goal.returns-then-not-is_over
returns-then-not-is_over c =
    let p = c.args.parts.now in
    let lt : c.loop-at.at < length p.head.conns = omega (arith, c.loop-at-test.true, c.len-at-end.ensures) in
    sym (one-fails p.head (world_of p).ended c.loop-at.at lt (sym c.is_over.ensures ∙ c.if-not-is_over.true))

pub loop-at-preserved : goal.loop-at-preserved
loop-at-preserved c =
    next-one (world_of c.args.parts.now).ended true c.loop-at.at c.loop-at.invariant (sym c.is_over.ensures ∙ c.if-not-is_over.false)

pub returns : goal.returns
returns c =
    let p = c.args.parts.now in
    sym (all-pass p.head (world_of p).ended (λ k lt. c.loop-at.invariant k (omega (arith, lt, c.loop-at-test.false, c.len-at-end.ensures))))
