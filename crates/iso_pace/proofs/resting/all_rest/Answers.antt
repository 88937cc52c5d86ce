use Rattle.std.proofs.Common.{◌<◌, ◌∙◌, arith, length, sym, true}
use Rattle.iso_history.specs.Quiet.{is_resting}
use Rattle.iso_state.specs.Stands.{world_of}
use Rattle.iso_pace.proofs.Walks.{all-pass, next-one, one-fails}
use Rattle.iso_pace.proofs.resting.all_rest.Goals as goal

pub loop-at-init : goal.loop-at-init
loop-at-init c = λ k lt. absurd (omega (arith, lt))

pub returns-then-not-rests : goal.returns-then-not-rests
returns-then-not-rests c =
    let p = c.args.parts.now in
    let lt : c.loop-at.at < length p.head.conns = omega (arith, c.loop-at-test.true, c.len-at-end.ensures) in
    sym (one-fails p.head (is_resting (world_of p)) c.loop-at.at lt (sym c.rests.ensures ∙ c.if-not-rests.true))

pub loop-at-preserved : goal.loop-at-preserved
loop-at-preserved c =
    next-one (is_resting (world_of c.args.parts.now)) true c.loop-at.at c.loop-at.invariant (sym c.rests.ensures ∙ c.if-not-rests.false)

pub returns : goal.returns
returns c =
    let p = c.args.parts.now in
    sym (all-pass p.head (is_resting (world_of p)) (λ k lt. c.loop-at.invariant k (omega (arith, lt, c.loop-at-test.false, c.len-at-end.ensures))))
