use Rattle.std.proofs.Common.{◌<◌, ◌∙◌, ap, arith, length, not, sym, true}
use Rattle.iso_history.specs.Phases.{is_active}
use Rattle.iso_state.specs.Stands.{world_of}
use Rattle.iso_pace.proofs.Walks.{all-pass, next-one, one-fails}
use Rattle.iso_pace.proofs.phases.none_acts.Goals as goal

pub loop-at-init : goal.loop-at-init
loop-at-init c = λ k lt. absurd (omega (arith, lt))

pub returns-then-acts : goal.returns-then-acts
returns-then-acts c =
    let p = c.args.parts.now in
    let lt : c.loop-at.at < length p.head.conns = omega (arith, c.loop-at-test.true, c.len-at-end.ensures) in
    sym (one-fails p.head (λ d. not (is_active (world_of p) d)) c.loop-at.at lt (ap not (sym c.acts.ensures ∙ c.if-acts.true)))

pub loop-at-preserved : goal.loop-at-preserved
loop-at-preserved c =
    next-one (λ d. not (is_active (world_of c.args.parts.now) d)) true c.loop-at.at c.loop-at.invariant (ap not (sym c.acts.ensures ∙ c.if-acts.false))

pub returns : goal.returns
returns c =
    let p = c.args.parts.now in
    sym (all-pass p.head (λ d. not (is_active (world_of p) d))
    (λ k lt. c.loop-at.invariant k (omega (arith, lt, c.loop-at-test.false, c.len-at-end.ensures))))
