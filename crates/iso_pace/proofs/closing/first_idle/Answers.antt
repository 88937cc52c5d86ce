use Rattle.std.proofs.Common.{◌<◌, ◌∙◌, arith, length, sym, false}
use Rattle.iso_history.specs.Phases.{is_phase, phase}
use Rattle.iso_state.specs.Stands.{world_of}
use Rattle.iso_types.specs.declared.desk.Phase.TheVariants.{Idle}
use Rattle.iso_pace.proofs.Walks.{first-found, next-one, none-found}
use Rattle.iso_pace.proofs.closing.first_idle.Goals as goal

pub loop-at-init : goal.loop-at-init
loop-at-init c = λ k lt. absurd (omega (arith, lt))

pub returns-then-is_idle : goal.returns-then-is_idle
returns-then-is_idle c =
    let p = c.args.parts.now in
    let lt : c.loop-at.at < length p.head.conns = omega (arith, c.loop-at-test.true, c.len-at-end.ensures) in
    sym (first-found p.head (λ d. is_phase (phase (world_of p) d) Idle) c.loop-at.at lt c.loop-at.invariant (sym c.is_idle.ensures ∙ c.if-is_idle.true))

pub loop-at-preserved : goal.loop-at-preserved
loop-at-preserved c =
    next-one (λ d. is_phase (phase (world_of c.args.parts.now) d) Idle) false c.loop-at.at c.loop-at.invariant (sym c.is_idle.ensures ∙ c.if-is_idle.false)

pub returns : goal.returns
returns c =
    let p = c.args.parts.now in
    sym (none-found p.head (λ d. is_phase (phase (world_of p) d) Idle)
    (λ k lt. c.loop-at.invariant k (omega (arith, lt, c.loop-at-test.false, c.len-at-end.ensures))))
