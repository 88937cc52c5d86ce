use Rattle.std.proofs.Common.{◌<◌, ◌∙◌, arith, length, sym, subst, Bool}
use Rattle.std.specs.Prelude.{if◌then◌else◌}
use Rattle.iso_history.specs.Phases.{is_phase, phase}
use Rattle.iso_state.specs.Stands.{world_of}
use Rattle.iso_types.specs.declared.desk.Phase.{Phase}
use Rattle.iso_types.specs.declared.value.Conn.{Conn}
use Rattle.iso_pace.proofs.Walks.{IsCounted, count-first, count-other, count-start, count-two, few-end}
use Rattle.iso_pace.proofs.phases.two_wait.Goals.{then-waits+else-one, else-waits}
use Rattle.iso_pace.proofs.phases.two_wait.Goals as goal

pub loop-at-init : goal.loop-at-init
loop-at-init c =
    let p = c.args.parts.now in
    count-start p.head (λ d. is_phase (phase (world_of p) d) Phase.Waiting)

pub loop-at-preserved : goal.loop-at-preserved
loop-at-preserved c =
    let p = c.args.parts.now in
    let test : Conn → Bool = λ d. is_phase (phase (world_of p) d) Phase.Waiting in
    elim c.if-waits.branch [
      | then-waits+else-one w ↦
          count-first p.head test c.loop-at.at c.loop-at.one c.if-waits.one (sym c.waits.ensures ∙ w.if-waits.true) w.if-one.false w.one-is c.loop-at.invariant
      | else-waits w ↦
          count-other p.head test c.loop-at.at c.loop-at.one c.if-waits.one (sym c.waits.ensures ∙ w.if-waits.false) w.one-is c.loop-at.invariant
    ]

pub returns-then-one : goal.returns-then-one
returns-then-one c =
    let p = c.args.parts.now in
    let lt : c.loop-at.at < length p.head.conns = omega (arith, c.loop-at-test.true, c.len-at-end.ensures) in
    let test : Conn → Bool = λ d. is_phase (phase (world_of p) d) Phase.Waiting in
    sym (count-two p.head test c.loop-at.at lt (sym c.waits.ensures ∙ c.if-waits.true)
    (subst (λ (b : Bool). IsCounted p.head test c.loop-at.at (if b then 1 else 0)) c.if-one.true c.loop-at.invariant))

pub returns : goal.returns
returns c =
    let p = c.args.parts.now in
    sym (few-end p.head (λ d. is_phase (phase (world_of p) d) Phase.Waiting) c.loop-at.at c.loop-at.one
    (omega (arith, c.loop-at-test.false, c.loop-at.auto.at-end, c.len-at-end.ensures)) c.loop-at.invariant)
