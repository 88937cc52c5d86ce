use Rattle.std.proofs.Common.{◌≡◌, ◌∙◌, ap, subst, sym, true}
use Rattle.iso_history.specs.Makers.{by_agent}
use Rattle.iso_history.specs.Outcomes.{escalated_by}
use Rattle.iso_history.specs.Requests.{Outcome}
use Rattle.iso_history.specs.Stops.{is_full}
use Rattle.iso_state.specs.Judged.{judged_as}
use Rattle.iso_state.specs.Stands.{world_of}
use Rattle.iso_state.specs.declared.locks.Judged.{Judged}
use Rattle.iso_state.proofs.ByKind.{fault-was}
use Rattle.iso_locks.proofs.Escalations.{escalations-fit}
use Rattle.iso_locks.proofs.locking.escalate_on.Goals as goal

pub returns-in_err-grant-in-Granted-clause-full : goal.returns-in_err-grant-in-Granted-clause-full
returns-in_err-grant-in-Granted-clause-full c =
    let p = c.args.parts.now in
    λ e. subst (λ (o : Outcome). is_full p.head (world_of p) (by_agent c.args.conn (escalated_by c.args.table c.args.mode o)) ≡ true)
    (ap (λ (j : Judged). judged_as j) (sym c.in-Granted.is) ∙ c.judge.ensures)
    (c.grant.ensures.full (fault-was _ _ _ _ c.in_err-grant-in-Granted.was c.from_residual.ensures.1 e))

pub returns-in_err-wait-in-Queues-clause-full : goal.returns-in_err-wait-in-Queues-clause-full
returns-in_err-wait-in-Queues-clause-full c =
    let p = c.args.parts.now in
    λ e. subst (λ (o : Outcome). is_full p.head (world_of p) (by_agent c.args.conn (escalated_by c.args.table c.args.mode o)) ≡ true)
    (ap (λ (j : Judged). judged_as j) (sym c.in-Queues.is) ∙ c.judge.ensures)
    (c.wait.ensures.full (fault-was _ _ _ _ c.in_err-wait-in-Queues.was c.from_residual-in_err-wait-in-Queues.ensures.1 e))

pub returns-in_err-time_out-in-TimesOut-clause-full : goal.returns-in_err-time_out-in-TimesOut-clause-full
returns-in_err-time_out-in-TimesOut-clause-full c =
    let p = c.args.parts.now in
    λ e. subst (λ (o : Outcome). is_full p.head (world_of p) (by_agent c.args.conn (escalated_by c.args.table c.args.mode o)) ≡ true)
    (ap (λ (j : Judged). judged_as j) (sym c.in-TimesOut.is) ∙ c.judge.ensures)
    (c.time_out.ensures.full (fault-was _ _ _ _ c.in_err-time_out-in-TimesOut.was c.from_residual-in_err-time_out-in-TimesOut.ensures.1 e))

pub unreachable-requires : goal.unreachable-requires
unreachable-requires c =
    escalations-fit c.requires.stands.stands c.args.conn c.args.table c.args.mode c.requires.escalated
    (sym c.judge.ensures ∙ ap (λ (j : Judged). judged_as j) c.in-AtLimit.is)
