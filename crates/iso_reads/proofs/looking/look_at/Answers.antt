use Rattle.std.proofs.Common.{◌≡◌, ◌∙◌, ap, subst, sym, true}
use Rattle.iso_history.specs.Makers.{by_agent}
use Rattle.iso_history.specs.Outcomes.{look_by}
use Rattle.iso_history.specs.Requests.{Outcome}
use Rattle.iso_history.specs.Stops.{is_full}
use Rattle.iso_state.specs.Judged.{judged_as}
use Rattle.iso_state.specs.Stands.{world_of}
use Rattle.iso_state.specs.declared.locks.Judged.{Judged}
use Rattle.iso_state.proofs.ByKind.{fault-was}
use Rattle.iso_reads.proofs.Beside.{look-pressed}
use Rattle.iso_reads.proofs.looking.look_at.Goals as goal

pub returns-in_err-wait-in-Queues-clause-full : goal.returns-in_err-wait-in-Queues-clause-full
returns-in_err-wait-in-Queues-clause-full c =
    let p = c.args.parts.now in
    λ e. subst (λ (o : Outcome). is_full p.head (world_of p) (by_agent c.args.conn (look_by p.head (world_of p) c.args.conn c.args.table c.args.rid c.args.want o)) ≡ true)
    (ap (λ (j : Judged). judged_as j) (sym c.in-Queues.is) ∙ c.judge_look.ensures)
    (c.wait.ensures.full (fault-was _ _ _ _ c.in_err-wait-in-Queues.was c.from_residual.ensures.1 e))

pub returns-in_err-time_out-in-TimesOut-clause-full : goal.returns-in_err-time_out-in-TimesOut-clause-full
returns-in_err-time_out-in-TimesOut-clause-full c =
    let p = c.args.parts.now in
    λ e. subst (λ (o : Outcome). is_full p.head (world_of p) (by_agent c.args.conn (look_by p.head (world_of p) c.args.conn c.args.table c.args.rid c.args.want o)) ≡ true)
    (ap (λ (j : Judged). judged_as j) (sym c.in-TimesOut.is) ∙ c.judge_look.ensures)
    (c.time_out.ensures.full (fault-was _ _ _ _ c.in_err-time_out-in-TimesOut.was c.from_residual-in_err-time_out-in-TimesOut.ensures.1 e))

pub limit-requires-clause-pressed : goal.limit-requires-clause-pressed
limit-requires-clause-pressed c =
    let p = c.args.parts.now in
    look-pressed p.head (world_of p) c.args.conn c.args.table c.args.rid c.args.want
    (sym c.judge_look.ensures ∙ ap (λ (j : Judged). judged_as j) c.in-AtLimit.is)

pub returns-in-AtLimit-clause-full : goal.returns-in-AtLimit-clause-full
returns-in-AtLimit-clause-full c =
    let p = c.args.parts.now in
    λ e. subst (λ (o : Outcome). is_full p.head (world_of p) (by_agent c.args.conn (look_by p.head (world_of p) c.args.conn c.args.table c.args.rid c.args.want o)) ≡ true)
    (ap (λ (j : Judged). judged_as j) (sym c.in-AtLimit.is) ∙ c.judge_look.ensures)
    (c.limit.ensures.full e)
