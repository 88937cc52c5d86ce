use Rattle.std.proofs.Common.{◌≡◌, ◌∙◌, ap, subst, sym, true}
use Rattle.iso_history.specs.Makers.{by_agent}
use Rattle.iso_history.specs.Outcomes.{blocked_by}
use Rattle.iso_history.specs.Requests.{Outcome}
use Rattle.iso_history.specs.Stops.{is_full}
use Rattle.iso_state.specs.Judged.{judged_as}
use Rattle.iso_state.specs.Stands.{world_of}
use Rattle.iso_state.specs.declared.locks.Judged.{Judged}
use Rattle.iso_state.proofs.ByKind.{fault-was}
use Rattle.iso_state.proofs.FactsAlong.{sound-of}
use Rattle.iso_locks.proofs.Blocks.{never-granted}
use Rattle.iso_locks.proofs.blocking.block.Goals as goal

pub unreachable-requires : goal.unreachable-requires
unreachable-requires c =
    let p = c.args.parts.now in
    never-granted p.head (world_of p) (sound-of c.requires.stands.stands) c.args.conn c.args.name.now c.args.mode c.requires.may c.requires.blocked
    (sym c.judge.ensures ∙ ap (λ (j : Judged). judged_as j) c.in-Granted.is)

pub returns-in_err-wait-in-Queues-clause-full : goal.returns-in_err-wait-in-Queues-clause-full
returns-in_err-wait-in-Queues-clause-full c =
    let p = c.args.parts.now in
    λ e. subst (λ (o : Outcome). is_full p.head (world_of p) (by_agent c.args.conn (blocked_by p.head (world_of p) c.args.conn c.args.name.now c.args.mode o)) ≡ true)
    (ap (λ (j : Judged). judged_as j) (sym c.in-Queues.is) ∙ c.judge.ensures)
    (c.wait.ensures.full (fault-was _ _ _ _ c.in_err-wait-in-Queues.was c.from_residual.ensures.1 e))

pub returns-in_err-time_out-in-TimesOut-clause-full : goal.returns-in_err-time_out-in-TimesOut-clause-full
returns-in_err-time_out-in-TimesOut-clause-full c =
    let p = c.args.parts.now in
    λ e. subst (λ (o : Outcome). is_full p.head (world_of p) (by_agent c.args.conn (blocked_by p.head (world_of p) c.args.conn c.args.name.now c.args.mode o)) ≡ true)
    (ap (λ (j : Judged). judged_as j) (sym c.in-TimesOut.is) ∙ c.judge.ensures)
    (c.time_out.ensures.full (fault-was _ _ _ _ c.in_err-time_out-in-TimesOut.was c.from_residual-in_err-time_out-in-TimesOut.ensures.1 e))

pub returns-in-AtLimit-clause-full : goal.returns-in-AtLimit-clause-full
returns-in-AtLimit-clause-full c =
    let p = c.args.parts.now in
    λ e. subst (λ (o : Outcome). is_full p.head (world_of p) (by_agent c.args.conn (blocked_by p.head (world_of p) c.args.conn c.args.name.now c.args.mode o)) ≡ true)
    (ap (λ (j : Judged). judged_as j) (sym c.in-AtLimit.is) ∙ c.judge.ensures) (c.escalate.ensures.full e)
