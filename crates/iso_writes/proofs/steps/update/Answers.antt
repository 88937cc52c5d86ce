use Rattle.std.proofs.Common.{◌≡◌, ◌∙◌, ap, subst, sym, true}
use Rattle.std.proofs.lemmas.Bool.{and_parts}
use Rattle.iso_history.specs.Makers.{by_agent}
use Rattle.iso_history.specs.Outcomes.{written_by}
use Rattle.iso_history.specs.Stops.{is_full}
use Rattle.iso_history.specs.Writes.{Written}
use Rattle.iso_history.specs.declared.entry.Act.TheVariants.{Update}
use Rattle.iso_state.proofs.ByKind.{fault-was}
use Rattle.iso_state.specs.Stands.{world_of}
use Rattle.iso_writes.proofs.Blocked.{update-blocked, update-not-full, update-past, update-pressed}
use Rattle.iso_writes.specs.Answers.{coming_as}
use Rattle.iso_writes.specs.declared.coming.Coming.{Coming}
use Rattle.iso_writes.proofs.steps.update.Goals as goal

pub returns-in_err-make_update-in-Done-clause-full : goal.returns-in_err-make_update-in-Done-clause-full
returns-in_err-make_update-in-Done-clause-full c =
    let p = c.args.parts.now in
    λ e. subst (λ (o : Written). is_full p.head (world_of p) (by_agent c.args.conn (written_by p.head (world_of p) c.args.conn
    (Update c.args.table c.args.rid c.args.row.now) o)) ≡ true)
    (ap (λ (k : Coming). coming_as k) (sym c.in-Done.is) ∙ c.judge_update.ensures) (c.make_update.ensures.full (fault-was _ _ _ _ c.in_err-make_update-in-Done.was c.from_residual.ensures.1 e))

pub returns-in-AtLimit-clause-full : goal.returns-in-AtLimit-clause-full
returns-in-AtLimit-clause-full c =
    let p = c.args.parts.now in
    λ e. subst (λ (o : Written). is_full p.head (world_of p) (by_agent c.args.conn (written_by p.head (world_of p) c.args.conn
    (Update c.args.table c.args.rid c.args.row.now) o)) ≡ true)
    (ap (λ (k : Coming). coming_as k) (sym c.in-AtLimit.is) ∙ c.judge_update.ensures) (c.limit.ensures.full e)

pub returns-in-PastLog-clause-full : goal.returns-in-PastLog-clause-full
returns-in-PastLog-clause-full c =
    let p = c.args.parts.now in
    λ e. subst (λ (o : Written). is_full p.head (world_of p) (by_agent c.args.conn (written_by p.head (world_of p) c.args.conn
    (Update c.args.table c.args.rid c.args.row.now) o)) ≡ true)
    (ap (λ (k : Coming). coming_as k) (sym c.in-PastLog.is) ∙ c.judge_update.ensures) (c.refuse_past.ensures.full e)

pub returns-in-Taken-clause-full : goal.returns-in-Taken-clause-full
returns-in-Taken-clause-full c =
    let p = c.args.parts.now in
    λ e. subst (λ (o : Written). is_full p.head (world_of p) (by_agent c.args.conn (written_by p.head (world_of p) c.args.conn
    (Update c.args.table c.args.rid c.args.row.now) o)) ≡ true)
    (ap (λ (k : Coming). coming_as k) (sym c.in-Taken.is) ∙ c.judge_update.ensures) (c.refuse_taken.ensures.full e)

pub returns-in-Blocked-clause-full : goal.returns-in-Blocked-clause-full
returns-in-Blocked-clause-full c =
    let p = c.args.parts.now in
    λ e. subst (λ (o : Written). is_full p.head (world_of p) (by_agent c.args.conn (written_by p.head (world_of p) c.args.conn
    (Update c.args.table c.args.rid c.args.row.now) o)) ≡ true)
    (ap (λ (k : Coming). coming_as k) (sym c.in-Blocked.is) ∙ c.judge_update.ensures) (c.wait_for.ensures.full e)

pub limit-requires-clause-pressed : goal.limit-requires-clause-pressed
limit-requires-clause-pressed c =
    let p = c.args.parts.now in
    update-pressed p.head (world_of p) c.args.conn c.args.table c.args.row.now c.args.rid (c.requires.stands.fits.few_indexes c.args.table) (sym c.judge_update.ensures ∙ ap (λ (k : Coming). coming_as k) c.in-AtLimit.is)

pub refuse_past-requires-clause-past : goal.refuse_past-requires-clause-past
refuse_past-requires-clause-past c =
    let p = c.args.parts.now in
    update-past p.head (world_of p) c.args.conn c.args.table (and_parts _ _ c.requires.may).0 c.args.rid c.args.row.now (sym c.judge_update.ensures ∙ ap (λ (k : Coming). coming_as k) c.in-PastLog.is)

pub wait_for-requires-clause-may : goal.wait_for-requires-clause-may
wait_for-requires-clause-may c =
    let p = c.args.parts.now in
    (update-blocked p.head (world_of p) c.args.conn c.args.table (and_parts _ _ c.requires.may).0 c.args.rid c.args.row.now c.in-Blocked.name c.in-Blocked.mode (sym c.judge_update.ensures ∙ ap (λ (k : Coming). coming_as k) c.in-Blocked.is)).0

pub wait_for-requires-clause-blocked : goal.wait_for-requires-clause-blocked
wait_for-requires-clause-blocked c =
    let p = c.args.parts.now in
    (update-blocked p.head (world_of p) c.args.conn c.args.table (and_parts _ _ c.requires.may).0 c.args.rid c.args.row.now c.in-Blocked.name c.in-Blocked.mode (sym c.judge_update.ensures ∙ ap (λ (k : Coming). coming_as k) c.in-Blocked.is)).1

pub unreachable-requires : goal.unreachable-requires
unreachable-requires c =
    let p = c.args.parts.now in
    update-not-full p.head (world_of p) c.args.conn c.args.table (and_parts _ _ c.requires.may).0 c.args.rid c.args.row.now (sym c.judge_update.ensures ∙ ap (λ (k : Coming). coming_as k) c.in-Full.is)
