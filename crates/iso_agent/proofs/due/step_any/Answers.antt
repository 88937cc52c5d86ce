use Rattle.std.proofs.Common.{◌∙◌, ℤ, List, rules, subst, sym, SFits, w32, to_z-of_z}
use Rattle.iso_agent.specs.Steps.{HasStepped}
use Rattle.iso_conduct.specs.Outcomes.{act_of}
use Rattle.iso_conduct.specs.Points.{row_due, rows_due}
use Rattle.iso_history.specs.declared.entry.Act.TheVariants as acts
use Rattle.iso_state.specs.Stands.{world_of}
use Rattle.iso_types.specs.declared.value.Value.{Value}
use Rattle.iso_agent.proofs.due.step_any.Goals as goal

pub returns-in-Refuse-clause-stepped : goal.returns-in-Refuse-clause-stepped
returns-in-Refuse-clause-stepped c =
    let p = c.args.parts.now in
    let t = c.args.task.now in
    let fits : SFits w32 c.in-Refuse.code = search rules in
    subst (λ m. HasStepped p.head p.history.items c.make_refusal.new.parts.history.items c.args.conn (act_of p.head (world_of p) c.args.conn (row_due t) (rows_due t) m) c.make_refusal.result)
    (sym c.in-Refuse.is ∙ c.next.ensures)
    (subst (λ (z : ℤ). HasStepped p.head p.history.items c.make_refusal.new.parts.history.items c.args.conn (acts.Refused z) c.make_refusal.result)
    (to_z-of_z fits) c.make_refusal.ensures.stepped)

pub returns-in-Reply-clause-stepped : goal.returns-in-Reply-clause-stepped
returns-in-Reply-clause-stepped c =
    let p = c.args.parts.now in
    let t = c.args.task.now in
    let rows : List (List Value) = c.take_rows-rows.result in
    let fits : SFits w32 c.in-Reply.code = search rules in
    subst (λ m. HasStepped p.head p.history.items c.make_reply.new.parts.history.items c.args.conn (act_of p.head (world_of p) c.args.conn (row_due t) (rows_due t) m) c.make_reply.result)
    (sym c.in-Reply.is ∙ c.next.ensures)
    (subst (λ (rs : List (List Value)). HasStepped p.head p.history.items c.make_reply.new.parts.history.items c.args.conn (acts.Reply c.in-Reply.code c.in-Reply.changed rs) c.make_reply.result)
    c.take_rows-rows.ensures.rows
    (subst (λ (z : ℤ). HasStepped p.head p.history.items c.make_reply.new.parts.history.items c.args.conn (acts.Reply z c.in-Reply.changed rows) c.make_reply.result)
    (to_z-of_z fits) c.make_reply.ensures.stepped))
