use Rattle.std.proofs.lemmas.Bool.{and_parts}
use Rattle.std.proofs.Common.{subst, sym}
use Rattle.iso_agent.proofs.WriteStepping.{update-stepped}
use Rattle.iso_agent.specs.Steps.{HasStepped}
use Rattle.iso_history.specs.Outcomes.{written_by}
use Rattle.iso_history.specs.Writes.{updates}
use Rattle.iso_history.specs.declared.entry.Act.TheVariants as acts
use Rattle.iso_state.specs.Stands.{world_of}
use Rattle.iso_agent.proofs.writes.make_update.Goals as goal

pub returns-in-Ok-clause-stepped : goal.returns-in-Ok-clause-stepped
returns-in-Ok-clause-stepped c =
    let p = c.args.parts.now in
    let q = c.update.new.parts in
    let a = written_by p.head (world_of p) c.args.conn (acts.Update c.args.table c.args.rid c.args.row.now) (updates p.head (world_of p) c.args.conn c.args.table c.args.rid c.args.row.now) in
    subst (λ k. HasStepped p.head p.history.items q.history.items c.args.conn a k) (sym c.step_of_write.ensures)
    (update-stepped p.head p.history.items q.history.items c.args.conn c.requires.runs.0 q.head c.in-Ok.ensures.head c.in-Ok.written c.waits.result c.waits.ensures
    c.requires.stands.stands.ground c.args.table c.args.rid c.args.row.now (and_parts _ _ c.requires.may).0 c.in-Ok.ensures.ok c.in-Ok.ensures.answer)
