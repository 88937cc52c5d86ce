use Rattle.std.proofs.Common.{subst, sym}
use Rattle.iso_agent.proofs.WriteStepping.{insert-stepped}
use Rattle.iso_agent.specs.Steps.{HasStepped}
use Rattle.iso_history.specs.Outcomes.{written_by}
use Rattle.iso_history.specs.Versions.{next_rid}
use Rattle.iso_history.specs.Writes.{inserts}
use Rattle.iso_history.specs.declared.entry.Act.TheVariants as acts
use Rattle.iso_state.specs.Stands.{world_of}
use Rattle.iso_agent.proofs.writes.make_insert.Goals as goal

pub returns-in-Ok-clause-stepped : goal.returns-in-Ok-clause-stepped
returns-in-Ok-clause-stepped c =
    let p = c.args.parts.now in
    let q = c.insert.new.parts in
    let a = written_by p.head (world_of p) c.args.conn (acts.Insert c.args.table (next_rid (world_of p) c.args.table) c.args.row.now) (inserts p.head (world_of p) c.args.conn c.args.table c.args.row.now) in
    subst (λ k. HasStepped p.head p.history.items q.history.items c.args.conn a k) (sym c.step_of_write.ensures)
    (insert-stepped p.head p.history.items q.history.items c.args.conn c.requires.runs.0 q.head c.in-Ok.ensures.head c.in-Ok.written c.waits.result c.waits.ensures
    c.requires.stands.stands.ground c.args.table c.args.row.now c.requires.may c.in-Ok.ensures.ok c.in-Ok.ensures.answer)
