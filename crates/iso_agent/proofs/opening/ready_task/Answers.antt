use Rattle.std.proofs.Common.{◌≡◌, ◌⊎◌, ◌∙◌, Some, ap, length, subst, sym, true}
use Rattle.std.proofs.lemmas.Bool.{lt-ltb}
use Rattle.std.specs.Prelude.{is_some}
use Rattle.iso_agent.proofs.Making.{runs-or-open}
use Rattle.iso_agent.proofs.Quieting.{back-runs, quieted-thrice, ready-is}
use Rattle.iso_agent.specs.Quiet.{RunsForBack}
use Rattle.iso_conduct.specs.Conduct.{Conduct, point, quieted, ready}
use Rattle.iso_conduct.specs.Points.{Point, due}
use Rattle.iso_conduct.specs.Standing.{MayGoOn}
use Rattle.iso_history.specs.After.{world}
use Rattle.iso_history.specs.Legal.{Ground}
use Rattle.iso_history.specs.Phases.{phase}
use Rattle.iso_standing.specs.Going.{GoesOn}
use Rattle.iso_state.specs.Stands.{world_of}
use Rattle.iso_types.specs.Head.{is_conn}
use Rattle.iso_types.specs.declared.desk.Phase.TheVariants.{Running}
use Rattle.iso_types.specs.declared.head.Head.{Head}
use Rattle.iso_agent.proofs.opening.ready_task.Goals as goal

pub opened_task-requires-clause-there : goal.opened_task-requires-clause-there
opened_task-requires-clause-there c =
    let p = c.args.parts.now in
    subst (λ o. (phase (world_of p) c.args.conn ≡ Running) ⊎ (is_some o ≡ true)) (sym c.requires.reached)
    (runs-or-open p.head c.args.script.now.lines p.history.items c.args.conn c.requires.stands.stands.ground c.requires.conduct c.requires.goes)

pub quieten-requires-clause-runs : goal.quieten-requires-clause-runs
quieten-requires-clause-runs c =
    let p = c.args.parts.now in
    let es = p.history.items in
    let lines = c.args.script.now.lines in
    let w = world_of p in
    let conn = c.args.conn in
    let t : Point = c.in_ok-task.task in
    let first : Point = quieted w conn (quieted w conn t) in
    let is = ready-is p.head lines w conn c.args.task (point p.head lines es conn) t c.requires.reached c.in_ok-task.ensures.ok in
    let may = subst (λ (h : Head). Ground h es → Conduct h lines es conn → is_conn h conn ≡ true → GoesOn (world h es) conn
    → ready h lines (world h es) conn (point h lines es conn) ≡ Some first → MayGoOn h (world h es) conn first) (sym c.requires.head)
    (c.due_steps_may_be_made.ensures c.args.script.now es conn first c.requires.sound) c.requires.stands.stands.ground
    c.requires.conduct (lt-ltb conn.0 (length p.head.conns) c.requires.conn) c.requires.goes is in
    back-runs p.head w conn t may

pub quieten-requires-clause-later : goal.quieten-requires-clause-later
quieten-requires-clause-later c =
    let p = c.args.parts.now in
    let es = p.history.items in
    let lines = c.args.script.now.lines in
    let w = world_of p in
    let conn = c.args.conn in
    let t : Point = c.in_ok-task.task in
    let first : Point = quieted w conn (quieted w conn t) in
    let is = ready-is p.head lines w conn c.args.task (point p.head lines es conn) t c.requires.reached c.in_ok-task.ensures.ok in
    let may = subst (λ (h : Head). Ground h es → Conduct h lines es conn → is_conn h conn ≡ true → GoesOn (world h es) conn
    → ready h lines (world h es) conn (point h lines es conn) ≡ Some first → MayGoOn h (world h es) conn first) (sym c.requires.head)
    (c.due_steps_may_be_made.ensures c.args.script.now es conn first c.requires.sound) c.requires.stands.stands.ground
    c.requires.conduct (lt-ltb conn.0 (length p.head.conns) c.requires.conn) c.requires.goes is in
    back-runs p.head w conn (quieted w conn t) (subst (MayGoOn p.head w conn) (sym (quieted-thrice w conn t)) may)

pub returns-clause-may : goal.returns-clause-may
returns-clause-may c =
    let p = c.args.parts.now in
    let es = p.history.items in
    let lines = c.args.script.now.lines in
    let w = world_of p in
    let conn = c.args.conn in
    let t : Point = c.in_ok-task.task in
    let first : Point = quieted w conn (quieted w conn t) in
    let is = ready-is p.head lines w conn c.args.task (point p.head lines es conn) t c.requires.reached c.in_ok-task.ensures.ok in
    let may = subst (λ (h : Head). Ground h es → Conduct h lines es conn → is_conn h conn ≡ true → GoesOn (world h es) conn
    → ready h lines (world h es) conn (point h lines es conn) ≡ Some first → MayGoOn h (world h es) conn first) (sym c.requires.head)
    (c.due_steps_may_be_made.ensures c.args.script.now es conn first c.requires.sound) c.requires.stands.stands.ground
    c.requires.conduct (lt-ltb conn.0 (length p.head.conns) c.requires.conn) c.requires.goes is in
    subst (MayGoOn p.head w conn) (sym c.quieten.ensures) may
