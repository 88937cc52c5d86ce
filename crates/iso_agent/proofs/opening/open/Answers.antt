use Rattle.std.proofs.Common.{◌≡◌, ◌<◌, List, Some, arith, find, length, subst, sym}
use Rattle.std.specs.Option.{option_map}
use Rattle.std.specs.Prelude.{◌==◌, IfOk}
use Rattle.iso_agent.proofs.Quieting.{desk-opens}
use Rattle.iso_conduct.specs.Conduct.{statement_on}
use Rattle.iso_conduct.specs.Points.{start_point}
use Rattle.iso_conduct.specs.Starts.{setting_of}
use Rattle.iso_script.specs.declared.script.Line.{Line}
use Rattle.iso_state.specs.Stands.{IsDeskOf, world_of}
use Rattle.iso_types.specs.declared.desk.Desk.{Desk}
use Rattle.iso_agent.proofs.opening.open.Goals as goal

pub returns : goal.returns
returns c =
    let p = c.args.parts.now in
    let d : Desk = c.desk_of-desk.result in
    let lines : List Line = c.args.script.now.lines in
    let lt : c.args.conn.0 < length p.desks = omega (arith, c.requires.conn, c.requires.stands.stands.conns) in
    let is : IsDeskOf (world_of p) c.args.conn d = subst (IsDeskOf (world_of p) c.args.conn) (sym c.desk_of-desk.ensures) (c.requires.stands.stands.parts.desks c.args.conn lt) in
    let begun = subst (λ (ls : List Line). IfOk c.begin_at.result (λ t. option_map (start_point p.head c.args.conn (setting_of d) d.start) (statement_on c.args.conn (find (λ l. l.number == d.line) ls)) ≡ Some t)) c.as_slice.ensures c.begin_at.ensures in
    subst (λ o. IfOk c.begin_at.result (λ t. o ≡ Some t)) (desk-opens p.head lines (world_of p) c.args.conn d is c.requires.running) begun
