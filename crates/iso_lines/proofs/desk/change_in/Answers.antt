use Rattle.std.proofs.Common.{inr, ◌∙◌, ap, sym}
use Rattle.iso_queue.specs.Lines.{Line, is_touched, is_waiter}
use Rattle.iso_lines.specs.Locks.{is_at_hand}
use Rattle.iso_lines.specs.Named.{line_of}
use Rattle.iso_lines.proofs.Loose.{changed_at_hand}
use Rattle.iso_lines.proofs.Parts.{changed_some}
use Rattle.iso_lines.proofs.Seated.{seated-one, touched_back}
use Rattle.iso_lines.proofs.Waiting.{changed_waiting}
use Rattle.iso_lines.proofs.Weighing.{weighed_names_moved}
use Rattle.iso_lines.proofs.desk.change_in.Goals as goal

pub returns-clause-seated : goal.returns-clause-seated
returns-clause-seated c =
    let q = line_of c.args.lines.now c.args.name.now in
    seated-one c.args.lines.now c.change_weighed.new.lines c.args.conn c.args.desk.now _ c.requires.seated c.args.name.now c.change_weighed.ensures.others
    (c.keep_where_touched.ensures.own (λ h. c.requires.seated.touched c.args.name.now
    ∙ changed_some c.args.change q c.args.conn (ap (λ (l : Line). is_touched l c.args.conn) (sym c.change_weighed.ensures.line) ∙ h)))
    c.keep_where_touched.ensures.others
    (λ h. inr (changed_at_hand c.args.change q c.args.conn c.args.conn (ap (is_at_hand c.args.conn) (sym c.change_weighed.ensures.line) ∙ h)))
    (λ m h. h)
    (λ h. inr (changed_waiting c.args.change q c.args.conn c.args.conn (ap (λ (l : Line). is_waiter l.waiters c.args.conn) (sym c.change_weighed.ensures.line) ∙ h)))
    (λ m h. h)

pub returns-clause-weighed : goal.returns-clause-weighed
returns-clause-weighed c =
    let q = line_of c.args.lines.now c.args.name.now in
    let back = touched_back c.args.lines.now c.change_weighed.new.lines c.args.name.now c.args.conn c.change_weighed.ensures.others
    (λ h. changed_some c.args.change q c.args.conn (ap (λ (l : Line). is_touched l c.args.conn) (sym c.change_weighed.ensures.line) ∙ h)) in
    weighed_names_moved c.args.tables.now c.args.conn c.change_weighed.new.lines c.args.desk.now.names.entries c.keep_where_touched.new.names.entries
    c.len.ensures.unique c.len-2.ensures.unique (λ n h. c.requires.seated.touched n ∙ back n h) (λ n h. (returns-clause-seated c).touched n ∙ h)
    c.change_weighed.new.weights.items c.change_weighed.ensures.weighed
