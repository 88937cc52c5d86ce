use Rattle.std.proofs.Common.{◌∙◌, ap, is_some, sym}
use Rattle.iso_queue.specs.Lines.{Line, is_touched, is_waiter}
use Rattle.iso_lines.specs.Locks.{is_at_hand}
use Rattle.iso_lines.specs.Named.{key_of, line_of}
use Rattle.iso_lines.proofs.Pruned.{and_implied, worked_some}
use Rattle.iso_lines.proofs.Waiting.{worked_waiting}
use Rattle.iso_lines.proofs.Weighing.{weighed_names_moved}
use Rattle.iso_lines.proofs.Worked.{worked_at_hand}
use Rattle.iso_lines.proofs.work.work_names.Goals as goal

pub work_over-requires-clause-concerned : goal.work_over-requires-clause-concerned
work_over-requires-clause-concerned c n h = c.requires.seated.touched n ∙ c.requires.concerned (line_of c.args.lines.now n) h

pub returns-clause-seated : goal.returns-clause-seated
returns-clause-seated c =
    let ts = c.args.tables.now in
    let old = c.args.lines.now in
    record {
      touched = λ n. c.keep_touched.ensures.kept n
          ∙ and_implied (is_some (key_of c.args.desk.now.names.entries n)) (is_touched (line_of c.work_over.new.lines n) c.args.conn)
          (λ h. c.requires.seated.touched n
          ∙ worked_some ts c.args.task.now c.args.conn n (line_of old n) (ap (λ (l : Line). is_touched l c.args.conn) (sym (c.work_over.ensures.lines n)) ∙ h));
      at_hand = λ n h. c.requires.seated.at_hand n
          (worked_at_hand ts c.args.task.now c.args.conn n (line_of old n) c.args.conn (ap (is_at_hand c.args.conn) (sym (c.work_over.ensures.lines n)) ∙ h));
      waiting = λ n h. c.requires.seated.waiting n
          (worked_waiting ts c.args.task.now c.args.conn n (line_of old n) c.args.conn (ap (λ (l : Line). is_waiter l.waiters c.args.conn) (sym (c.work_over.ensures.lines n)) ∙ h));
    }

pub returns-clause-weighed : goal.returns-clause-weighed
returns-clause-weighed c =
    weighed_names_moved c.args.tables.now c.args.conn c.work_over.new.lines c.args.desk.now.names.entries c.keep_touched.new.names.entries
    c.len.ensures.unique c.len-2.ensures.unique
    (λ n h. c.requires.seated.touched n
    ∙ worked_some c.args.tables.now c.args.task.now c.args.conn n (line_of c.args.lines.now n) (ap (λ (l : Line). is_touched l c.args.conn) (sym (c.work_over.ensures.lines n)) ∙ h))
    (λ n h. (returns-clause-seated c).touched n ∙ h) c.work_over.new.weights.items c.work_over.ensures.weighed
