use Rattle.std.proofs.Common.{◌≡◌, ◌∙◌, true, ap, subst, sym}
use Rattle.iso_lines.specs.Tasks.{worked}
use Rattle.iso_locklist.specs.Places.{Ledger, are_apart, line_at, names}
use Rattle.iso_locklist.proofs.Registered.{places_apart, places_line}
use Rattle.iso_queue.specs.Lines.{Line}
use Rattle.iso_locklist.proofs.list.LockList.work.Goals as goal

pub invariant_of-self : goal.invariant_of-self
invariant_of-self c = record { apart = places_apart c.work.new.self.lines c.names_once.ensures }

pub returns-clause-lines : goal.returns-clause-lines
returns-clause-lines c = λ n.
    let lines = c.self.inside.register.lines in
    places_line c.work.new.self.lines n ∙ c.work.ensures.lines n
    ∙ ap (λ (q : Line). worked c.self.inside.register.tables c.args.task.now c.args.conn n q) (sym (places_line lines n))
    ∙ ap (λ (l : Ledger). worked l.index_tables c.args.task.now c.args.conn n (line_at l.places n)) c.self.view_is

pub returns-clause-was_apart : goal.returns-clause-was_apart
returns-clause-was_apart c = (subst (λ (l : Ledger). are_apart (names l.places) ≡ true) c.self.view_is c.self.invariant.apart)

pub returns-clause-is_apart : goal.returns-clause-is_apart
returns-clause-is_apart c = places_apart c.work.new.self.lines c.names_once.ensures
