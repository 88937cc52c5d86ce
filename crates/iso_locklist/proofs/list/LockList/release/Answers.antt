use Rattle.std.proofs.Common.{◌∙◌, ap, sym}
use Rattle.iso_locklist.specs.Places.{Ledger, line_at, names, places_in, released}
use Rattle.iso_locklist.proofs.Holding.{lines_freed}
use Rattle.iso_locklist.proofs.Registered.{names_in, places_apart, places_line}
use Rattle.iso_queue.specs.Lines.{Line, is_used}
use Rattle.iso_locklist.proofs.list.LockList.release.Goals as goal

pub invariant_of-self : goal.invariant_of-self
invariant_of-self c = record { apart = places_apart c.change.new.self.lines c.names_once.ensures }

pub returns-clause-line : goal.returns-clause-line
returns-clause-line c =
    places_line c.change.new.self.lines c.args.name ∙ c.change.ensures.line
    ∙ ap (λ (q : Line). released q c.args.conn) (sym (places_line c.self.inside.register.lines c.args.name))
    ∙ ap (λ (l : Ledger). released (line_at l.places c.args.name) c.args.conn) c.self.view_is

pub returns-clause-others : goal.returns-clause-others
returns-clause-others c = λ n ne.
    places_line c.change.new.self.lines n ∙ c.change.ensures.others n ne ∙ sym (places_line c.self.inside.register.lines n) ∙ ap (λ (l : Ledger). line_at l.places n) c.self.view_is

pub returns-clause-lists : goal.returns-clause-lists
returns-clause-lists c = λ hs xs are.
    lines_freed hs xs (λ n. line_at c.args.self.now.places n) (λ n. line_at (places_in c.change.new.self.lines) n) are c.args.conn c.args.name (returns-clause-line c) (returns-clause-others c)

pub returns-clause-last : goal.returns-clause-last
returns-clause-last c = λ ns is none.
    let old = c.self.inside.register.lines in
    names_in c.change.new.self.lines
    ∙ c.change.ensures.last ns (sym (names_in old) ∙ ap (λ (l : Ledger). names l.places) c.self.view_is ∙ is)
    (ap is_used (ap (λ (q : Line). released q c.args.conn) (sym (places_line old c.args.name)) ∙ ap (λ (l : Ledger). released (line_at l.places c.args.name) c.args.conn) c.self.view_is) ∙ none)

pub returns-clause-is_apart : goal.returns-clause-is_apart
returns-clause-is_apart c = places_apart c.change.new.self.lines c.names_once.ensures
