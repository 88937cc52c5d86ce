use Rattle.std.proofs.Common.{◌∙◌, sym, ap}
use Rattle.iso_lines.specs.Named.{kept, changed, line_of}
use Rattle.iso_lines.proofs.Touched.{touched-written, line-written, named-touched, others-touched}
use Rattle.iso_queue.specs.Lines.{is_used}
use Rattle.std.specs.Map.{keys_of}
use Rattle.iso_lines.proofs.Whole.{last_there}
use Rattle.iso_lines.proofs.lines.Lines.change.Goals as goal

pub change_at-requires : goal.change_at-requires
change_at-requires c = c.self.invariant.named.stands c.args.name.now c.in-Some.key (sym c.find.ensures ∙ c.in-Some.is)

pub sweep-requires-clause-named : goal.sweep-requires-clause-named
sweep-requires-clause-named c =
    let old = kept (c.self.inside.index.entries) (c.self.inside.queues.slots) in
    let new = kept (c.self.inside.index.entries) (c.change_at.new.queues.slots) in
    named-touched old new c.args.name.now
    (touched-written old c.self.invariant.named c.args.name.now c.in-Some.key (sym c.find.ensures ∙ c.in-Some.is) (changed c.args.change c.args.conn) c.change_at.new.queues.slots c.change_at.ensures) c.self.invariant.named

pub returns-in-Some-clause-line : goal.returns-in-Some-clause-line
returns-in-Some-clause-line c =
    let old = kept (c.self.inside.index.entries) (c.self.inside.queues.slots) in
    c.sweep.ensures.line
    ∙ line-written old c.self.invariant.named c.args.name.now c.in-Some.key (sym c.find.ensures ∙ c.in-Some.is) (changed c.args.change c.args.conn) c.change_at.new.queues.slots c.change_at.ensures
    ∙ ap (λ v. changed c.args.change c.args.conn (line_of v c.args.name.now)) c.self.view_is

pub returns-in-Some-clause-others : goal.returns-in-Some-clause-others
returns-in-Some-clause-others c n apart =
    let old = kept (c.self.inside.index.entries) (c.self.inside.queues.slots) in
    let new = kept (c.self.inside.index.entries) (c.change_at.new.queues.slots) in
    c.sweep.ensures.others n apart
    ∙ others-touched old new c.args.name.now
    (touched-written old c.self.invariant.named c.args.name.now c.in-Some.key (sym c.find.ensures ∙ c.in-Some.is) (changed c.args.change c.args.conn) c.change_at.new.queues.slots c.change_at.ensures) n apart
    ∙ ap (λ v. line_of v n) c.self.view_is

pub sweep-requires-clause-used : goal.sweep-requires-clause-used
sweep-requires-clause-used c = λ m apart e.
    let old = kept (c.self.inside.index.entries) (c.self.inside.queues.slots) in
    let new = kept (c.self.inside.index.entries) (c.change_at.new.queues.slots) in
    ap is_used (others-touched old new c.args.name.now
    (touched-written old c.self.invariant.named c.args.name.now c.in-Some.key (sym c.find.ensures ∙ c.in-Some.is) (changed c.args.change c.args.conn) c.change_at.new.queues.slots c.change_at.ensures) m apart)
    ∙ c.self.invariant.used m e

pub returns-in-Some-clause-last : goal.returns-in-Some-clause-last
returns-in-Some-clause-last c = λ ns is none.
    let old = kept (c.self.inside.index.entries) (c.self.inside.queues.slots) in
    c.sweep.ensures.last ns (ap (λ v. keys_of v.index) c.self.view_is ∙ is)
    (ap is_used (line-written old c.self.invariant.named c.args.name.now c.in-Some.key (sym c.find.ensures ∙ c.in-Some.is) (changed c.args.change c.args.conn) c.change_at.new.queues.slots c.change_at.ensures
    ∙ ap (λ v. changed c.args.change c.args.conn (line_of v c.args.name.now)) c.self.view_is) ∙ none)

pub returns-in_default-clause-last : goal.returns-in_default-clause-last
returns-in_default-clause-last c = λ ns is none.
    absurd (last_there c.args.name.now c.self.inside.index.entries ns (ap (λ v. keys_of v.index) c.self.view_is ∙ is) (sym c.find.ensures ∙ c.in_default.is))
