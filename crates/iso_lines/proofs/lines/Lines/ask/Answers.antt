use Rattle.std.proofs.Common.{◌∙◌, sym, ap, subst, if◌then◌else◌}
use Rattle.iso_queue.specs.Lines.{asked, is_granted, is_used}
use Rattle.iso_queue.specs.declared.types.Asked.{Asked as Outcome}
use Rattle.iso_lines.specs.Named.{IsWhole, kept, line_of}
use Rattle.iso_lines.proofs.Touched.{either_way, found-line, touched-written, line-written, no_some, others-touched}
use Rattle.iso_lines.proofs.Parts.{asked_own}
use Rattle.iso_lines.proofs.Whole.{none_there, touched_used, whole-touched}
use Rattle.iso_lines.proofs.lines.Lines.ask.Goals as goal

pub ask_at-requires : goal.ask_at-requires
ask_at-requires c = c.self.invariant.named.stands c.args.name.now c.in-Some.key (sym c.find.ensures ∙ c.in-Some.is)

pub invariant_of-self-in-Some : goal.invariant_of-self-in-Some
invariant_of-self-in-Some c =
    let old = kept c.self.inside.index.entries c.self.inside.queues.slots in
    let new = kept c.self.inside.index.entries c.ask_at.new.queues.slots in
    either_way c.ask_at.result c.ask_at.ensures.line c.ask_at.ensures.err
    (λ line. whole-touched old new c.args.name.now
    (touched-written old c.self.invariant.named c.args.name.now c.in-Some.key (sym c.find.ensures ∙ c.in-Some.is) (λ q. asked q c.args.conn c.args.mode c.args.term) c.ask_at.new.queues.slots line) c.self.invariant.named
    (λ m apart e. c.self.invariant.used m e)
    (λ e. ap is_used (line-written old c.self.invariant.named c.args.name.now c.in-Some.key (sym c.find.ensures ∙ c.in-Some.is) (λ q. asked q c.args.conn c.args.mode c.args.term) c.ask_at.new.queues.slots line)
    ∙ touched_used _ c.args.conn (asked_own _ c.args.conn c.args.mode c.args.term)))
    (λ same. subst (IsWhole c.self.inside.index.entries) (sym same) c.self.invariant)

pub returns-in_ok-asked-in-Some-clause-answer : goal.returns-in_ok-asked-in-Some-clause-answer
returns-in_ok-asked-in-Some-clause-answer c =
    let old = kept c.self.inside.index.entries c.self.inside.queues.slots in
    let q = found-line old c.self.invariant.named c.args.name.now c.in-Some.key (sym c.find.ensures ∙ c.in-Some.is) in
    c.in_ok-asked-in-Some.ensures.answer (line_of old c.args.name.now) q
    ∙ ap (λ v. if is_granted (line_of v c.args.name.now) c.args.conn c.args.mode then Outcome.Granted else Outcome.Queued) c.self.view_is

pub returns-in_ok-asked-in-Some-clause-line : goal.returns-in_ok-asked-in-Some-clause-line
returns-in_ok-asked-in-Some-clause-line c =
    let old = kept c.self.inside.index.entries c.self.inside.queues.slots in
    line-written old c.self.invariant.named c.args.name.now c.in-Some.key (sym c.find.ensures ∙ c.in-Some.is) (λ q. asked q c.args.conn c.args.mode c.args.term) c.ask_at.new.queues.slots
    c.in_ok-asked-in-Some.ensures.line
    ∙ ap (λ v. asked (line_of v c.args.name.now) c.args.conn c.args.mode c.args.term) c.self.view_is

pub returns-in_ok-asked-in-Some-clause-others : goal.returns-in_ok-asked-in-Some-clause-others
returns-in_ok-asked-in-Some-clause-others c n apart =
    let old = kept c.self.inside.index.entries c.self.inside.queues.slots in
    let new = kept c.self.inside.index.entries c.ask_at.new.queues.slots in
    others-touched old new c.args.name.now
    (touched-written old c.self.invariant.named c.args.name.now c.in-Some.key (sym c.find.ensures ∙ c.in-Some.is) (λ q. asked q c.args.conn c.args.mode c.args.term) c.ask_at.new.queues.slots
    c.in_ok-asked-in-Some.ensures.line) n apart
    ∙ ap (λ v. line_of v n) c.self.view_is

pub returns-in_ok-asked-in-Some-clause-names : goal.returns-in_ok-asked-in-Some-clause-names
returns-in_ok-asked-in-Some-clause-names c = λ empty.
    let old = kept c.self.inside.index.entries c.self.inside.queues.slots in
    let none = none_there old c.self.invariant c.args.name.now (ap (λ v. line_of v c.args.name.now) c.self.view_is ∙ empty) in
    absurd (no_some (sym none ∙ sym c.find.ensures ∙ c.in-Some.is))
