use Rattle.std.proofs.Common.{◌∙◌, ap, is_some, sym, true≢false, unwrap_or}
use Rattle.std.specs.Option.{option_map_or}
use Rattle.iso_lines.specs.Named.{kept, line_under, nobody}
use Rattle.iso_lines.proofs.Touched.{others-touched, touched-forgotten, line-forgotten, unused}
use Rattle.iso_queue.specs.Lines.{is_used}
use Rattle.iso_lines.proofs.Whole.{whole-touched, whole_used}
use Rattle.iso_lines.proofs.lines.sweep.Goals as goal

pub index-requires : goal.index-requires
index-requires c = c.requires.named.stands c.args.name.now c.args.key c.requires.key

pub returns-then-not-in_use-clause-whole : goal.returns-then-not-in_use-clause-whole
returns-then-not-in_use-clause-whole c =
    let old = kept (c.args.index.now.entries) (c.args.queues.now.slots) in
    let new = kept (c.forget.new.index.entries) (c.remove.new.self.slots) in
    whole-touched old new c.args.name.now
    (touched-forgotten old new c.requires.named c.args.name.now c.args.key c.requires.key c.forget.ensures.gone c.forget.ensures.others c.remove.ensures.updates.others)
    c.requires.named c.requires.used (λ e. absurd (true≢false (sym e ∙ ap is_some c.forget.ensures.gone)))

pub returns-else-not-in_use-clause-whole : goal.returns-else-not-in_use-clause-whole
returns-else-not-in_use-clause-whole c =
    whole_used (kept c.args.index.now.entries c.args.queues.now.slots) c.args.name.now c.requires.named c.requires.used
    (ap is_used (ap (λ o. option_map_or (line_under c.args.queues.now.slots) o nobody) c.requires.key ∙ ap (λ o. unwrap_or o nobody) c.index.ensures) ∙ sym c.in_use.ensures ∙ c.if-not-in_use.false)

pub returns-else-not-in_use-clause-last : goal.returns-else-not-in_use-clause-last
returns-else-not-in_use-clause-last c = λ ns is none.
    absurd (true≢false (sym (ap is_used (ap (λ o. option_map_or (line_under c.args.queues.now.slots) o nobody) c.requires.key ∙ ap (λ o. unwrap_or o nobody) c.index.ensures) ∙ sym c.in_use.ensures ∙ c.if-not-in_use.false) ∙ none))

pub returns-then-not-in_use-clause-others : goal.returns-then-not-in_use-clause-others
returns-then-not-in_use-clause-others c =
    let old = kept (c.args.index.now.entries) (c.args.queues.now.slots) in
    let new = kept (c.forget.new.index.entries) (c.remove.new.self.slots) in
    others-touched old new c.args.name.now
    (touched-forgotten old new c.requires.named c.args.name.now c.args.key c.requires.key c.forget.ensures.gone c.forget.ensures.others c.remove.ensures.updates.others)

pub returns-then-not-in_use-clause-line : goal.returns-then-not-in_use-clause-line
returns-then-not-in_use-clause-line c =
    let old = kept (c.args.index.now.entries) (c.args.queues.now.slots) in
    let new = kept (c.forget.new.index.entries) (c.remove.new.self.slots) in
    line-forgotten old new c.requires.named c.args.name.now c.args.key c.requires.key c.forget.ensures.gone c.forget.ensures.others c.remove.ensures.updates.others
    ∙ sym (ap (λ o. option_map_or (line_under c.args.queues.now.slots) o nobody) c.requires.key ∙ ap (λ o. unwrap_or o nobody) c.index.ensures ∙ unused c.index.result.now (sym c.in_use.ensures ∙ c.if-not-in_use.true))
