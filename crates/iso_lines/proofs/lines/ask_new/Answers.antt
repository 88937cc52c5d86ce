use Rattle.std.proofs.Common.{◌∙◌, None, Some, ap, sym, slice_index_or}
use Rattle.iso_lines.specs.Named.{kept}
use Rattle.iso_lines.proofs.Touched.{line-added, others-touched, touched-added}
use Rattle.iso_lines.proofs.Parts.{asked_own}
use Rattle.iso_lines.proofs.Whole.{new_last, touched_used, whole-touched}
use Rattle.iso_queue.specs.Lines.{is_used}
use Rattle.std.specs.Map.{keys_of}
use Rattle.iso_lines.proofs.lines.ask_new.Goals as goal

pub returns-clause-whole : goal.returns-clause-whole
returns-clause-whole c =
    let old = kept (c.args.index.now.entries) (c.args.queues.now.slots) in
    let new = kept (c.keep.new.index.entries) (c.insert_reserved.new.self.slots) in
    let slots = ap (λ s. s.slots) c.in_ok-reserve.ensures.rest_kept in
    let put =
    line-added old new c.requires.whole.named c.args.name.now c.insert_reserved.result _
    (c.in_ok-keep.ensures.key ∙ ap Some (c.vacant_key-key.ensures.value ∙ sym c.insert_reserved.ensures.key)) c.in_ok-keep.ensures.others
    (sym (ap (λ s. slice_index_or s c.insert_reserved.result None) slots) ∙ c.insert_reserved.ensures.was_vacant) c.insert_reserved.ensures.updates.changed
    (λ j h. c.insert_reserved.ensures.updates.others j h ∙ ap (λ s. slice_index_or s j None) slots) in
    whole-touched old new c.args.name.now
    (touched-added old new c.requires.whole.named c.args.name.now c.insert_reserved.result _
    (c.in_ok-keep.ensures.key ∙ ap Some (c.vacant_key-key.ensures.value ∙ sym c.insert_reserved.ensures.key)) c.in_ok-keep.ensures.others
    (sym (ap (λ s. slice_index_or s c.insert_reserved.result None) slots) ∙ c.insert_reserved.ensures.was_vacant) c.insert_reserved.ensures.updates.changed
    (λ j h. c.insert_reserved.ensures.updates.others j h ∙ ap (λ s. slice_index_or s j None) slots)) c.requires.whole.named
    (λ m apart e. c.requires.whole.used m e) (λ e. ap is_used (put ∙ c.in_ok-asked.ensures.line) ∙ touched_used _ c.args.conn (asked_own c.new-queue.result c.args.conn c.args.mode c.args.term))

pub returns-clause-others : goal.returns-clause-others
returns-clause-others c =
    let old = kept (c.args.index.now.entries) (c.args.queues.now.slots) in
    let new = kept (c.keep.new.index.entries) (c.insert_reserved.new.self.slots) in
    let slots = ap (λ s. s.slots) c.in_ok-reserve.ensures.rest_kept in
    others-touched old new c.args.name.now
    (touched-added old new c.requires.whole.named c.args.name.now c.insert_reserved.result _
    (c.in_ok-keep.ensures.key ∙ ap Some (c.vacant_key-key.ensures.value ∙ sym c.insert_reserved.ensures.key)) c.in_ok-keep.ensures.others
    (sym (ap (λ s. slice_index_or s c.insert_reserved.result None) slots) ∙ c.insert_reserved.ensures.was_vacant) c.insert_reserved.ensures.updates.changed
    (λ j h. c.insert_reserved.ensures.updates.others j h ∙ ap (λ s. slice_index_or s j None) slots))

pub returns-clause-names : goal.returns-clause-names
returns-clause-names c = ap keys_of c.in_ok-keep.ensures.entries ∙ new_last c.args.name.now c.args.index.now.entries _ c.requires.none
