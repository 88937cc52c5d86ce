use Rattle.std.proofs.Common.{◌<◌, ℕ, sym, subst}
use Rattle.std.proofs.lemmas.List.{length-map}
use Rattle.iso_chain.specs.Views.{bare}
use Rattle.iso_slots.proofs.Lines.{link}
use Rattle.iso_slots.proofs.guards.has_line.Goals as goal

pub loop-at-preserved : goal.loop-at-preserved
loop-at-preserved c = λ rest. c.loop-at.invariant (
    link c.args.log.now.records (bare c.args.tables.now) c.loop-at.at c.in-Some.number c.record_of-note.result.now c.in-Some.is
    (c.has_record.ensures c.if-not-has_record.false) c.record_of-note.ensures (c.is_lower.ensures c.if-not-is_lower.false)
    (subst (λ (n : ℕ). c.record_of-note.result.now.table.0 < n) (sym (length-map c.args.tables.now _)) (c.has_slot.ensures.table c.if-not-has_slot.false))
    (c.has_slot.ensures.slot c.if-not-has_slot.false) rest)
