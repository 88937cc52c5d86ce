use Rattle.std.proofs.Common.{◌∙◌, ap, sym}
use Rattle.iso_state.specs.Stands.{content_of}
use Rattle.iso_table.specs.declared.slot.Slot.{Slot}
use Rattle.iso_reads.proofs.SlotReads.{head-there, no-head, pin-ordered}
use Rattle.iso_reads.proofs.slots.pin_at.Goals as goal

pub pin_slot-requires-clause-order : goal.pin_slot-requires-clause-order
pin_slot-requires-clause-order c =
    pin-ordered (content_of c.args.parts.now) c.requires.stands.stands c.args.table c.args.rid c.in-Some-first.first c.in-Some.head
    (ap (λ (s : Slot). s.first) (sym c.slot_at-slot.ensures) ∙ c.in-Some-first.is) (ap (λ (s : Slot). s.head) (sym c.slot_at-slot.ensures) ∙ c.in-Some.is)

pub pin_slot-requires-clause-within : goal.pin_slot-requires-clause-within
pin_slot-requires-clause-within c =
    head-there (content_of c.args.parts.now) c.requires.stands.stands c.args.table c.args.rid c.in-Some.head
    (ap (λ (s : Slot). s.head) (sym c.slot_at-slot.ensures) ∙ c.in-Some.is)

pub unreachable-requires-in-None : goal.unreachable-requires-in-None
unreachable-requires-in-None c =
    no-head (content_of c.args.parts.now) c.requires.stands.stands c.args.table c.args.rid
    (ap (λ (s : Slot). s.head) (sym c.slot_at-slot.ensures) ∙ c.in-None.is) c.requires.pending
