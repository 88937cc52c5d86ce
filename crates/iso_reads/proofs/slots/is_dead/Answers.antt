use Rattle.std.proofs.Common.{◌∙◌, ap, not, ◌&&◌}
use Rattle.std.specs.Prelude.{is_none}
use Rattle.iso_state.specs.Stands.{content_of}
use Rattle.iso_table.specs.declared.slot.Slot.{Slot}
use Rattle.iso_reads.proofs.SlotReads.{dead-is, with-head, without-head}
use Rattle.iso_reads.proofs.slots.is_dead.Goals as goal

pub returns-in-Some : goal.returns-in-Some
returns-in-Some c =
    let slot = c.slot_at-slot.result.now in
    with-head slot.live _ slot.head c.in-Some.is
    ∙ ap (λ (s : Slot). not s.live && is_none s.head) c.slot_at-slot.ensures
    ∙ dead-is (content_of c.args.parts.now) c.requires.stands.stands c.args.table c.args.rid

pub returns-in-None : goal.returns-in-None
returns-in-None c =
    let slot = c.slot_at-slot.result.now in
    without-head slot.live slot.head c.in-None.is
    ∙ ap (λ (s : Slot). not s.live && is_none s.head) c.slot_at-slot.ensures
    ∙ dead-is (content_of c.args.parts.now) c.requires.stands.stands c.args.table c.args.rid
