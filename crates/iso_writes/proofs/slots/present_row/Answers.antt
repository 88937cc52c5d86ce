use Rattle.std.proofs.Common.{◌∙◌, ap, sym, None}
use Rattle.std.specs.Option.{option_copied}
use Rattle.iso_chain.specs.Slots.{face, slots_of}
use Rattle.iso_chain.specs.Views.{bare}
use Rattle.iso_record.specs.Undone.{shown}
use Rattle.iso_state.specs.Stands.{content_of}
use Rattle.iso_table.specs.declared.slot.Slot.{Slot}
use Rattle.iso_writes.proofs.SlotReads.{got-slot, present-is}
use Rattle.iso_writes.proofs.slots.present_row.Goals as goal

pub returns-in-None : goal.returns-in-None
returns-in-None c =
    sym (ap (λ (s : Slot). shown (face s))
    (got-slot (slots_of (bare c.args.parts.now.tables) c.args.table) c.args.rid.0 None (sym (ap option_copied c.in-None.is) ∙ c.slot_at.ensures)))
    ∙ present-is (content_of c.args.parts.now) c.requires.stands.stands c.args.table c.args.rid
