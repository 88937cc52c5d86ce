use Rattle.std.proofs.Common.{◌∙◌, ap, sym, None}
use Rattle.std.specs.Option.{option_copied}
use Rattle.iso_chain.specs.Slots.{slots_of}
use Rattle.iso_chain.specs.Views.{bare}
use Rattle.iso_table.specs.declared.slot.Slot.{Slot}
use Rattle.iso_writes.proofs.SlotReads.{got-slot}
use Rattle.iso_writes.proofs.slots.head_of.Goals as goal

pub returns-in-None : goal.returns-in-None
returns-in-None c =
    sym (ap (λ (s : Slot). s.head)
    (got-slot (slots_of (bare c.args.parts.now.tables) c.args.table) c.args.rid.0 None (sym (ap option_copied c.in-None.is) ∙ c.slot_at.ensures)))
