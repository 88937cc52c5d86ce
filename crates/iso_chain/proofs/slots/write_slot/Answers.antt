use Rattle.std.proofs.Common.{◌∙◌, ap, sym, Some}
use Rattle.iso_table.specs.declared.slot.Slot.{Slot}
use Rattle.iso_chain.specs.Views.{bare}
use Rattle.iso_chain.specs.Writes.{written_slot, with_slot}
use Rattle.iso_chain.proofs.Bare.{bare-set, slot-is}
use Rattle.iso_chain.proofs.slots.write_slot.Goals as goal

pub returns : goal.returns
returns c =
    let slots = c.item_mut-slots.result.now in
    bare-set c.args.tables.now c.args.table c.args.rid slots c.write_in.new.slot slots.spare c.item_mut-slots.ensures.value
    ∙ ap (with_slot (bare c.args.tables.now) c.args.table c.args.rid)
    (c.write_in.ensures ∙ ap (λ (s : Slot). written_slot s c.args.number (Some c.args.row))
    (sym (slot-is c.args.tables.now c.args.table c.args.rid slots c.slot_mut.result.now c.item_mut-slots.ensures.value c.slot_mut.ensures.value)))
