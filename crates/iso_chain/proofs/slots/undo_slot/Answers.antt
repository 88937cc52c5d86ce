use Rattle.std.proofs.Common.{◌∙◌, ap, sym}
use Rattle.iso_table.specs.declared.slot.Slot.{Slot}
use Rattle.iso_chain.specs.Views.{bare}
use Rattle.iso_chain.specs.Writes.{undone_slot, with_slot}
use Rattle.iso_chain.proofs.Bare.{bare-set, slot-is}
use Rattle.iso_chain.proofs.slots.undo_slot.Goals as goal

pub returns : goal.returns
returns c =
    let slots = c.item_mut-slots.result.now in
    bare-set c.args.tables.now c.args.note.now.table c.args.note.now.rid slots c.undo_in.new.slot slots.spare c.item_mut-slots.ensures.value
    ∙ ap (with_slot (bare c.args.tables.now) c.args.note.now.table c.args.note.now.rid)
    (c.undo_in.ensures ∙ ap (λ (s : Slot). undone_slot c.args.note.now s)
    (sym (slot-is c.args.tables.now c.args.note.now.table c.args.note.now.rid slots c.slot_mut.result.now c.item_mut-slots.ensures.value c.slot_mut.ensures.value)))
