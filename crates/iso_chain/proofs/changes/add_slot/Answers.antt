use Rattle.iso_chain.specs.Writes.{made_slot}
use Rattle.iso_chain.proofs.Bare.{bare-add}
use Rattle.iso_chain.proofs.changes.add_slot.Goals as goal

pub returns : goal.returns
returns c =
    bare-add c.args.tables.now c.args.table c.item_mut.result.now c.add_in.new.slots
    (made_slot c.args.number c.args.row) c.item_mut.ensures.value c.add_in.ensures
