use Rattle.iso_chain.proofs.Bare.{bare-same}
use Rattle.iso_chain.proofs.changes.reserve_slot.Goals as goal

pub returns-clause-same : goal.returns-clause-same
returns-clause-same c = bare-same c.args.tables.now c.args.table c.item_mut.result.now c.reserve.new.self c.item_mut.ensures.value c.reserve.ensures.items
