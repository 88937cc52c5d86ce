use Rattle.iso_ends.proofs.PurgeSteps.{entries-set}
use Rattle.iso_ends.proofs.purging.take_off.Goals as goal

pub returns : goal.returns
returns c = entries-set c.args.indexes.now c.args.index c.args.key.now c.args.rid c.item_mut.result.now c.remove.new.self c.item_mut.ensures.value c.remove.ensures.entries
