use Rattle.std.proofs.Common.{◌∙◌, Bool, ap, sym}
use Rattle.iso_state.specs.Stands.{content_of}
use Rattle.iso_writes.proofs.Pairs.{pair-taken}
use Rattle.iso_writes.specs.Changing.{without_added}
use Rattle.iso_writes.proofs.keying.take_back.Goals as goal

pub returns-then-added-clause-wrote : goal.returns-then-added-clause-wrote
returns-then-added-clause-wrote c =
    pair-taken c.args.parts.now c.args.at c.item_mut.result.now c.item_mut.ensures.value c.remove.new.self (c.args.key.now, c.args.rid) c.remove.ensures.entries
    ∙ ap (λ (b : Bool). without_added b (content_of c.args.parts.now) c.args.at (c.args.key.now, c.args.rid)) (sym c.if-added.true)
