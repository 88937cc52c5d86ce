use Rattle.std.proofs.Common.{◌∙◌, sym}
use Rattle.iso_writes.proofs.Pairs.{pair-added, pair-kept, pair-there}
use Rattle.iso_writes.proofs.keying.add_pair.Goals as goal

pub returns-in-Ok-clause-wrote : goal.returns-in-Ok-clause-wrote
returns-in-Ok-clause-wrote c =
    pair-added c.args.parts.now c.args.at c.item_mut.result.now c.item_mut.ensures.value c.insert.new.self (c.args.key.now, c.args.rid) c.in-Ok.ensures.entries

pub returns-in-Ok-clause-kept : goal.returns-in-Ok-clause-kept
returns-in-Ok-clause-kept c = λ e.
    pair-there c.args.parts.now c.args.at c.item_mut.result.now c.item_mut.ensures.value c.insert.new.self (c.args.key.now, c.args.rid) c.in-Ok.ensures.pages
    (sym c.in-Ok.ensures.answer ∙ e)

pub returns-in-Err-clause-err : goal.returns-in-Err-clause-err
returns-in-Err-clause-err c = pair-kept c.args.parts.now c.args.at c.item_mut.result.now c.item_mut.ensures.value c.insert.new.self c.in-Err.ensures.err
