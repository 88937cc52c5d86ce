use Rattle.iso_ends.proofs.DoubtsKept.{doubts-set}
use Rattle.iso_ends.proofs.doubts.least_in.Goals as goal

pub least_by-requires-clause-known : goal.least_by-requires-clause-known
least_by-requires-clause-known c = c.requires.known c.args.index c.item_mut.result.now c.item_mut.ensures.value

pub returns-then-at-len-clause-known : goal.returns-then-at-len-clause-known
returns-then-at-len-clause-known c =
    let p = c.args.parts.now in
    doubts-set p.head p.history.items c.args.sets.now c.args.index c.least_by.new.doubt c.requires.known c.least_by.ensures.doubt
