use Rattle.std.proofs.Common.{◌∙◌, sym}
use Rattle.iso_ends.proofs.DoubtsKept.{doubts-set}
use Rattle.iso_ends.proofs.doubts.may_be_stale_in.Goals as goal

pub may_be_stale_by-requires-clause-known : goal.may_be_stale_by-requires-clause-known
may_be_stale_by-requires-clause-known c = c.requires.known c.args.index c.item_mut.result.now c.item_mut.ensures.value

pub returns-then-at-len-clause-known : goal.returns-then-at-len-clause-known
returns-then-at-len-clause-known c =
    let p = c.args.parts.now in
    doubts-set p.head p.history.items c.args.sets.now c.args.index c.may_be_stale_by.new.doubt c.requires.known c.may_be_stale_by.ensures.doubt

pub returns-clause-fresh : goal.returns-clause-fresh
returns-clause-fresh c e = sym c.is_stale_in_all.ensures ∙ e
