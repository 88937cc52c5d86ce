use Rattle.std.proofs.Common.{subst, sym}
use Rattle.iso_ends.proofs.DoubtsKept.{kept-as}
use Rattle.iso_ends.specs.Doubts.{AreKept}
use Rattle.iso_ends.specs.Purges.{purging}
use Rattle.iso_history.specs.Entries.{least_purgeable}
use Rattle.iso_state.specs.Stands.{world_of}
use Rattle.iso_types.specs.declared.head.Head.{Head}
use Rattle.iso_trials.proofs.purges.purge_and_ask.Goals as goal

pub purgeable_among-requires-clause-kept : goal.purgeable_among-requires-clause-kept
purgeable_among-requires-clause-kept c =
    let p = c.args.parts.now in
    let q = c.purge_among.new.parts in
    let d = c.purge_among.new.doubts in
    subst (λ (h : Head). AreKept h q.history.items d) (sym c.purge_among.ensures.head)
    (kept-as p.head p.history.items q.history.items (purging (least_purgeable p.head (world_of p))) d
    c.in_ok-purge_among.ensures.ok c.purge_among.ensures.kept)
