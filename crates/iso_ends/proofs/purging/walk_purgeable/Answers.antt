use Rattle.std.proofs.Common.{◌∙◌, sym, subst}
use Rattle.iso_history.specs.Entries.{is_purgeable}
use Rattle.iso_key.specs.Pages.{entries}
use Rattle.iso_state.specs.Stands.{world_of}
use Rattle.iso_ends.proofs.PurgeWalks.{IsWalk, walk-begins, walk-less, walk-next}
use Rattle.iso_ends.proofs.purging.walk_purgeable.Goals as goal

pub loop-next-init : goal.loop-next-init
loop-next-init c =
    let p = c.args.parts.now in
    let ps = entries c.args.keys.now in
    let t = is_purgeable p.head (world_of p) c.args.index in
    subst (IsWalk t ps) (sym c.first_from-next.ensures)
    (walk-begins t ps c.requires.ordered)

pub loop-next-smaller : goal.loop-next-smaller
loop-next-smaller c =
    let p = c.args.parts.now in
    let ps = entries c.args.keys.now in
    let t = is_purgeable p.head (world_of p) c.args.index in
    walk-less t ps c.requires.ordered c.in-Some.pair c.loop-next.next c.next_after-next.result
    c.in-Some.is c.next_after-next.ensures

pub loop-next-preserved : goal.loop-next-preserved
loop-next-preserved c =
    let p = c.args.parts.now in
    let ps = entries c.args.keys.now in
    let t = is_purgeable p.head (world_of p) c.args.index in
    subst (IsWalk t ps) (sym c.next_after-next.ensures)
    (walk-next t ps c.requires.ordered c.in-Some.pair
    (sym c.is_purgeable.ensures ∙ c.if-is_purgeable.false) (subst (IsWalk t ps) c.in-Some.is c.loop-next.invariant))
