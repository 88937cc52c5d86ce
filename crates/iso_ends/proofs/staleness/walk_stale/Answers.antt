use Rattle.std.proofs.Common.{◌∙◌, sym, subst}
use Rattle.iso_ends.specs.Purges.{is_stale_at}
use Rattle.iso_key.specs.Pages.{entries}
use Rattle.iso_state.specs.Stands.{world_of}
use Rattle.iso_ends.proofs.PurgeWalks.{IsWalk, walk-begins, walk-less, walk-next}
use Rattle.iso_ends.proofs.staleness.walk_stale.Goals as goal

pub loop-next-init : goal.loop-next-init
loop-next-init c =
    let p = c.args.parts.now in
    let ps = entries c.args.keys.now in
    let t = is_stale_at p.head (world_of p) c.args.index in
    subst (IsWalk t ps) (sym c.first_from-next.ensures)
    (walk-begins t ps c.requires.ordered)

pub loop-next-smaller : goal.loop-next-smaller
loop-next-smaller c =
    let p = c.args.parts.now in
    let ps = entries c.args.keys.now in
    let t = is_stale_at p.head (world_of p) c.args.index in
    walk-less t ps c.requires.ordered c.in-Some.pair c.loop-next.next c.next_after-next.result
    c.in-Some.is c.next_after-next.ensures

pub loop-next-preserved : goal.loop-next-preserved
loop-next-preserved c =
    let p = c.args.parts.now in
    let ps = entries c.args.keys.now in
    let t = is_stale_at p.head (world_of p) c.args.index in
    subst (IsWalk t ps) (sym c.next_after-next.ensures)
    (walk-next t ps c.requires.ordered c.in-Some.pair
    (sym c.is_stale_pair.ensures ∙ c.if-is_stale_pair.false) (subst (IsWalk t ps) c.in-Some.is c.loop-next.invariant))
