use Rattle.std.proofs.Common.{◌∙◌, sym}
use Rattle.iso_ends.specs.Purges.{is_stale_at}
use Rattle.iso_state.specs.Stands.{world_of}
use Rattle.iso_ends.proofs.PageWalks.{page-some, page-unfound}
use Rattle.iso_ends.proofs.staleness.has_stale_pair.Goals as goal

pub returns-then-has_stale_page : goal.returns-then-has_stale_page
returns-then-has_stale_page c =
    let p = c.args.parts.now in
    let t = is_stale_at p.head (world_of p) c.args.index in
    sym (page-some t c.args.keys.now c.loop-page.at c.in-Some.page.now (sym c.in-Some.ensures.some) c.loop-page.invariant
    (sym c.has_stale_page.ensures ∙ c.if-has_stale_page.true))

pub loop-page-preserved : goal.loop-page-preserved
loop-page-preserved c =
    let p = c.args.parts.now in
    let t = is_stale_at p.head (world_of p) c.args.index in
    page-unfound t c.args.keys.now c.loop-page.at c.in-Some-checked_add.next c.in-Some.page.now (sym c.in-Some.ensures.some)
    c.in-Some-checked_add.ensures.1 c.loop-page.invariant (sym c.has_stale_page.ensures ∙ c.if-has_stale_page.false)
