use Rattle.std.proofs.Common.{◌∙◌, sym}
use Rattle.iso_history.specs.Entries.{is_purgeable}
use Rattle.iso_state.specs.Stands.{world_of}
use Rattle.iso_ends.proofs.PageWalks.{page-found, page-passed}
use Rattle.iso_ends.proofs.purging.first_purgeable.Goals as goal

pub returns-in-Some-first_in : goal.returns-in-Some-first_in
returns-in-Some-first_in c =
    let p = c.args.parts.now in
    let t = is_purgeable p.head (world_of p) c.args.index in
    sym (page-found t c.args.keys.now c.loop-page.at c.in-Some.page.now c.in-Some-first_in.pair (sym c.in-Some.ensures.some) c.loop-page.invariant
    (sym c.first_in.ensures ∙ c.in-Some-first_in.is))

pub loop-page-preserved : goal.loop-page-preserved
loop-page-preserved c =
    let p = c.args.parts.now in
    let t = is_purgeable p.head (world_of p) c.args.index in
    page-passed t c.args.keys.now c.loop-page.at c.in-Some-checked_add.next c.in-Some.page.now (sym c.in-Some.ensures.some)
    c.in-Some-checked_add.ensures.1 c.loop-page.invariant (sym c.first_in.ensures ∙ c.in_default-first_in.is)
