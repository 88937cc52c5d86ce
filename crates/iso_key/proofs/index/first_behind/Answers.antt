use Rattle.std.proofs.Common.{◌≡◌, ◌-◌, get_or, List, sym, subst, ◌∙◌, arith}
use Rattle.iso_key.proofs.Behind.{found-first, found-here, found-next, ordered-page}
use Rattle.iso_key.proofs.Rises.{rising-entries, rising-pages}
use Rattle.iso_key.specs.Cuts.{passes}
use Rattle.iso_key.specs.Entries.{IsOrdered}
use Rattle.iso_key.specs.Splits.{IsRising}
use Rattle.iso_types.specs.declared.value.Rid.{Rid}
use Rattle.iso_types.specs.declared.value.Value.{Value}
use Rattle.iso_key.proofs.index.first_behind.Goals as goal
use Rattle.iso_key.proofs.index.first_behind.Goals.{then-next-gt0+else-at-page, else-next-gt0}

pub pages_before-next-requires : goal.pages_before-next-requires
pages_before-next-requires c = rising-pages c.args.cut.now c.args.pages.now c.requires.ordered c.requires.sized

pub entries_before-at-requires : goal.entries_before-at-requires
entries_before-at-requires c =
    let w = c.pages_before-next.ensures.within in
    let page = c.index-pages-next.result in
    let o : IsOrdered page = subst IsOrdered (sym c.index-pages-next.is)
    (ordered-page c.args.pages.now (c.pages_before-next.result - 1) page c.requires.ordered (omega (arith, w, c.if-next-gt0.true))) in
    subst (λ (z : List (Value × Rid)). IsRising (passes c.args.cut.now) z) (sym c.as_slice-page.ensures) (rising-entries c.args.cut.now page o)

pub returns-then-at-page : goal.returns-then-at-page
returns-then-at-page c =
    found-here c.args.cut.now c.args.pages.now c.requires.ordered c.requires.sized c.pages_before-next.result c.pages_before-next.ensures
    c.if-next-gt0.true c.as_slice-page.result.now
    (subst (λ (z : List (Value × Rid)). z ≡ get_or c.args.pages.now (c.pages_before-next.result - 1) z) (sym c.as_slice-page.ensures) c.index-pages-next.is)
    c.entries_before-at.result c.entries_before-at.ensures
    c.index-page-at.result c.if-at-page.true c.index-page-at.is

pub returns : goal.returns
returns c = elim c.if-next-gt0.branch [
  | then-next-gt0+else-at-page w ↦ c.least_of.ensures ∙ sym (
      found-next c.args.cut.now c.args.pages.now c.requires.ordered c.requires.sized c.pages_before-next.result c.pages_before-next.ensures
      w.if-next-gt0.true w.as_slice-page.result.now
      (subst (λ (z : List (Value × Rid)). z ≡ get_or c.args.pages.now (c.pages_before-next.result - 1) z) (sym w.as_slice-page.ensures) w.index-pages-next.is)
      w.entries_before-at.result w.entries_before-at.ensures (λ l. omega (arith, l, w.if-at-page.false)))
  | else-next-gt0 w ↦ c.least_of.ensures ∙ sym (
      found-first c.args.cut.now c.args.pages.now c.requires.ordered c.requires.sized c.pages_before-next.result c.pages_before-next.ensures
      (omega (arith, w.if-next-gt0.false)))
]
