use Rattle.std.proofs.Common.{◌≡◌, ◌<◌, List, length, ap, ◌∙◌, sym, subst, arith}
use Rattle.std.proofs.lemmas.Result.{on_ok_weaker}
use Rattle.std.proofs.lemmas.Bool.Decides.{nat_tests}
use Rattle.iso_key.proofs.Placed.{lacks-any, ordered-any, placed-by}
use Rattle.iso_key.proofs.Rises.{rising-pages}
use Rattle.iso_key.specs.Cuts.{starts_behind}
use Rattle.iso_key.specs.Splits.{IsRising, IsSplit}
use Rattle.iso_key.specs.declared.cut.Cut.TheVariants.{From}
use Rattle.iso_types.specs.declared.value.Rid.{Rid}
use Rattle.iso_types.specs.declared.value.Value.{Value}
use Rattle.iso_key.proofs.index.place.Goals as goal

pub pages_before-next-requires : goal.pages_before-next-requires
pages_before-next-requires c =
    subst (λ (z : List (List (Value × Rid))). IsRising (starts_behind (From c.args.key.now c.args.rid)) z) (sym c.deref.ensures.value)
    (rising-pages (From c.args.key.now c.args.rid) c.args.pages.now.items c.requires.paged.ordered c.requires.paged.sized)

pub place_in-requires-clause-ordered : goal.place_in-requires-clause-ordered
place_in-requires-clause-ordered c = ordered-any c.args.pages.now.items c.saturating_sub.result c.requires.paged.ordered

pub place_in-requires-clause-new : goal.place_in-requires-clause-new
place_in-requires-clause-new c = lacks-any (c.args.key.now, c.args.rid) c.args.pages.now.items c.saturating_sub.result c.requires.new

pub returns-clause-ok : goal.returns-clause-ok
returns-clause-ok c =
    let p : Value × Rid = (c.args.key.now, c.args.rid) in
    let pages = c.args.pages.now.items in
    let split : IsSplit (starts_behind (From p.0 p.1)) pages c.pages_before-next.result =
    subst (λ (z : List (List (Value × Rid))). IsSplit (starts_behind (From p.0 p.1)) z c.pages_before-next.result) c.deref.ensures.value c.pages_before-next.ensures in
    let many : 0 < length pages = let l : length pages ≡ length c.deref.result.now = ap (λ (z : List (List (Value × Rid))). length z) (sym c.deref.ensures.value) in grind (arith, nat_tests, c.is_empty.ensures, c.if-is_empty.false, c.deref.ensures.len, l) in
    on_ok_weaker c.place_in.result (λ e. e ∙ sym (placed-by p pages c.pages_before-next.result c.saturating_sub.result c.saturating_sub.ensures many c.requires.paged.sized split)) c.place_in.ensures.ok
