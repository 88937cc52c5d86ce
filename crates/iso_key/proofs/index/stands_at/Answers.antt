use Rattle.std.proofs.Common.{◌≡◌, false, length, ap, ◌∙◌, sym, arith}
use Rattle.std.specs.Option.{option_map_or}
use Rattle.std.specs.Prelude.{Some, nat_lt}
use Rattle.std.proofs.lemmas.Bool.Decides.{nat_tests}
use Rattle.std.proofs.lemmas.Option.{slice_get-get_or}
use Rattle.iso_key.proofs.Behind.{get-over}
use Rattle.iso_key.proofs.Placed.{has-from}
use Rattle.iso_key.proofs.Splits.{find-at}
use Rattle.iso_key.specs.Cuts.{passes}
use Rattle.iso_key.specs.declared.cut.Cut.TheVariants.{From}
use Rattle.iso_key.specs.Entries.{has_pair}
use Rattle.iso_types.specs.Ids.{pair_eq}
use Rattle.iso_types.specs.declared.value.Rid.{Rid}
use Rattle.iso_types.specs.declared.value.Value.{Value}
use Rattle.iso_key.proofs.index.stands_at.Goals as goal

pub returns-then-at-page : goal.returns-then-at-page
returns-then-at-page c =
    let p : Value × Rid = (c.args.key.now, c.args.rid) in
    let page = c.args.page.now in
    c.is_same.ensures ∙ sym (has-from p page c.requires.ordered
    ∙ ap (λ z. option_map_or (pair_eq p) z false) (find-at (passes (From p.0 p.1)) page c.args.at c.requires.split.before c.requires.split.behind
    ∙ slice_get-get_or page c.args.at c.index-page-at.result c.if-at-page.true ∙ ap (λ z. Some z) (sym c.index-page-at.is)))

pub returns-else-at-page : goal.returns-else-at-page
returns-else-at-page c =
    let p : Value × Rid = (c.args.key.now, c.args.rid) in
    let page = c.args.page.now in
    let e : has_pair page p ≡ false = has-from p page c.requires.ordered
    ∙ ap (λ z. option_map_or (pair_eq p) z false) (find-at (passes (From p.0 p.1)) page c.args.at c.requires.split.before c.requires.split.behind
    ∙ get-over page c.args.at (omega (arith, c.if-at-page.false))) in
    let f : nat_lt c.args.at (length page) ≡ false = grind (arith, nat_tests, c.if-at-page.false) in
    f ∙ sym e
