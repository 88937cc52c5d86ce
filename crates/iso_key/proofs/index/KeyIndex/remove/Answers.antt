use Rattle.std.proofs.Common.{List, ap, ◌∙◌, sym, subst}
use Rattle.iso_key.proofs.Removed.{entries-removed, paged-removed}
use Rattle.iso_key.specs.Entries.{without_pair}
use Rattle.iso_key.specs.Pages.{IsPaged, entries}
use Rattle.iso_types.specs.declared.value.Rid.{Rid}
use Rattle.iso_types.specs.declared.value.Value.{Value}
use Rattle.iso_key.proofs.index.KeyIndex.remove.Goals as goal

pub invariant_of-self : goal.invariant_of-self
invariant_of-self c =
    let p : Value × Rid = (c.args.key, c.args.rid) in
    subst IsPaged (sym c.take_from.ensures.pages) (paged-removed p c.self.inside.pages.items c.self.invariant)

pub returns-clause-entries : goal.returns-clause-entries
returns-clause-entries c =
    let p : Value × Rid = (c.args.key, c.args.rid) in
    ap (λ (z : List (List (Value × Rid))). entries z) c.take_from.ensures.pages ∙ entries-removed p c.self.inside.pages.items
    ∙ ap (λ (z : List (List (Value × Rid))). without_pair p (entries z)) c.self.view_is
