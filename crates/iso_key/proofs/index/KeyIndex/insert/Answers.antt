use Rattle.std.proofs.Common.{◌≡◌, true, false, List, ap, ◌∙◌, sym, subst}
use Rattle.iso_key.proofs.Ordered.{with-there}
use Rattle.iso_key.proofs.Placed.{entries-placed, paged-placed}
use Rattle.iso_key.specs.Entries.{has_pair, with_pair}
use Rattle.iso_key.specs.Pages.{IsPaged, entries}
use Rattle.iso_types.specs.declared.value.Rid.{Rid}
use Rattle.iso_types.specs.declared.value.Value.{Value}
use Rattle.iso_key.proofs.index.KeyIndex.insert.Goals as goal

pub returns-then-is_in-clause-entries : goal.returns-then-is_in-clause-entries
returns-then-is_in-clause-entries c =
    let p : Value × Rid = (c.args.key, c.args.rid) in
    let pages = c.self.inside.pages.items in
    let h : has_pair (entries pages) p ≡ true = ap (λ z. has_pair (entries z) p) (sym c.deref.ensures.value) ∙ sym c.is_in.ensures ∙ c.if-is_in.true in
    subst (λ (z : List (List (Value × Rid))). entries z ≡ with_pair p (entries z)) c.self.view_is (sym (with-there p (entries pages) c.self.invariant.ordered h))

pub invariant_of-self-2 : goal.invariant_of-self-2
invariant_of-self-2 c =
    let p : Value × Rid = (c.args.key, c.args.rid) in
    let pages = c.self.inside.pages.items in
    let n : has_pair (entries pages) p ≡ false = ap (λ z. has_pair (entries z) p) (sym c.deref.ensures.value) ∙ sym c.is_in.ensures ∙ c.if-is_in.false in
    subst IsPaged (sym c.in_ok-place.ensures.ok) (paged-placed p pages c.self.invariant n)

pub returns-clause-entries : goal.returns-clause-entries
returns-clause-entries c =
    let p : Value × Rid = (c.args.key, c.args.rid) in
    let pages = c.self.inside.pages.items in
    let n : has_pair (entries pages) p ≡ false = ap (λ z. has_pair (entries z) p) (sym c.deref.ensures.value) ∙ sym c.is_in.ensures ∙ c.if-is_in.false in
    ap (λ (z : List (List (Value × Rid))). entries z) c.in_ok-place.ensures.ok ∙ entries-placed p pages c.self.invariant.ordered c.self.invariant.sized n
    ∙ ap (λ (z : List (List (Value × Rid))). with_pair p (entries z)) c.self.view_is
