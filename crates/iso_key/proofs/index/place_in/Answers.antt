use Rattle.std.proofs.Common.{◌≡◌, ℕ, suc, ◌+◌, ◌<◌, ◌≤◌, List, [], ◌∷◌, ◌++◌, get_or, length, take, drop, ap, refl, ◌∙◌, sym, subst, arith}
use Rattle.std.specs.List.{insert}
use Rattle.std.specs.Prelude.{slice_set}
use Rattle.std.proofs.lemmas.List.{get_or_default}
use Rattle.iso_key.proofs.Placed.{placed-large, placed-small}
use Rattle.iso_key.proofs.Rises.{rising-entries}
use Rattle.iso_key.specs.Cuts.{passes}
use Rattle.iso_key.specs.Splits.{IsRising, IsSplit}
use Rattle.iso_key.specs.declared.cut.Cut.TheVariants.{From}
use Rattle.iso_types.specs.declared.value.Rid.{Rid}
use Rattle.iso_types.specs.declared.value.Value.{Value}
use Rattle.iso_key.proofs.index.place_in.Goals as goal

pub entries_before-place-requires : goal.entries_before-place-requires
entries_before-place-requires c =
    let same : c.as_slice.result.now ≡ get_or c.args.pages.now.items c.args.at [] =
    c.as_slice.ensures ∙ c.index.ensures ∙ get_or_default c.args.pages.now.items c.args.at c.index.result.now [] c.requires.at in
    subst (λ (z : List (Value × Rid)). IsRising (passes (From c.args.key.now c.args.rid)) z) (sym same) (rising-entries (From c.args.key.now c.args.rid) (get_or c.args.pages.now.items c.args.at []) c.requires.ordered)

pub returns-then-as_slice-lt128-clause-ok : goal.returns-then-as_slice-lt128-clause-ok
returns-then-as_slice-lt128-clause-ok c =
    let p : Value × Rid = (c.args.key.now, c.args.rid) in
    let pages = c.args.pages.now.items in
    let at = c.args.at in
    let place = c.entries_before-place.result in
    let page = get_or pages at [] in
    let first : c.as_slice.result.now ≡ page = c.as_slice.ensures ∙ c.index.ensures ∙ get_or_default pages at c.index.result.now [] c.requires.at in
    let second : c.as_slice-2.result.now ≡ page = c.as_slice-2.ensures ∙ c.index-2.ensures ∙ get_or_default pages at c.index-2.result.now [] c.requires.at in
    let third : c.index_mut.result.now ≡ page = c.index_mut.ensures.value ∙ get_or_default pages at c.index_mut.result.now [] c.requires.at in
    let split : IsSplit (passes (From p.0 p.1)) page place = subst (λ (z : List (Value × Rid)). IsSplit (passes (From p.0 p.1)) z place) first c.entries_before-place.ensures in
    let few : length page < 128 = subst (λ (z : List (Value × Rid)). length z < 128) second c.if-as_slice-lt128.true in
    let new : c.insert.new.self ≡ take place page ++ p ∷ drop place page =
    c.in_ok-insert.ensures.ok ∙ ap (λ (z : List (Value × Rid)). take place z ++ p ∷ drop place z) third in
    ap (λ (z : List (Value × Rid)). slice_set pages at z) new ∙ placed-small p pages at place page refl c.requires.at split c.requires.new few

pub returns-clause-ok : goal.returns-clause-ok
returns-clause-ok c =
    let p : Value × Rid = (c.args.key.now, c.args.rid) in
    let pages = c.args.pages.now.items in
    let at = c.args.at in
    let place = c.entries_before-place.result in
    let page = get_or pages at [] in
    let first : c.as_slice.result.now ≡ page = c.as_slice.ensures ∙ c.index.ensures ∙ get_or_default pages at c.index.result.now [] c.requires.at in
    let second : c.as_slice-2.result.now ≡ page = c.as_slice-2.ensures ∙ c.index-2.ensures ∙ get_or_default pages at c.index-2.result.now [] c.requires.at in
    let third : c.index-3.result.now ≡ page = c.index-3.ensures ∙ get_or_default pages at c.index-3.result.now [] c.requires.at in
    let split : IsSplit (passes (From p.0 p.1)) page place = subst (λ (z : List (Value × Rid)). IsSplit (passes (From p.0 p.1)) z place) first c.entries_before-place.ensures in
    let many : 128 ≤ length page = subst (λ (z : List (Value × Rid)). 128 ≤ length z) second (omega (arith, c.if-as_slice-lt128.false)) in
    let whole = take place page ++ p ∷ drop place page in
    let one : c.in_ok-first.first ≡ take 64 whole = c.in_ok-first.ensures.first ∙ ap (λ (z : List (Value × Rid)). take 64 (take place z ++ p ∷ drop place z)) third in
    let two : c.in_ok-first.second ≡ drop 64 whole = c.in_ok-first.ensures.second ∙ ap (λ (z : List (Value × Rid)). drop 64 (take place z ++ p ∷ drop place z)) third in
    let next : at + 1 ≡ suc at = omega arith in
    let items : c.insert-2.new.self.items ≡ insert pages (suc at) (drop 64 whole) =
    c.in_ok-insert-2.ensures.items ∙ ap (λ (n : ℕ). insert pages n c.in_ok-first.second) next ∙ ap (λ (z : List (Value × Rid)). insert pages (suc at) z) two in
    ap (λ (z : List (List (Value × Rid))). slice_set z at c.in_ok-first.first) items
    ∙ ap (λ (z : List (Value × Rid)). slice_set (insert pages (suc at) (drop 64 whole)) at z) one
    ∙ placed-large p pages at place page refl c.requires.at split c.requires.new many
