use Rattle.std.proofs.Common.{◌≡◌, ℕ, suc, ◌+◌, ◌<◌, true, false, List, [], ◌++◌, get_or, length, take, drop, ap, ◌∙◌, sym, subst, arith}
use Rattle.std.proofs.lemmas.List.{get_or_default}
use Rattle.iso_key.proofs.Removed.{get-set, has-place, out-empty, out-kept, out-none, without-at}
use Rattle.iso_key.proofs.Rises.{rising-entries}
use Rattle.iso_key.specs.Cuts.{passes}
use Rattle.iso_key.specs.Entries.{has_pair, without_pair}
use Rattle.iso_key.specs.Pages.{kept}
use Rattle.std.specs.Prelude.{◌==◌}
use Rattle.iso_key.specs.Splits.{IsRising, IsSplit}
use Rattle.iso_key.specs.declared.cut.Cut.TheVariants.{From}
use Rattle.iso_types.specs.declared.value.Rid.{Rid}
use Rattle.iso_types.specs.declared.value.Value.{Value}
use Rattle.iso_key.proofs.index.take_out.Goals as goal

pub entries_before-place-requires : goal.entries_before-place-requires
entries_before-place-requires c =
    let same : c.as_slice.result.now ≡ get_or c.args.pages.now.items c.args.at [] =
    c.as_slice.ensures ∙ c.index.ensures ∙ get_or_default c.args.pages.now.items c.args.at c.index.result.now [] c.requires.at in
    subst (λ (z : List (Value × Rid)). IsRising (passes (From c.args.key.now c.args.rid)) z) (sym same) (rising-entries (From c.args.key.now c.args.rid) (get_or c.args.pages.now.items c.args.at []) c.requires.ordered)

pub returns-then-not-stands_at-clause-pages : goal.returns-then-not-stands_at-clause-pages
returns-then-not-stands_at-clause-pages c =
    let p : Value × Rid = (c.args.key.now, c.args.rid) in
    let pages = c.args.pages.now.items in
    let second : c.as_slice-2.result.now ≡ get_or pages c.args.at [] = c.as_slice-2.ensures ∙ c.index-2.ensures ∙ get_or_default pages c.args.at c.index-2.result.now [] c.requires.at in
    let n : has_pair (get_or pages c.args.at []) p ≡ false = ap (λ z. has_pair z p) (sym second) ∙ sym c.stands_at.ensures ∙ c.if-not-stands_at.true in
    out-none p pages c.args.at c.requires.at c.requires.sized n

pub remove-requires : goal.remove-requires
remove-requires c =
    let p : Value × Rid = (c.args.key.now, c.args.rid) in
    let pages = c.args.pages.now.items in
    let page = get_or pages c.args.at [] in
    let first : c.as_slice.result.now ≡ page = c.as_slice.ensures ∙ c.index.ensures ∙ get_or_default pages c.args.at c.index.result.now [] c.requires.at in
    let second : c.as_slice-2.result.now ≡ page = c.as_slice-2.ensures ∙ c.index-2.ensures ∙ get_or_default pages c.args.at c.index-2.result.now [] c.requires.at in
    let third : c.index_mut.result.now ≡ page = c.index_mut.ensures.value ∙ get_or_default pages c.args.at c.index_mut.result.now [] c.requires.at in
    let split : IsSplit (passes (From p.0 p.1)) page c.entries_before-place.result = subst (λ (z : List (Value × Rid)). IsSplit (passes (From p.0 p.1)) z c.entries_before-place.result) first c.entries_before-place.ensures in
    let h : has_pair page p ≡ true = ap (λ z. has_pair z p) (sym second) ∙ sym c.stands_at.ensures ∙ c.if-not-stands_at.false in
    let l = has-place p page c.entries_before-place.result split.before h in
    subst (λ (z : List (Value × Rid)). c.entries_before-place.result < length z) (sym third) l

pub returns-then-is_empty-clause-pages : goal.returns-then-is_empty-clause-pages
returns-then-is_empty-clause-pages c =
    let p : Value × Rid = (c.args.key.now, c.args.rid) in
    let pages = c.args.pages.now.items in
    let at = c.args.at in
    let place = c.entries_before-place.result in
    let page = get_or pages at [] in
    let first : c.as_slice.result.now ≡ page = c.as_slice.ensures ∙ c.index.ensures ∙ get_or_default pages at c.index.result.now [] c.requires.at in
    let second : c.as_slice-2.result.now ≡ page = c.as_slice-2.ensures ∙ c.index-2.ensures ∙ get_or_default pages at c.index-2.result.now [] c.requires.at in
    let third : c.index_mut.result.now ≡ page = c.index_mut.ensures.value ∙ get_or_default pages at c.index_mut.result.now [] c.requires.at in
    let split : IsSplit (passes (From p.0 p.1)) page place = subst (λ (z : List (Value × Rid)). IsSplit (passes (From p.0 p.1)) z place) first c.entries_before-place.ensures in
    let h : has_pair page p ≡ true = ap (λ z. has_pair z p) (sym second) ∙ sym c.stands_at.ensures ∙ c.if-not-stands_at.false in
    let w = c.remove.new.self in
    let next : place + 1 ≡ suc place = omega arith in
    let left : w ≡ without_pair p page = c.remove.ensures ∙ ap (λ (z : List (Value × Rid)). take place z ++ drop (place + 1) z) third
    ∙ ap (λ (n : ℕ). take place page ++ drop n page) next ∙ sym (without-at p page place c.requires.ordered split.before split.behind h) in
    let fourth : c.as_slice-3.result.now ≡ w = c.as_slice-3.ensures ∙ c.index-3.ensures ∙ get-set pages at w c.index-3.result.now c.requires.at in
    let size : (length w == 0) ≡ c.is_empty.result = ap (λ (z : List (Value × Rid)). length z == 0) (sym fourth) ∙ sym c.is_empty.ensures in
    c.remove-then-is_empty.ensures.by_index.2 ∙ out-empty pages at w (size ∙ c.if-is_empty.true)
    ∙ ap (λ (z : List (Value × Rid)). take at pages ++ (kept z ++ drop (suc at) pages)) left

pub returns-else-is_empty-clause-pages : goal.returns-else-is_empty-clause-pages
returns-else-is_empty-clause-pages c =
    let p : Value × Rid = (c.args.key.now, c.args.rid) in
    let pages = c.args.pages.now.items in
    let at = c.args.at in
    let place = c.entries_before-place.result in
    let page = get_or pages at [] in
    let first : c.as_slice.result.now ≡ page = c.as_slice.ensures ∙ c.index.ensures ∙ get_or_default pages at c.index.result.now [] c.requires.at in
    let second : c.as_slice-2.result.now ≡ page = c.as_slice-2.ensures ∙ c.index-2.ensures ∙ get_or_default pages at c.index-2.result.now [] c.requires.at in
    let third : c.index_mut.result.now ≡ page = c.index_mut.ensures.value ∙ get_or_default pages at c.index_mut.result.now [] c.requires.at in
    let split : IsSplit (passes (From p.0 p.1)) page place = subst (λ (z : List (Value × Rid)). IsSplit (passes (From p.0 p.1)) z place) first c.entries_before-place.ensures in
    let h : has_pair page p ≡ true = ap (λ z. has_pair z p) (sym second) ∙ sym c.stands_at.ensures ∙ c.if-not-stands_at.false in
    let w = c.remove.new.self in
    let next : place + 1 ≡ suc place = omega arith in
    let left : w ≡ without_pair p page = c.remove.ensures ∙ ap (λ (z : List (Value × Rid)). take place z ++ drop (place + 1) z) third
    ∙ ap (λ (n : ℕ). take place page ++ drop n page) next ∙ sym (without-at p page place c.requires.ordered split.before split.behind h) in
    let fourth : c.as_slice-3.result.now ≡ w = c.as_slice-3.ensures ∙ c.index-3.ensures ∙ get-set pages at w c.index-3.result.now c.requires.at in
    let size : (length w == 0) ≡ c.is_empty.result = ap (λ (z : List (Value × Rid)). length z == 0) (sym fourth) ∙ sym c.is_empty.ensures in
    out-kept pages at w c.requires.at (size ∙ c.if-is_empty.false)
    ∙ ap (λ (z : List (Value × Rid)). take at pages ++ (kept z ++ drop (suc at) pages)) left
