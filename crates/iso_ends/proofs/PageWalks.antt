-- The pairs of an index, page by page: the first that passes a test.
use Rattle.std.proofs.Common.{◌≡◌, ◌≤◌, ℕ, zero, suc, ◌+◌, Bool, true, false, List, [], ◌∷◌, length, refl, sym, ap, ◌∙◌, subst, Option, Some, None, arith}
use Rattle.std.proofs.lemmas.List.{take_all}
use Rattle.std.proofs.lemmas.List.Folds.{find-append}
use Rattle.std.specs.Option.{option_or}
use Rattle.std.specs.Prelude.{find, is_some, slice_get, take}
use Rattle.iso_key.specs.Pages.{entries}
use Rattle.iso_types.specs.declared.value.Rid.{Rid}
use Rattle.iso_types.specs.declared.value.Value.{Value}

abbrev Pair : Type 0
Pair = Value × Rid

abbrev Pages : Type 0
Pages = List (List Pair)

-- neither of two, where there is neither
neither : (o q : Option Pair) → option_or o q ≡ None → (o ≡ None) × (q ≡ None)
neither None q e = (refl, e)
neither (Some p) q e = cc

module _ (t : Pair → Bool) where
  joined : (page : List Pair) (pages : Pages) → find t (entries (page ∷ pages)) ≡ option_or (find t page) (find t (entries pages))
  joined page pages = find-append t page (entries pages)

  -- behind pages without one, a page with one has the first
  pub page-found : (pages : Pages) (at : ℕ) (page : List Pair) (p : Pair) → slice_get pages at ≡ Some page
      → find t (entries (take at pages)) ≡ None → find t page ≡ Some p → find t (entries pages) ≡ Some p
  page-found [] at page p g none f = cc
  page-found (q ∷ qs) zero page p g none f =
      let same : q ≡ page = cc in
      joined q qs ∙ ap (λ x. option_or (find t x) (find t (entries qs))) same ∙ ap (λ o. option_or o (find t (entries qs))) f
  page-found (q ∷ qs) (suc at) page p g none f =
      let split = neither (find t q) (find t (entries (take at qs))) (sym (joined q (take at qs)) ∙ none) in
      joined q qs ∙ ap (λ o. option_or o (find t (entries qs))) split.0 ∙ page-found qs at page p g split.1 f

  -- the same, whichever it is
  pub page-some : (pages : Pages) (at : ℕ) (page : List Pair) → slice_get pages at ≡ Some page
      → find t (entries (take at pages)) ≡ None → is_some (find t page) ≡ true → is_some (find t (entries pages)) ≡ true
  page-some pages at page g none f = go (find t page) refl f
    where
      go : (o : Option Pair) → find t page ≡ o → is_some o ≡ true → is_some (find t (entries pages)) ≡ true
      go None e h = cc
      go (Some p) e h = ap (λ (o : Option Pair). is_some o) (page-found pages at page p g none e)

  none-of : (o : Option Pair) → is_some o ≡ false → o ≡ None
  none-of None h = refl
  none-of (Some p) h = cc

  one-more : (pages : Pages) (at : ℕ) (page : List Pair) → slice_get pages at ≡ Some page
      → find t (entries (take at pages)) ≡ None → find t page ≡ None → find t (entries (take (suc at) pages)) ≡ None
  one-more [] at page g none f = refl
  one-more (q ∷ qs) zero page g none f =
      let same : q ≡ page = cc in
      joined q [] ∙ ap (λ x. option_or (find t x) None) same ∙ ap (λ o. option_or o None) f
  one-more (q ∷ qs) (suc at) page g none f =
      let split = neither (find t q) (find t (entries (take at qs))) (sym (joined q (take at qs)) ∙ none) in
      joined q (take (suc at) qs) ∙ ap (λ o. option_or o (find t (entries (take (suc at) qs)))) split.0 ∙ one-more qs at page g split.1 f

  -- a page without one is passed
  pub page-passed : (pages : Pages) (at next : ℕ) (page : List Pair) → slice_get pages at ≡ Some page → next ≡ at + 1
      → find t (entries (take at pages)) ≡ None → find t page ≡ None → find t (entries (take next pages)) ≡ None
  page-passed pages at next page g is none f =
      let same : suc at ≡ next = omega (arith, is) in
      subst (λ k. find t (entries (take k pages)) ≡ None) same (one-more pages at page g none f)

  pub page-unfound : (pages : Pages) (at next : ℕ) (page : List Pair) → slice_get pages at ≡ Some page → next ≡ at + 1
      → find t (entries (take at pages)) ≡ None → is_some (find t page) ≡ false → find t (entries (take next pages)) ≡ None
  page-unfound pages at next page g is none f = page-passed pages at next page g is none (none-of (find t page) f)

  -- all pages are passed
  pub all-passed : (pages : Pages) (at : ℕ) → length pages ≤ at → find t (entries (take at pages)) ≡ None → find t (entries pages) ≡ None
  all-passed pages at le none = sym (ap (λ (z : Pages). find t (entries z)) (take_all at pages le)) ∙ none
