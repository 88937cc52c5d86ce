-- The first entry behind a cut, by pages.
use Rattle.std.proofs.Common.{◌≡◌, ℕ, zero, suc, ◌-◌, ◌<◌, ◌≤◌, Bool, true, false, List, [], ◌∷◌, ◌++◌, length, get_or, take, drop, refl, ap, arith, sym, subst, ◌∙◌, slice_get, Some, None, Option}
use Rattle.std.specs.List.{list_all, list_any}
use Rattle.std.specs.Option.{option_or}
use Rattle.std.specs.Prelude.{find}
use Rattle.std.proofs.lemmas.List.Folds.{find-append}
use Rattle.std.proofs.lemmas.Option.{slice_get-get_or}
use Rattle.iso_key.proofs.Truths.{both, either}
use Rattle.iso_key.proofs.Rises.{all-parts, ordered-parts, page-filled, pass-up}
use Rattle.iso_key.proofs.Splits.{find-at}
use Rattle.iso_key.specs.Cuts.{passes, starts_behind}
use Rattle.iso_key.specs.declared.cut.Cut.{Cut}
use Rattle.iso_key.specs.Entries.{IsOrdered}
use Rattle.iso_key.specs.Splits.{IsSplit}
use Rattle.iso_key.specs.Pages.{entries, is_page}
use Rattle.iso_types.specs.Ids.{pair_lt}
use Rattle.iso_types.specs.declared.value.Rid.{Rid}
use Rattle.iso_types.specs.declared.value.Value.{Value}

-- where none passes nothing is found
pub find-any_none : {A : Type 0} (t : A → Bool) (xs : List A) → list_any t xs ≡ false → find t xs ≡ None
find-any_none t [] a = refl
find-any_none t (x ∷ xs) a = let e = either (t x) (list_any t xs) a in rw e.0 (find-any_none t xs e.1)

-- past the end there is nothing
pub get-over : {A : Type 0} (xs : List A) (at : ℕ) → length xs ≤ at → slice_get xs at ≡ None
get-over [] zero l = refl
get-over [] (suc at) l = refl
get-over (x ∷ xs) zero l = absurd (omega (arith, l))
get-over (x ∷ xs) (suc at) l = get-over xs at (omega arith)

pub ordered-page : (pages : List (List (Value × Rid))) (n : ℕ) (d : List (Value × Rid)) → IsOrdered (entries pages) → n < length pages → IsOrdered (get_or pages n d)
ordered-page [] n d o l = absurd (omega (arith, l))
ordered-page (page ∷ pages) zero d o l = (ordered-parts page (entries pages) o).0
ordered-page (page ∷ pages) (suc n) d o l = ordered-page pages n d (ordered-parts page (entries pages) o).1 (omega arith)

-- entries below one before the cut are before it
none-below : (cut : Cut) (page rest : List (Value × Rid)) (q : Value × Rid) → IsOrdered (page ++ q ∷ rest) → passes cut q ≡ false → list_any (passes cut) page ≡ false
none-below cut [] rest q o e = refl
none-below cut (x ∷ page) rest q o e = go (none-below cut page rest q o.1 e) (passes cut x) refl
  where
    below : pair_lt x q ≡ true
    below = (both (pair_lt x q) (list_all (pair_lt x) rest) ((all-parts (pair_lt x) page (q ∷ rest) o.0).1)).0

    go : list_any (passes cut) page ≡ false → (b : Bool) → passes cut x ≡ b → list_any (passes cut) (x ∷ page) ≡ false
    go ih false f = rw f ih
    go ih true f = let z : passes cut q ≡ true = pass-up cut x q below f in absurd (cc)

-- where each page begins behind the cut, the first entry of all is found
pub find-first : (cut : Cut) (pages : List (List (Value × Rid))) → list_all is_page pages ≡ true → list_all (starts_behind cut) pages ≡ true
    → find (passes cut) (entries pages) ≡ slice_get (get_or pages 0 []) 0
find-first cut [] s a = refl
find-first cut ([] ∷ pages) s a = let f = page-filled [] (both (is_page []) (list_all is_page pages) s).0 in absurd (cc)
find-first cut ((p ∷ ps) ∷ pages) s a = rw (both (passes cut p) (list_all (starts_behind cut) pages) a).0 refl

-- what is found stands in the last page that begins before the cut, or is the first of the next page
find-pages : (cut : Cut) (pages : List (List (Value × Rid))) (n : ℕ) (d : List (Value × Rid)) → IsOrdered (entries pages) → list_all is_page pages ≡ true
    → list_any (starts_behind cut) (take (suc n) pages) ≡ false → list_all (starts_behind cut) (drop (suc n) pages) ≡ true → n < length pages
    → find (passes cut) (entries pages) ≡ option_or (find (passes cut) (get_or pages n d)) (slice_get (get_or pages (suc n) []) 0)
find-pages cut [] n d o s b a l = absurd (omega (arith, l))
find-pages cut (page ∷ pages) zero d o s b a l =
    find-append (passes cut) page (entries pages)
    ∙ ap (λ (z : Option (Value × Rid)). option_or (find (passes cut) page) z) (find-first cut pages (both (is_page page) (list_all is_page pages) s).1 a)
find-pages cut (page ∷ []) (suc n) d o s b a l = absurd (omega (arith, l))
find-pages cut (page ∷ [] ∷ pages) (suc n) d o s b a l =
    let f = page-filled [] (both (is_page []) (list_all is_page pages) (both (is_page page) (list_all is_page ([] ∷ pages)) s).1).0 in absurd (cc)
find-pages cut (page ∷ (q ∷ qs) ∷ pages) (suc n) d o s b a l =
    let rest = (q ∷ qs) ∷ pages in
    let e = either (starts_behind cut page) (list_any (starts_behind cut) (take (suc n) rest)) b in
    let g = either (passes cut q) (list_any (starts_behind cut) (take n pages)) e.1 in
    let k : find (passes cut) page ≡ None = find-any_none (passes cut) page (none-below cut page (qs ++ entries pages) q o g.0) in
    find-append (passes cut) page (entries rest)
    ∙ ap (λ (z : Option (Value × Rid)). option_or z (find (passes cut) (entries rest))) k
    ∙ find-pages cut rest n d (ordered-parts page (entries rest) o).1 (both (is_page page) (list_all is_page rest) s).1 e.1 a (omega arith)

module _ (cut : Cut) (pages : List (List (Value × Rid))) (o : IsOrdered (entries pages)) (s : list_all is_page pages ≡ true) (next : ℕ)
    (split : IsSplit (starts_behind cut) pages next) where
  -- where no page begins before the cut
  pub found-first : (next ≡ 0) → find (passes cut) (entries pages) ≡ slice_get (get_or pages next []) 0
  found-first e = let b = split.behind in rw e (find-first cut pages s (rw e at b))

  module _ (above : 0 < next) (page : List (Value × Rid)) (is : page ≡ get_or pages (next - 1) page) (at : ℕ) (here : IsSplit (passes cut) page at) where
    within : next - 1 < length pages
    within = let w = split.within in omega (arith, above, w)

    pub page-ordered : IsOrdered page
    page-ordered = subst IsOrdered (sym is) (ordered-page pages (next - 1) page o within)

    joined : find (passes cut) (entries pages) ≡ option_or (slice_get page at) (slice_get (get_or pages next []) 0)
    joined =
        let e : next ≡ suc (next - 1) = omega (arith, above) in
        let b : list_any (starts_behind cut) (take (suc (next - 1)) pages) ≡ false = subst (λ (n : ℕ). list_any (starts_behind cut) (take n pages) ≡ false) e split.before in
        let a : list_all (starts_behind cut) (drop (suc (next - 1)) pages) ≡ true = subst (λ (n : ℕ). list_all (starts_behind cut) (drop n pages) ≡ true) e split.behind in
        let f = find-pages cut pages (next - 1) page o s b a within in
        f ∙ ap (λ (z : List (Value × Rid)). option_or (find (passes cut) z) (slice_get (get_or pages (suc (next - 1)) []) 0)) (sym is)
        ∙ ap (λ (z : Option (Value × Rid)). option_or z (slice_get (get_or pages (suc (next - 1)) []) 0)) (find-at (passes cut) page at here.before here.behind)
        ∙ ap (λ (n : ℕ). option_or (slice_get page at) (slice_get (get_or pages n []) 0)) (sym e)

    pub found-here : (p : Value × Rid) → at < length page → p ≡ get_or page at p → Some p ≡ find (passes cut) (entries pages)
    found-here p l i =
        let k : slice_get page at ≡ Some p = slice_get-get_or page at p l ∙ ap (λ (z : Value × Rid). Some z) (sym i) in
        sym (joined ∙ ap (λ (z : Option (Value × Rid)). option_or z (slice_get (get_or pages next []) 0)) k)

    pub found-next : (at < length page → ⊥) → find (passes cut) (entries pages) ≡ slice_get (get_or pages next []) 0
    found-next n = joined ∙ ap (λ (z : Option (Value × Rid)). option_or z (slice_get (get_or pages next []) 0)) (get-over page at (omega (arith, n)))
