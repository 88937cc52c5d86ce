-- An entry that leaves its page.
use Rattle.std.proofs.Common.{◌≡◌, ℕ, zero, suc, ◌+◌, ◌<◌, ◌≤◌, Bool, true, false, not, List, [], ◌∷◌, ◌++◌, length, get_or, take, drop, filter, map, refl, ap, arith, sym, subst, ◌∙◌}
use Rattle.std.specs.List.{list_all, list_any}
use Rattle.std.specs.Prelude.{slice_set, ◌==◌}
use Rattle.std.proofs.lemmas.Bool.Decides.{nat_tests}
use Rattle.iso_key.proofs.Pairs.{pair_is}
use Rattle.iso_key.proofs.Placed.{above-lacks, greater, not-same, page-by, page-short, set-split}
use Rattle.iso_key.proofs.Rises.{all-weaken, page-filled}
use Rattle.iso_key.proofs.Pairs.{pair-trans}
use Rattle.iso_key.proofs.Ordered.{ordered-without}
use Rattle.iso_key.proofs.Truths.{both, either, turned}
use Rattle.iso_key.specs.Cuts.{passes}
use Rattle.iso_key.specs.declared.cut.Cut.TheVariants.{From}
use Rattle.iso_key.specs.Entries.{IsOrdered, has_pair, without_pair}
use Rattle.iso_key.specs.Pages.{IsPaged, entries, is_filled, is_page, kept, removed}
use Rattle.iso_types.specs.Ids.{pair_eq, pair_lt}
use Rattle.iso_types.specs.declared.value.Rid.{Rid}
use Rattle.iso_types.specs.declared.value.Value.{Value}

-- a list without the pair stays
pub without-lacks : (p : Value × Rid) (qs : List (Value × Rid)) → has_pair qs p ≡ false → without_pair p qs ≡ qs
without-lacks p [] h = refl
without-lacks p (q ∷ qs) h = let e = either (pair_eq p q) (has_pair qs p) h in rw e.0 (ap (λ (z : List (Value × Rid)). q ∷ z) (without-lacks p qs e.1))

-- the pair leaves its place
pub without-at : (p : Value × Rid) (xs : List (Value × Rid)) (at : ℕ) → IsOrdered xs → list_any (passes (From p.0 p.1)) (take at xs) ≡ false
    → list_all (passes (From p.0 p.1)) (drop at xs) ≡ true → has_pair xs p ≡ true → without_pair p xs ≡ take at xs ++ drop (suc at) xs
without-at p [] at o b a h = cc
without-at p (x ∷ xs) zero o b a h = go (pair_eq p x) refl
  where
    go : (c : Bool) → pair_eq p x ≡ c → without_pair p (x ∷ xs) ≡ xs
    go true e = rw e (without-lacks p xs (above-lacks p xs (subst (λ (z : Value × Rid). list_all (pair_lt z) xs ≡ true) (sym (pair_is p x e)) o.0)))
    go false e =
        let l : pair_lt x p ≡ false = turned (pair_lt x p) (both (not (pair_lt x p)) (list_all (passes (From p.0 p.1)) xs) a).0 in
        let g = greater p x l e in
        let n : has_pair xs p ≡ false = above-lacks p xs (all-weaken (pair_lt x) (pair_lt p) xs (λ y m. pair-trans p x y g m) o.0) in
        let k : has_pair xs p ≡ true = rw e at h in absurd (cc)
without-at p (x ∷ xs) (suc at) o b a h =
    let e = either (not (pair_lt x p)) (list_any (passes (From p.0 p.1)) (take at xs)) b in
    let l : pair_lt x p ≡ true = back (pair_lt x p) e.0 in
    let n : pair_eq p x ≡ false = not-same x p l in
    let k : has_pair xs p ≡ true = rw n at h in
    rw n (ap (λ (z : List (Value × Rid)). x ∷ z) (without-at p xs at o.1 e.1 a k))
  where
    back : (c : Bool) → not c ≡ false → c ≡ true
    back true f = refl
    back false f = cc

-- all entries of the pages but the pair
filled-entries : (pages : List (List (Value × Rid))) → entries (filter is_filled pages) ≡ entries pages
filled-entries [] = refl
filled-entries ([] ∷ pages) = filled-entries pages
filled-entries ((q ∷ qs) ∷ pages) = ap (λ (z : List (Value × Rid)). (q ∷ qs) ++ z) (filled-entries pages)

without-append : (p : Value × Rid) (xs ys : List (Value × Rid)) → without_pair p xs ++ without_pair p ys ≡ without_pair p (xs ++ ys)
without-append p [] ys = refl
without-append p (x ∷ xs) ys = go (without-append p xs ys) (pair_eq p x) refl
  where
    go : without_pair p xs ++ without_pair p ys ≡ without_pair p (xs ++ ys) → (c : Bool) → pair_eq p x ≡ c
        → without_pair p (x ∷ xs) ++ without_pair p ys ≡ without_pair p (x ∷ xs ++ ys)
    go ih true e = rw e ih
    go ih false e = rw e (ap (λ (z : List (Value × Rid)). x ∷ z) ih)

without-pages : (p : Value × Rid) (pages : List (List (Value × Rid))) → entries (map (without_pair p) pages) ≡ without_pair p (entries pages)
without-pages p [] = refl
without-pages p (page ∷ pages) = ap (λ (z : List (Value × Rid)). without_pair p page ++ z) (without-pages p pages) ∙ without-append p page (entries pages)

pub entries-removed : (p : Value × Rid) (pages : List (List (Value × Rid))) → entries (removed p pages) ≡ without_pair p (entries pages)
entries-removed p pages = filled-entries (map (without_pair p) pages) ∙ without-pages p pages

length-without : (p : Value × Rid) (xs : List (Value × Rid)) → length (without_pair p xs) ≤ length xs
length-without p [] = omega arith
length-without p (x ∷ xs) = go (length-without p xs) (pair_eq p x) refl
  where
    go : length (without_pair p xs) ≤ length xs → (c : Bool) → pair_eq p x ≡ c → length (without_pair p (x ∷ xs)) ≤ length (x ∷ xs)
    go ih true e = rw e (omega (arith, ih))
    go ih false e = rw e (omega (arith, ih))

sized-removed : (p : Value × Rid) (pages : List (List (Value × Rid))) → list_all is_page pages ≡ true → list_all is_page (removed p pages) ≡ true
sized-removed p [] s = refl
sized-removed p (page ∷ pages) s =
    let b = both (is_page page) (list_all is_page pages) s in
    let l = length-without p page in let g = page-short page b.0 in
    go (sized-removed p pages b.1) (without_pair p page) (omega (arith, l, g))
  where
    go : list_all is_page (removed p pages) ≡ true → (w : List (Value × Rid)) → length w ≤ 128 → list_all is_page (filter is_filled (w ∷ map (without_pair p) pages)) ≡ true
    go ih [] l = ih
    go ih (q ∷ qs) l = rw (page-by (q ∷ qs) (omega arith) l) ih

pub paged-removed : (p : Value × Rid) (pages : List (List (Value × Rid))) → IsPaged pages → IsPaged (removed p pages)
paged-removed p pages i = record {
  ordered = subst IsOrdered (sym (entries-removed p pages)) (ordered-without p (entries pages) i.ordered);
  sized = sized-removed p pages i.sized;
}

split-at : {A : Type 0} (xs : List A) (at : ℕ) (d : A) → at < length xs → xs ≡ take at xs ++ (get_or xs at d ∷ drop (suc at) xs)
split-at [] at d l = absurd (omega (arith, l))
split-at (x ∷ xs) zero d l = refl
split-at {A} (x ∷ xs) (suc at) d l = ap (λ (z : List A). x ∷ z) (split-at xs at d (omega arith))

pub kept-page : (page : List (Value × Rid)) → is_page page ≡ true → kept page ≡ page ∷ []
kept-page [] s = let f = page-filled [] s in absurd (cc)
kept-page (q ∷ qs) s = refl

-- where the page does not have it, nothing changes
pub out-none : (p : Value × Rid) (pages : List (List (Value × Rid))) (at : ℕ) → at < length pages → is_page (get_or pages at []) ≡ true
    → has_pair (get_or pages at []) p ≡ false → pages ≡ take at pages ++ (kept (without_pair p (get_or pages at [])) ++ drop (suc at) pages)
out-none p pages at l s h =
    let e : kept (without_pair p (get_or pages at [])) ≡ get_or pages at [] ∷ [] =
    ap (λ (z : List (Value × Rid)). kept z) (without-lacks p (get_or pages at []) h) ∙ kept-page (get_or pages at []) s in
    split-at pages at [] l ∙ ap (λ (z : List (List (Value × Rid))). take at pages ++ (z ++ drop (suc at) pages)) (sym e)

-- an entry that is there stands at the split
pub has-place : (p : Value × Rid) (xs : List (Value × Rid)) (at : ℕ) → list_any (passes (From p.0 p.1)) (take at xs) ≡ false → has_pair xs p ≡ true → at < length xs
has-place p [] at b h = cc
has-place p (x ∷ xs) zero b h = omega arith
has-place p (x ∷ xs) (suc at) b h =
    let e = either (not (pair_lt x p)) (list_any (passes (From p.0 p.1)) (take at xs)) b in
    let n : pair_eq p x ≡ false = not-same x p (back (pair_lt x p) e.0) in
    let k : has_pair xs p ≡ true = rw n at h in
    let i = has-place p xs at e.1 k in omega (arith, i)
  where
    back : (c : Bool) → not c ≡ false → c ≡ true
    back true f = refl
    back false f = cc

pub take-set : {A : Type 0} (xs : List A) (at : ℕ) (y : A) → take at (slice_set xs at y) ≡ take at xs
take-set [] zero y = refl
take-set [] (suc at) y = refl
take-set (x ∷ xs) zero y = refl
take-set {A} (x ∷ xs) (suc at) y = ap (λ (z : List A). x ∷ z) (take-set xs at y)

pub drop-set : {A : Type 0} (xs : List A) (at : ℕ) (y : A) → drop (suc at) (slice_set xs at y) ≡ drop (suc at) xs
drop-set [] zero y = refl
drop-set [] (suc at) y = refl
drop-set (x ∷ xs) zero y = refl
drop-set (x ∷ xs) (suc at) y = drop-set xs at y

pub get-set : {A : Type 0} (xs : List A) (at : ℕ) (y d : A) → at < length xs → get_or (slice_set xs at y) at d ≡ y
get-set [] at y d l = absurd (omega (arith, l))
get-set (x ∷ xs) zero y d l = refl
get-set (x ∷ xs) (suc at) y d l = get-set xs at y d (omega arith)

pub length-set : {A : Type 0} (xs : List A) (at : ℕ) (y : A) → length (slice_set xs at y) ≡ length xs
length-set [] zero y = refl
length-set [] (suc at) y = refl
length-set (x ∷ xs) zero y = refl
length-set (x ∷ xs) (suc at) y = ap (λ (n : ℕ). suc n) (length-set xs at y)

-- a page that is left stays, an empty one goes
pub out-kept : (pages : List (List (Value × Rid))) (at : ℕ) (w : List (Value × Rid)) → at < length pages → (length w == 0) ≡ false
    → slice_set pages at w ≡ take at pages ++ (kept w ++ drop (suc at) pages)
out-kept pages at [] l e = cc
out-kept pages at (q ∷ qs) l e = set-split pages at (q ∷ qs) l

pub out-empty : (pages : List (List (Value × Rid))) (at : ℕ) (w : List (Value × Rid)) → (length w == 0) ≡ true
    → take at (slice_set pages at w) ++ drop (at + 1) (slice_set pages at w) ≡ take at pages ++ (kept w ++ drop (suc at) pages)
out-empty pages at (q ∷ qs) e = let z : length (q ∷ qs) ≡ 0 = grind (arith, nat_tests, e) in absurd (omega (arith, z))
out-empty pages at [] e =
    ap (λ (n : ℕ). take at (slice_set pages at []) ++ drop n (slice_set pages at [])) {x = at + 1} {y = suc at} (omega arith)
    ∙ ap (λ (z : List (List (Value × Rid))). z ++ drop (suc at) (slice_set pages at [])) (take-set pages at [])
    ∙ ap (λ (z : List (List (Value × Rid))). take at pages ++ z) (drop-set pages at [])
