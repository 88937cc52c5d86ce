-- Which page an entry is taken from.
use Rattle.std.proofs.Common.{◌≡◌, ℕ, zero, suc, ◌<◌, Bool, true, false, List, [], ◌∷◌, ◌++◌, length, get_or, take, drop, filter, map, refl, ap, arith, sym, subst, ◌∙◌}
use Rattle.std.specs.List.{list_all, list_any}
use Rattle.iso_key.proofs.Pairs.{pair-trans, pair_is}
use Rattle.iso_key.proofs.Placed.{above-lacks, any-parts}
use Rattle.iso_key.proofs.Removed.{kept-page, without-lacks}
use Rattle.iso_key.proofs.Rises.{all-parts, all-weaken, ordered-parts, page-filled}
use Rattle.iso_key.proofs.Truths.{both, either}
use Rattle.iso_key.specs.Cuts.{starts_behind}
use Rattle.iso_key.specs.declared.cut.Cut.TheVariants.{After}
use Rattle.iso_key.specs.Entries.{IsOrdered, has_pair, without_pair}
use Rattle.iso_key.specs.Pages.{entries, is_filled, is_page, kept, removed}
use Rattle.iso_types.specs.Ids.{pair_eq, pair_lt}
use Rattle.iso_types.specs.declared.value.Rid.{Rid}
use Rattle.iso_types.specs.declared.value.Value.{Value}

any-left : {A : Type 0} (t : A → Bool) (xs ys : List A) → list_any t xs ≡ false → list_any t (xs ++ ys) ≡ list_any t ys
any-left t [] ys a = refl
any-left t (x ∷ xs) ys a = let e = either (t x) (list_any t xs) a in rw e.0 (any-left t xs ys e.1)

any-right : {A : Type 0} (t : A → Bool) (xs ys : List A) → list_any t ys ≡ false → list_any t (xs ++ ys) ≡ list_any t xs
any-right t [] ys a = a
any-right t (x ∷ xs) ys a = go (t x) refl (any-right t xs ys a)
  where
    go : (b : Bool) → t x ≡ b → list_any t (xs ++ ys) ≡ list_any t xs → list_any t (x ∷ xs ++ ys) ≡ list_any t (x ∷ xs)
    go true e ih = rw e refl
    go false e ih = rw e ih

-- pages that begin above the pair do not have it
pub behind-lacks : (p : Value × Rid) (pages : List (List (Value × Rid))) → IsOrdered (entries pages) → list_all (starts_behind (After p.0 p.1)) pages ≡ true
    → has_pair (entries pages) p ≡ false
behind-lacks p [] o a = refl
behind-lacks p ([] ∷ pages) o a = cc
behind-lacks p ((q ∷ qs) ∷ pages) o a =
    let g : pair_lt p q ≡ true = (both (pair_lt p q) (list_all (starts_behind (After p.0 p.1)) pages) a).0 in
    above-lacks p (q ∷ qs ++ entries pages) (rw g (all-weaken (pair_lt q) (pair_lt p) (qs ++ entries pages) (λ x l. pair-trans p q x g l) o.0))

-- what is below an entry that is not above the pair is another
lower-lacks : (p q : Value × Rid) (page rest : List (Value × Rid)) → IsOrdered (page ++ q ∷ rest) → pair_lt p q ≡ false → has_pair page p ≡ false
lower-lacks p q [] rest o e = refl
lower-lacks p q (x ∷ page) rest o e = rw (differ (pair_eq p x) refl) (lower-lacks p q page rest o.1 e)
  where
    below : pair_lt x q ≡ true
    below = (both (pair_lt x q) (list_all (pair_lt x) rest) ((all-parts (pair_lt x) page (q ∷ rest) o.0).1)).0

    differ : (c : Bool) → pair_eq p x ≡ c → pair_eq p x ≡ false
    differ false f = f
    differ true f = let z : pair_lt p q ≡ true = subst (λ (y : Value × Rid). pair_lt y q ≡ true) (sym (pair_is p x f)) below in absurd (cc)

-- pages before the last that does not begin above the pair do not have it
pub before-lacks : (p : Value × Rid) (pages : List (List (Value × Rid))) (at : ℕ) → IsOrdered (entries pages) → list_all is_page pages ≡ true → at < length pages
    → list_any (starts_behind (After p.0 p.1)) (take (suc at) pages) ≡ false → has_pair (entries (take at pages)) p ≡ false
before-lacks p [] at o s l b = absurd (omega (arith, l))
before-lacks p (page ∷ pages) zero o s l b = refl
before-lacks p (page ∷ []) (suc at) o s l b = absurd (omega (arith, l))
before-lacks p (page ∷ [] ∷ pages) (suc at) o s l b =
    let f = page-filled [] (both (is_page []) (list_all is_page pages) (both (is_page page) (list_all is_page ([] ∷ pages)) s).1).0 in absurd (cc)
before-lacks p (page ∷ (q ∷ qs) ∷ pages) (suc at) o s l b =
    let rest = (q ∷ qs) ∷ pages in
    let e = either (starts_behind (After p.0 p.1) page) (list_any (starts_behind (After p.0 p.1)) (take (suc at) rest)) b in
    let g = either (pair_lt p q) (list_any (starts_behind (After p.0 p.1)) (take at pages)) e.1 in
    any-left (pair_eq p) page (entries (take at rest)) (lower-lacks p q page (qs ++ entries pages) o g.0)
    ∙ before-lacks p rest at (ordered-parts page (entries rest) o).1 (both (is_page page) (list_all is_page rest) s).1 (omega arith) e.1

filter-kept : (w : List (Value × Rid)) (rest : List (List (Value × Rid))) → filter is_filled (w ∷ rest) ≡ kept w ++ filter is_filled rest
filter-kept [] rest = refl
filter-kept (q ∷ qs) rest = refl

pub removed-lacks : (p : Value × Rid) (pages : List (List (Value × Rid))) → list_all is_page pages ≡ true → has_pair (entries pages) p ≡ false → removed p pages ≡ pages
removed-lacks p [] s h = refl
removed-lacks p (page ∷ pages) s h =
    let b = both (is_page page) (list_all is_page pages) s in
    let n = any-parts (pair_eq p) page (entries pages) h in
    filter-kept (without_pair p page) (map (without_pair p) pages)
    ∙ ap (λ (z : List (Value × Rid)). kept z ++ removed p pages) (without-lacks p page n.0)
    ∙ ap (λ (z : List (List (Value × Rid))). z ++ removed p pages) (kept-page page b.0)
    ∙ ap (λ (z : List (List (Value × Rid))). page ∷ z) (removed-lacks p pages b.1 n.1)

-- the page that has it, by its place
pub removed-at : (p : Value × Rid) (pages : List (List (Value × Rid))) (at : ℕ) → at < length pages → list_all is_page pages ≡ true
    → has_pair (entries (take at pages)) p ≡ false → has_pair (entries (drop (suc at) pages)) p ≡ false
    → removed p pages ≡ take at pages ++ (kept (without_pair p (get_or pages at [])) ++ drop (suc at) pages)
removed-at p [] at l s h k = absurd (omega (arith, l))
removed-at p (page ∷ pages) zero l s h k =
    filter-kept (without_pair p page) (map (without_pair p) pages)
    ∙ ap (λ (z : List (List (Value × Rid))). kept (without_pair p page) ++ z) (removed-lacks p pages (both (is_page page) (list_all is_page pages) s).1 k)
removed-at p (page ∷ pages) (suc at) l s h k =
    let b = both (is_page page) (list_all is_page pages) s in
    let n = any-parts (pair_eq p) page (entries (take at pages)) h in
    filter-kept (without_pair p page) (map (without_pair p) pages)
    ∙ ap (λ (z : List (Value × Rid)). kept z ++ removed p pages) (without-lacks p page n.0)
    ∙ ap (λ (z : List (List (Value × Rid))). z ++ removed p pages) (kept-page page b.0)
    ∙ ap (λ (z : List (List (Value × Rid))). page ∷ z) (removed-at p pages at (omega arith) b.1 n.1 k)

pub has-at : (p : Value × Rid) (pages : List (List (Value × Rid))) (at : ℕ) → at < length pages → has_pair (entries (take at pages)) p ≡ false
    → has_pair (entries (drop (suc at) pages)) p ≡ false → has_pair (entries pages) p ≡ has_pair (get_or pages at []) p
has-at p [] at l h k = absurd (omega (arith, l))
has-at p (page ∷ pages) zero l h k = any-right (pair_eq p) page (entries pages) k
has-at p (page ∷ pages) (suc at) l h k =
    let n = any-parts (pair_eq p) page (entries (take at pages)) h in
    any-left (pair_eq p) page (entries pages) n.0 ∙ has-at p pages at (omega arith) n.1 k

-- the pages from a place on are in order
pub ordered-drop : (pages : List (List (Value × Rid))) (n : ℕ) → IsOrdered (entries pages) → IsOrdered (entries (drop n pages))
ordered-drop [] zero o = tt
ordered-drop [] (suc n) o = tt
ordered-drop (page ∷ pages) zero o = o
ordered-drop (page ∷ pages) (suc n) o = ordered-drop pages n (ordered-parts page (entries pages) o).1
