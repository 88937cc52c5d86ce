-- A new entry in its page.
use Rattle.std.proofs.Common.{◌≡◌, ℕ, zero, suc, ◌-◌, ◌<◌, ◌≤◌, Bool, true, false, not, List, [], ◌∷◌, ◌++◌, length, get_or, take, drop, refl, ap, arith, sym, subst, ◌∙◌}
use Rattle.std.specs.List.{list_all, list_any}
use Rattle.std.proofs.lemmas.List.{length-take-le, take-append-drop}
use Rattle.std.proofs.lemmas.Bool.Decides.{nat_tests}
use Rattle.std.specs.List.{insert}
use Rattle.std.specs.Option.{option_map_or}
use Rattle.std.specs.Prelude.{find, nat_lt, slice_set}
use Rattle.iso_key.specs.Cuts.{passes, starts_behind}
use Rattle.iso_key.specs.Splits.{IsSplit}
use Rattle.iso_key.specs.declared.cut.Cut.TheVariants.{From}
use Rattle.iso_key.proofs.Ordered.{ordered-with}
use Rattle.iso_key.proofs.Pairs.{pair-irrefl, pair-total, pair-trans, pair_is, pair_same}
use Rattle.iso_key.proofs.Rises.{all-parts, all-weaken, ordered-parts, page-filled}
use Rattle.iso_key.proofs.Splits.{length-drop}
use Rattle.iso_key.proofs.Truths.{both, either, turned}
use Rattle.iso_key.specs.Entries.{IsOrdered, has_pair, with_pair}
use Rattle.iso_key.specs.Pages.{IsPaged, entries, is_filled, is_page, parted, placed, starts_below}
use Rattle.iso_types.specs.Ids.{pair_eq, pair_lt}
use Rattle.iso_types.specs.declared.value.Rid.{Rid}
use Rattle.iso_types.specs.declared.value.Value.{Value}

pub not-above : (x p : Value × Rid) → pair_lt x p ≡ true → pair_lt p x ≡ false
not-above x p e = go (pair_lt p x) refl
  where
    go : (b : Bool) → pair_lt p x ≡ b → pair_lt p x ≡ false
    go false f = f
    go true f = let z : pair_lt x x ≡ true = pair-trans x p x e f in let i : pair_lt x x ≡ false = pair-irrefl x in cc

pub not-same : (x p : Value × Rid) → pair_lt x p ≡ true → pair_eq p x ≡ false
not-same x p e = go (pair_eq p x) refl
  where
    go : (b : Bool) → pair_eq p x ≡ b → pair_eq p x ≡ false
    go false f = f
    go true f =
        let z : pair_lt x x ≡ true = subst (λ (y : Value × Rid). pair_lt x y ≡ true) (pair_is p x f) e in
        let i : pair_lt x x ≡ false = pair-irrefl x in cc

-- behind what is below it, the pair stands in the rest
pub with-right : (p : Value × Rid) (xs ys : List (Value × Rid)) → list_all (λ x. pair_lt x p) xs ≡ true → with_pair p (xs ++ ys) ≡ xs ++ with_pair p ys
with-right p [] ys a = refl
with-right p (x ∷ xs) ys a =
    let b = both (pair_lt x p) (list_all (λ x. pair_lt x p) xs) a in
    rw (not-above x p b.0, not-same x p b.0) (ap (λ (z : List (Value × Rid)). x ∷ z) (with-right p xs ys b.1))

-- before what is above it, the pair stands in the first part
pub with-left : (p : Value × Rid) (xs ys : List (Value × Rid)) → list_all (pair_lt p) ys ≡ true → with_pair p (xs ++ ys) ≡ with_pair p xs ++ ys
with-left p [] [] a = refl
with-left p [] (y ∷ ys) a = rw (both (pair_lt p y) (list_all (pair_lt p) ys) a).0 refl
with-left p (x ∷ xs) ys a = go (with-left p xs ys a) (pair_lt p x) refl (pair_eq p x) refl
  where
    go : with_pair p (xs ++ ys) ≡ with_pair p xs ++ ys → (b : Bool) → pair_lt p x ≡ b → (c : Bool) → pair_eq p x ≡ c
        → with_pair p (x ∷ xs ++ ys) ≡ with_pair p (x ∷ xs) ++ ys
    go ih true e c f = rw e refl
    go ih false e true f = rw (e, f) refl
    go ih false e false f = rw (e, f) (ap (λ (z : List (Value × Rid)). x ∷ z) ih)

pub any-at : {A : Type 0} (t : A → Bool) (xs : List A) (k : ℕ) (d : A) → k < length xs → t (get_or xs k d) ≡ true → list_any t xs ≡ true
any-at t [] k d l e = absurd (omega (arith, l))
any-at t (x ∷ xs) zero d l e = rw e refl
any-at t (x ∷ xs) (suc k) d l e = go (any-at t xs k d (omega arith) e) (t x) refl
  where
    go : list_any t xs ≡ true → (b : Bool) → t x ≡ b → list_any t (x ∷ xs) ≡ true
    go ih true f = rw f refl
    go ih false f = rw f ih

-- the page that takes the new entry, by its place
pub placed-at : (p : Value × Rid) (pages : List (List (Value × Rid))) (at : ℕ) → at < length pages
    → (0 < at → starts_below p (get_or pages at []) ≡ true) → list_any (starts_below p) (drop (suc at) pages) ≡ false
    → placed p pages ≡ take at pages ++ (parted (with_pair p (get_or pages at [])) ++ drop (suc at) pages)
placed-at p [] at l h n = absurd (omega (arith, l))
placed-at p (page ∷ pages) zero l h n = rw n refl
placed-at p (page ∷ pages) (suc at) l h n =
    let e : list_any (starts_below p) pages ≡ true = any-at (starts_below p) pages at [] (omega arith) (h (omega arith)) in
    rw e (ap (λ (z : List (List (Value × Rid))). page ∷ z) (placed-at p pages at (omega arith) (λ g. h (omega arith)) n))

-- neither part has it
pub any-parts : {A : Type 0} (t : A → Bool) (xs ys : List A) → list_any t (xs ++ ys) ≡ false → (list_any t xs ≡ false) × (list_any t ys ≡ false)
any-parts t [] ys a = (refl, a)
any-parts t (x ∷ xs) ys a = let b = either (t x) (list_any t (xs ++ ys)) a in let k = any-parts t xs ys b.1 in (rw b.0 k.0, k.1)

-- what is neither less nor the same is greater
pub greater : (p q : Value × Rid) → pair_lt q p ≡ false → pair_eq p q ≡ false → pair_lt p q ≡ true
greater p q e f = go (pair_lt p q) refl
  where
    go : (b : Bool) → pair_lt p q ≡ b → pair_lt p q ≡ true
    go true g = g
    go false g = let k : pair_eq p q ≡ true = subst (λ (z : Value × Rid). pair_eq p z ≡ true) (pair-total p q g e) (pair_same p) in cc

-- a list whose entries are all above a pair does not have it
pub above-lacks : (p : Value × Rid) (qs : List (Value × Rid)) → list_all (pair_lt p) qs ≡ true → has_pair qs p ≡ false
above-lacks p [] a = refl
above-lacks p (q ∷ qs) a =
    let b = both (pair_lt p q) (list_all (pair_lt p) qs) a in
    rw (differ (pair_eq p q) refl b.0) (above-lacks p qs b.1)
  where
    differ : (c : Bool) → pair_eq p q ≡ c → pair_lt p q ≡ true → pair_eq p q ≡ false
    differ false f g = f
    differ true f g =
        let z : pair_lt p p ≡ true = subst (λ (y : Value × Rid). pair_lt p y ≡ true) (sym (pair_is p q f)) g in
        let i : pair_lt p p ≡ false = pair-irrefl p in cc

-- the list has the pair where the first entry from it on is the pair
pub has-from : (p : Value × Rid) (ps : List (Value × Rid)) → IsOrdered ps
    → has_pair ps p ≡ option_map_or (pair_eq p) (find (passes (From p.0 p.1)) ps) false
has-from p [] o = refl
has-from p (q ∷ qs) o = go (has-from p qs o.1) (pair_lt q p) refl
  where
    go : has_pair qs p ≡ option_map_or (pair_eq p) (find (passes (From p.0 p.1)) qs) false → (b : Bool) → pair_lt q p ≡ b
        → has_pair (q ∷ qs) p ≡ option_map_or (pair_eq p) (find (passes (From p.0 p.1)) (q ∷ qs)) false
    go ih true e = rw (e, not-same q p e) ih
    go ih false e = rw e (same (pair_eq p q) refl)
      where
        same : (c : Bool) → pair_eq p q ≡ c → has_pair (q ∷ qs) p ≡ pair_eq p q
        same true g = rw g refl
        same false g = rw g (above-lacks p qs (all-weaken (pair_lt q) (pair_lt p) qs (λ x l. pair-trans p q x (greater p q e g) l) o.0))

-- a new pair stands at the split
pub with-at : (p : Value × Rid) (xs : List (Value × Rid)) (at : ℕ) → list_any (passes (From p.0 p.1)) (take at xs) ≡ false
    → list_all (passes (From p.0 p.1)) (drop at xs) ≡ true → has_pair xs p ≡ false → with_pair p xs ≡ take at xs ++ p ∷ drop at xs
with-at p [] zero b a n = refl
with-at p [] (suc at) b a n = refl
with-at p (x ∷ xs) zero b a n =
    let e : pair_lt x p ≡ false = turned (pair_lt x p) (both (not (pair_lt x p)) (list_all (passes (From p.0 p.1)) xs) a).0 in
    rw (greater p x e (either (pair_eq p x) (has_pair xs p) n).0) refl
with-at p (x ∷ xs) (suc at) b a n =
    let e = either (not (pair_lt x p)) (list_any (passes (From p.0 p.1)) (take at xs)) b in
    let l : pair_lt x p ≡ true = back (pair_lt x p) e.0 in
    rw (not-above x p l, not-same x p l) (ap (λ (z : List (Value × Rid)). x ∷ z) (with-at p xs at e.1 a (either (pair_eq p x) (has_pair xs p) n).1))
  where
    back : (c : Bool) → not c ≡ false → c ≡ true
    back true f = refl
    back false f = cc

pub set-split : {A : Type 0} (xs : List A) (at : ℕ) (y : A) → at < length xs → slice_set xs at y ≡ take at xs ++ (y ∷ drop (suc at) xs)
set-split [] at y l = absurd (omega (arith, l))
set-split (x ∷ xs) zero y l = refl
set-split {A} (x ∷ xs) (suc at) y l = ap (λ (z : List A). x ∷ z) (set-split xs at y (omega arith))

pub set-insert : {A : Type 0} (xs : List A) (at : ℕ) (y z : A) → at < length xs → slice_set (insert xs (suc at) z) at y ≡ take at xs ++ (y ∷ z ∷ drop (suc at) xs)
set-insert [] at y z l = absurd (omega (arith, l))
set-insert (x ∷ []) zero y z l = refl
set-insert (x ∷ w ∷ xs) zero y z l = refl
set-insert {A} (x ∷ xs) (suc at) y z l = ap (λ (u : List A). x ∷ u) (set-insert xs at y z (omega arith))

pub length-grown : {A : Type 0} (xs : List A) (k : ℕ) (y : A) → k ≤ length xs → length (take k xs ++ y ∷ drop k xs) ≡ suc (length xs)
length-grown [] zero y l = refl
length-grown [] (suc k) y l = absurd (omega (arith, l))
length-grown (x ∷ xs) zero y l = refl
length-grown (x ∷ xs) (suc k) y l = ap (λ (n : ℕ). suc n) (length-grown xs k y (omega arith))

pub parted-small : (page : List (Value × Rid)) → length page ≤ 128 → parted page ≡ page ∷ []
parted-small page l = let e : nat_lt 128 (length page) ≡ false = grind (arith, nat_tests, l) in rw e refl

pub parted-large : (page : List (Value × Rid)) → 128 < length page → parted page ≡ take 64 page ∷ drop 64 page ∷ []
parted-large page l = let e : nat_lt 128 (length page) ≡ true = grind (arith, nat_tests, l) in rw e refl

-- a page with room takes the entry
pub placed-small : (p : Value × Rid) (pages : List (List (Value × Rid))) (at place : ℕ) (page : List (Value × Rid)) → page ≡ get_or pages at [] → at < length pages
    → IsSplit (passes (From p.0 p.1)) page place → has_pair page p ≡ false → length page < 128
    → slice_set pages at (take place page ++ p ∷ drop place page) ≡ take at pages ++ (parted (with_pair p (get_or pages at [])) ++ drop (suc at) pages)
placed-small p pages at place page is l split n few =
    let whole = take place page ++ p ∷ drop place page in
    let w = split.within in
    let g : length whole ≡ suc (length page) = length-grown page place p w in
    let small : length whole ≤ 128 = subst (λ (k : ℕ). k ≤ 128) (sym g) (omega (arith, few)) in
    let e : parted (with_pair p (get_or pages at [])) ≡ whole ∷ [] =
    ap (λ (z : List (Value × Rid)). parted (with_pair p z)) (sym is) ∙ ap (λ (z : List (Value × Rid)). parted z) (with-at p page place split.before split.behind n) ∙ parted-small whole small in
    set-split pages at whole l ∙ ap (λ (z : List (List (Value × Rid))). take at pages ++ (z ++ drop (suc at) pages)) (sym e)

-- a full page is split
pub placed-large : (p : Value × Rid) (pages : List (List (Value × Rid))) (at place : ℕ) (page : List (Value × Rid)) → page ≡ get_or pages at [] → at < length pages
    → IsSplit (passes (From p.0 p.1)) page place → has_pair page p ≡ false → 128 ≤ length page
    → slice_set (insert pages (suc at) (drop 64 (take place page ++ p ∷ drop place page))) at (take 64 (take place page ++ p ∷ drop place page))
    ≡ take at pages ++ (parted (with_pair p (get_or pages at [])) ++ drop (suc at) pages)
placed-large p pages at place page is l split n many =
    let whole = take place page ++ p ∷ drop place page in
    let w = split.within in
    let g : length whole ≡ suc (length page) = length-grown page place p w in
    let large : 128 < length whole = subst (λ (k : ℕ). 128 < k) (sym g) (omega (arith, many)) in
    let e : parted (with_pair p (get_or pages at [])) ≡ take 64 whole ∷ drop 64 whole ∷ [] =
    ap (λ (z : List (Value × Rid)). parted (with_pair p z)) (sym is) ∙ ap (λ (z : List (Value × Rid)). parted z) (with-at p page place split.before split.behind n) ∙ parted-large whole large in
    set-insert pages at (take 64 whole) (drop 64 whole) l ∙ ap (λ (z : List (List (Value × Rid))). take at pages ++ (z ++ drop (suc at) pages)) (sym e)

-- what is below all entries of pages is below a pair above one page's least
one-below : (x p : Value × Rid) (pages : List (List (Value × Rid))) → list_all (pair_lt x) (entries pages) ≡ true → list_any (starts_below p) pages ≡ true → pair_lt x p ≡ true
one-below x p [] a s = cc
one-below x p ([] ∷ pages) a s = one-below x p pages a s
one-below x p ((q ∷ qs) ∷ pages) a s = go (one-below x p pages (all-parts (pair_lt x) (q ∷ qs) (entries pages) a).1) (pair_lt q p) refl
  where
    go : (list_any (starts_below p) pages ≡ true → pair_lt x p ≡ true) → (b : Bool) → pair_lt q p ≡ b → pair_lt x p ≡ true
    go ih true e = pair-trans x q p (both (pair_lt x q) (list_all (pair_lt x) (qs ++ entries pages)) a).0 e
    go ih false e = ih (rw e at s)

page-below : (p : Value × Rid) (page : List (Value × Rid)) (pages : List (List (Value × Rid))) → IsOrdered (page ++ entries pages) → list_any (starts_below p) pages ≡ true
    → list_all (λ x. pair_lt x p) page ≡ true
page-below p [] pages o s = refl
page-below p (x ∷ page) pages o s =
    rw (one-below x p pages (all-parts (pair_lt x) page (entries pages) o.0).1 s) (page-below p page pages o.1 s)

-- where no page starts below a new pair, all entries are above it
none-starts : (p : Value × Rid) (pages : List (List (Value × Rid))) → list_any (starts_below p) pages ≡ false → has_pair (entries pages) p ≡ false
    → IsOrdered (entries pages) → list_all is_page pages ≡ true → list_all (pair_lt p) (entries pages) ≡ true
none-starts p [] s n o z = refl
none-starts p ([] ∷ pages) s n o z = let f = page-filled [] (both (is_page []) (list_all is_page pages) z).0 in absurd (cc)
none-starts p ((q ∷ qs) ∷ pages) s n o z =
    let e : pair_lt q p ≡ false = (either (pair_lt q p) (list_any (starts_below p) pages) s).0 in
    let g = greater p q e (either (pair_eq p q) (has_pair (qs ++ entries pages) p) n).0 in
    rw g (all-weaken (pair_lt q) (pair_lt p) (qs ++ entries pages) (λ x l. pair-trans p q x g l) o.0)

append-assoc : {A : Type 0} (xs ys zs : List A) → (xs ++ ys) ++ zs ≡ xs ++ (ys ++ zs)
append-assoc [] ys zs = refl
append-assoc {A} (x ∷ xs) ys zs = ap (λ (l : List A). x ∷ l) (append-assoc xs ys zs)

-- a split page has its entries
entries-parted : (page : List (Value × Rid)) (pages : List (List (Value × Rid))) → entries (parted page ++ pages) ≡ page ++ entries pages
entries-parted page pages = go (nat_lt 128 (length page)) refl
  where
    go : (b : Bool) → nat_lt 128 (length page) ≡ b → entries (parted page ++ pages) ≡ page ++ entries pages
    go true e = rw e (sym (append-assoc (take 64 page) (drop 64 page) (entries pages)) ∙ ap (λ (l : List (Value × Rid)). l ++ entries pages) (take-append-drop 64 page))
    go false e = rw e refl

-- a new entry stands in its place among all
pub entries-placed : (p : Value × Rid) (pages : List (List (Value × Rid))) → IsOrdered (entries pages) → list_all is_page pages ≡ true
    → has_pair (entries pages) p ≡ false → entries (placed p pages) ≡ with_pair p (entries pages)
entries-placed p [] o s n = refl
entries-placed p (page ∷ pages) o s n =
    go (entries-placed p pages (ordered-parts page (entries pages) o).1 (both (is_page page) (list_all is_page pages) s).1 (any-parts (pair_eq p) page (entries pages) n).1)
    (list_any (starts_below p) pages) refl
  where
    go : entries (placed p pages) ≡ with_pair p (entries pages) → (b : Bool) → list_any (starts_below p) pages ≡ b
        → entries (placed p (page ∷ pages)) ≡ with_pair p (page ++ entries pages)
    go ih true e = rw e (ap (λ (l : List (Value × Rid)). page ++ l) ih ∙ sym (with-right p page (entries pages) (page-below p page pages o e)))
    go ih false e = rw e (entries-parted (with_pair p page) pages ∙ sym (with-left p page (entries pages)
        (none-starts p pages e (any-parts (pair_eq p) page (entries pages) n).1 (ordered-parts page (entries pages) o).1 (both (is_page page) (list_all is_page pages) s).1)))

-- any page of ordered pages is in order
pub ordered-any : (pages : List (List (Value × Rid))) (n : ℕ) → IsOrdered (entries pages) → IsOrdered (get_or pages n [])
ordered-any [] n o = tt
ordered-any (page ∷ pages) zero o = (ordered-parts page (entries pages) o).0
ordered-any (page ∷ pages) (suc n) o = ordered-any pages n (ordered-parts page (entries pages) o).1

-- what no page has, one page does not have
pub lacks-any : (p : Value × Rid) (pages : List (List (Value × Rid))) (n : ℕ) → has_pair (entries pages) p ≡ false → has_pair (get_or pages n []) p ≡ false
lacks-any p [] n h = refl
lacks-any p (page ∷ pages) zero h = (any-parts (pair_eq p) page (entries pages) h).0
lacks-any p (page ∷ pages) (suc n) h = lacks-any p pages n (any-parts (pair_eq p) page (entries pages) h).1

-- a page that begins behind a pair does not start below it
behind-not : (p : Value × Rid) (pages : List (List (Value × Rid))) → list_all (starts_behind (From p.0 p.1)) pages ≡ true → list_any (starts_below p) pages ≡ false
behind-not p [] a = refl
behind-not p ([] ∷ pages) a = cc
behind-not p ((q ∷ qs) ∷ pages) a =
    let b = both (not (pair_lt q p)) (list_all (starts_behind (From p.0 p.1)) pages) a in
    rw (turned (pair_lt q p) b.0) (behind-not p pages b.1)

-- a filled page that does not begin behind a pair starts below it
not-behind : (p : Value × Rid) (pages : List (List (Value × Rid))) (at : ℕ) → at < length pages → list_all is_page pages ≡ true
    → list_any (starts_behind (From p.0 p.1)) (take (suc at) pages) ≡ false → starts_below p (get_or pages at []) ≡ true
not-behind p [] at l s b = absurd (omega (arith, l))
not-behind p ([] ∷ pages) zero l s b = let f = page-filled [] (both (is_page []) (list_all is_page pages) s).0 in absurd (cc)
not-behind p ((q ∷ qs) ∷ pages) zero l s b = back (pair_lt q p) (either (not (pair_lt q p)) false b).0
  where
    back : (c : Bool) → not c ≡ false → c ≡ true
    back true f = refl
    back false f = cc
not-behind p (page ∷ pages) (suc at) l s b =
    not-behind p pages at (omega arith) (both (is_page page) (list_all is_page pages) s).1 (either (starts_behind (From p.0 p.1) page) (list_any (starts_behind (From p.0 p.1)) (take (suc at) pages)) b).1

tail-none : (p : Value × Rid) (pages : List (List (Value × Rid))) → list_any (starts_below p) pages ≡ false → list_any (starts_below p) (drop 1 pages) ≡ false
tail-none p [] a = refl
tail-none p (page ∷ pages) a = (either (starts_below p page) (list_any (starts_below p) pages) a).1

-- the page that takes the new entry, by the search
pub placed-by : (p : Value × Rid) (pages : List (List (Value × Rid))) (next at : ℕ) → at ≡ next - 1 → 0 < length pages → list_all is_page pages ≡ true
    → IsSplit (starts_behind (From p.0 p.1)) pages next → placed p pages ≡ take at pages ++ (parted (with_pair p (get_or pages at [])) ++ drop (suc at) pages)
placed-by p pages zero at e l s split =
    let z : at ≡ 0 = omega (arith, e) in
    let n = tail-none p pages (behind-not p pages split.behind) in
    rw z (placed-at p pages 0 l (λ g. absurd (omega (arith, g))) n)
placed-by p pages (suc next) at e l s split =
    let z : at ≡ next = omega (arith, e) in
    let w = split.within in
    rw z (placed-at p pages next (omega (arith, w)) (λ g. not-behind p pages next (omega (arith, w)) s split.before) (behind-not p (drop (suc next) pages) split.behind))

pub page-by : (page : List (Value × Rid)) → 0 < length page → length page ≤ 128 → is_page page ≡ true
page-by [] l h = absurd (omega (arith, l))
page-by (q ∷ qs) l h = let e : nat_lt (length (q ∷ qs)) 129 ≡ true = grind (arith, nat_tests, h) in e

pub page-short : (page : List (Value × Rid)) → is_page page ≡ true → length page ≤ 128
page-short page e = let f : nat_lt (length page) 129 ≡ true = (both (is_filled page) (nat_lt (length page) 129) e).1 in grind (arith, nat_tests, f)

length-with : (p : Value × Rid) (page : List (Value × Rid)) → (length (with_pair p page) ≤ suc (length page)) × (0 < length (with_pair p page))
length-with p [] = (omega arith, omega arith)
length-with p (x ∷ xs) = go (length-with p xs) (pair_lt p x) refl (pair_eq p x) refl
  where
    go : (length (with_pair p xs) ≤ suc (length xs)) × (0 < length (with_pair p xs)) → (b : Bool) → pair_lt p x ≡ b → (c : Bool) → pair_eq p x ≡ c
        → (length (with_pair p (x ∷ xs)) ≤ suc (length (x ∷ xs))) × (0 < length (with_pair p (x ∷ xs)))
    go ih true e c f = rw e (omega arith, omega arith)
    go ih false e true f = rw (e, f) (omega arith, omega arith)
    go ih false e false f = let a = ih.0 in rw (e, f) (omega (arith, a), omega arith)

sized-parted : (page : List (Value × Rid)) (pages : List (List (Value × Rid))) → 0 < length page → length page ≤ 129 → list_all is_page pages ≡ true
    → list_all is_page (parted page ++ pages) ≡ true
sized-parted page pages l h s = go (nat_lt 128 (length page)) refl
  where
    go : (b : Bool) → nat_lt 128 (length page) ≡ b → list_all is_page (parted page ++ pages) ≡ true
    go false e = let k : length page ≤ 128 = grind (arith, nat_tests, e) in rw (e, page-by page l k) s
    go true e =
        let k : 128 < length page = grind (arith, nat_tests, e) in
        let t : length (take 64 page) ≡ 64 = length-take-le 64 page (omega (arith, k)) in
        let d : length (drop 64 page) ≡ length page - 64 = length-drop page 64 in
        let one : is_page (take 64 page) ≡ true = page-by (take 64 page) (omega (arith, t)) (omega (arith, t)) in
        let two : is_page (drop 64 page) ≡ true = page-by (drop 64 page) (omega (arith, d, k)) (omega (arith, d, h)) in
        rw e (rw (one, two) s)

-- pages stay pages
pub sized-placed : (p : Value × Rid) (pages : List (List (Value × Rid))) → list_all is_page pages ≡ true → list_all is_page (placed p pages) ≡ true
sized-placed p [] s = refl
sized-placed p (page ∷ pages) s = go (both (is_page page) (list_all is_page pages) s) (sized-placed p pages (both (is_page page) (list_all is_page pages) s).1) (list_any (starts_below p) pages) refl
  where
    go : (is_page page ≡ true) × (list_all is_page pages ≡ true) → list_all is_page (placed p pages) ≡ true → (b : Bool) → list_any (starts_below p) pages ≡ b
        → list_all is_page (placed p (page ∷ pages)) ≡ true
    go k ih true e = rw (e, k.0) ih
    go k ih false e =
        let w = length-with p page in let w0 = w.0 in let g = page-short page k.0 in
        rw e (sized-parted (with_pair p page) pages w.1 (omega (arith, w0, g)) k.1)

pub paged-placed : (p : Value × Rid) (pages : List (List (Value × Rid))) → IsPaged pages → has_pair (entries pages) p ≡ false → IsPaged (placed p pages)
paged-placed p pages i n = record {
  ordered = subst IsOrdered (sym (entries-placed p pages i.ordered i.sized n)) (ordered-with p (entries pages) i.ordered);
  sized = sized-placed p pages i.sized;
}
