-- Entries and pages rise: behind one that stands behind the cut, all do.
use Rattle.std.proofs.Common.{◌≡◌, Bool, true, false, not, List, [], ◌∷◌, ◌++◌, refl}
use Rattle.std.specs.List.{list_all}
use Rattle.iso_key.proofs.Truths.{both, opposite, turned}
use Rattle.iso_key.proofs.Pairs.{lt-key, pair-trans}
use Rattle.iso_key.proofs.Values.{ge-trans, lt-ge}
use Rattle.iso_key.specs.Cuts.{passes, starts_behind}
use Rattle.iso_key.specs.declared.cut.Cut.{Cut}
use Rattle.iso_key.specs.declared.cut.Cut.TheVariants.{After, AfterKey, First, From, FromKey}
use Rattle.iso_key.specs.Entries.{IsOrdered}
use Rattle.iso_key.specs.Pages.{entries, is_filled, is_page}
use Rattle.iso_key.specs.Splits.{IsRising}
use Rattle.iso_types.specs.Ids.{pair_lt}
use Rattle.iso_types.specs.Value.{value_lt}
use Rattle.iso_types.specs.declared.value.Rid.{Rid}
use Rattle.iso_types.specs.declared.value.Value.{Value}

-- what is above an entry behind the cut is behind it
pub pass-up : (cut : Cut) (p q : Value × Rid) → pair_lt p q ≡ true → passes cut p ≡ true → passes cut q ≡ true
pass-up First p q e f = refl
pass-up (FromKey v) p q e f = opposite (value_lt q.0 v) (ge-trans q.0 p.0 v (lt-key p q e) (turned (value_lt p.0 v) f))
pass-up (AfterKey v) p q e f = lt-ge v p.0 q.0 f (lt-key p q e)
pass-up (From v r) p q e f = go (pair_lt q (v, r)) refl
  where
    go : (b : Bool) → pair_lt q (v, r) ≡ b → not (pair_lt q (v, r)) ≡ true
    go false g = rw g refl
    go true g =
        let x : pair_lt p (v, r) ≡ true = pair-trans p q (v, r) e g in
        let y : pair_lt p (v, r) ≡ false = turned (pair_lt p (v, r)) f in absurd (cc)
pass-up (After v r) p q e f = pair-trans (v, r) p q f e

-- what passes one test passes another
pub all-weaken : {A : Type 0} (s t : A → Bool) (xs : List A) → ((x : A) → s x ≡ true → t x ≡ true) → list_all s xs ≡ true → list_all t xs ≡ true
all-weaken s t [] f a = refl
all-weaken s t (x ∷ xs) f a = let b = both (s x) (list_all s xs) a in rw (f x b.0) (all-weaken s t xs f b.1)

-- all of two lists
pub all-parts : {A : Type 0} (t : A → Bool) (xs ys : List A) → list_all t (xs ++ ys) ≡ true → (list_all t xs ≡ true) × (list_all t ys ≡ true)
all-parts t [] ys a = (refl, a)
all-parts t (x ∷ xs) ys a = let b = both (t x) (list_all t (xs ++ ys)) a in let k = all-parts t xs ys b.1 in (rw b.0 k.0, k.1)

-- each part of an ordered list is in order
pub ordered-parts : (xs ys : List (Value × Rid)) → IsOrdered (xs ++ ys) → IsOrdered xs × IsOrdered ys
ordered-parts [] ys o = (tt, o)
ordered-parts (x ∷ xs) ys o = let k = ordered-parts xs ys o.1 in (((all-parts (pair_lt x) xs ys o.0).0, k.0), k.1)

-- entries in order rise
pub rising-entries : (cut : Cut) (xs : List (Value × Rid)) → IsOrdered xs → IsRising (passes cut) xs
rising-entries cut [] o = tt
rising-entries cut (x ∷ xs) o = (λ e. all-weaken (pair_lt x) (passes cut) xs (λ y l. pass-up cut x y l e) o.0, rising-entries cut xs o.1)

-- a page is not empty
pub page-filled : (page : List (Value × Rid)) → is_page page ≡ true → is_filled page ≡ true
page-filled [] e = cc
page-filled (p ∷ ps) e = refl

-- where all entries stand behind the cut, each page does
pub pages-behind : (cut : Cut) (pages : List (List (Value × Rid))) → list_all is_page pages ≡ true → list_all (passes cut) (entries pages) ≡ true
    → list_all (starts_behind cut) pages ≡ true
pages-behind cut [] s a = refl
pages-behind cut ([] ∷ pages) s a = let f = page-filled [] (both (is_page []) (list_all is_page pages) s).0 in absurd (cc)
pages-behind cut ((p ∷ ps) ∷ pages) s a =
    let b = both (is_page (p ∷ ps)) (list_all is_page pages) s in
    let c = all-parts (passes cut) (p ∷ ps) (entries pages) a in
    rw (both (passes cut p) (list_all (passes cut) ps) c.0).0 (pages-behind cut pages b.1 c.1)

-- pages in order rise
pub rising-pages : (cut : Cut) (pages : List (List (Value × Rid))) → IsOrdered (entries pages) → list_all is_page pages ≡ true → IsRising (starts_behind cut) pages
rising-pages cut [] o s = tt
rising-pages cut ([] ∷ pages) o s = let f = page-filled [] (both (is_page []) (list_all is_page pages) s).0 in absurd (cc)
rising-pages cut ((p ∷ ps) ∷ pages) o s =
    let b = both (is_page (p ∷ ps)) (list_all is_page pages) s in
    let above = (all-parts (pair_lt p) ps (entries pages) o.0).1 in (
      λ e. pages-behind cut pages b.1 (all-weaken (pair_lt p) (passes cut) (entries pages) (λ y l. pass-up cut p y l e) above),
      rising-pages cut pages (ordered-parts (p ∷ ps) (entries pages) o).1 b.1,
    )
