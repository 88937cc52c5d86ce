-- Names that pass a test, out of names that are apart; and the sum of the counts of places.
use Rattle.std.proofs.Common.{ℕ, zero, suc, ◌≡◌, ◌<◌, ◌≤◌, ◌+◌, Bool, true, false, not, ◌&&◌, ◌||◌, List, [], ◌∷◌, map, filter, refl, ap, sym, subst, ◌∙◌, true≢false, arith}
use Rattle.std.specs.List.{AllByRecursion, IsDistinct, list_any}
use Rattle.iso_locklist.specs.Places.{are_apart, taken, taken_below}
use Rattle.iso_locklist.specs.Places.{Place}
use Rattle.iso_lines.proofs.Same.{turned}
use Rattle.iso_lines.proofs.Same.{name_is}
use Rattle.iso_lines.proofs.Names.{name_same}
use Rattle.iso_locklist.proofs.Settles.{gone, kept}
use Rattle.iso_queue.specs.Lines.{Line}
use Rattle.iso_types.specs.Ids.{name_eq}
use Rattle.iso_types.specs.declared.value.Name.{Name}

-- the name is one of these
abbrev pub is_one : List Name → Name → Bool
is_one ns k = list_any (λ m. name_eq m k) ns

-- a place for each of them, with its line
abbrev pub placed : (Name → Line) → List Name → List Place
placed line ns = map (λ n. record { name = n; queue = line n }) ns

or_none : (a b : Bool) → (a || b) ≡ false → (a ≡ false) × (b ≡ false)
or_none true b e = absurd (true≢false e)
or_none false b e = (refl, e)

and_parts : (a b : Bool) → (a && b) ≡ true → (a ≡ true) × (b ≡ true)
and_parts true b e = (refl, e)
and_parts false b e = absurd (true≢false (sym e))

from_not : (b : Bool) → not b ≡ true → b ≡ false
from_not true e = sym e
from_not false e = refl

-- a name unlike all others is unlike those that are left
unlike_left : (p : Name → Bool) (n : Name) (ns : List Name) → is_one ns n ≡ false → AllByRecursion (λ y. name_eq n y ≡ false) (filter p ns)
unlike_left p n [] h = tt
unlike_left p n (m ∷ ns) h = by (p m) refl (unlike_left p n ns (or_none (name_eq m n) (is_one ns n) h).1)
  where
    by : (b : Bool) → p m ≡ b → AllByRecursion (λ y. name_eq n y ≡ false) (filter p ns) → AllByRecursion (λ y. name_eq n y ≡ false) (filter p (m ∷ ns))
    by true e rest = subst (AllByRecursion (λ y. name_eq n y ≡ false)) (sym (kept p m ns e)) (turned m n (or_none (name_eq m n) (is_one ns n) h).0, rest)
    by false e rest = subst (AllByRecursion (λ y. name_eq n y ≡ false)) (sym (gone p m ns e)) rest

distinct_by : (p : Name → Bool) (n : Name) (ns : List Name) (b : Bool) → p n ≡ b → is_one ns n ≡ false → IsDistinct name_eq (filter p ns) → IsDistinct name_eq (filter p (n ∷ ns))
unfolding IsDistinct
distinct_by p n ns true e h ih = subst (IsDistinct name_eq) (sym (kept p n ns e)) (unlike_left p n ns h, ih)
distinct_by p n ns false e h ih = subst (IsDistinct name_eq) (sym (gone p n ns e)) ih

distinct_none : IsDistinct name_eq []
unfolding IsDistinct
distinct_none = tt

pub distinct_left : (p : Name → Bool) (ns : List Name) → are_apart ns ≡ true → IsDistinct name_eq (filter p ns)
distinct_left p [] e = distinct_none
distinct_left p (n ∷ ns) e =
    let q = and_parts (not (is_one ns n)) (are_apart ns) e in
    distinct_by p n ns (p n) refl (from_not (is_one ns n) q.0) (distinct_left p ns q.1)

left_by : (p : Name → Bool) (k n : Name) (ns : List Name) (a b : Bool) → name_eq n k ≡ a → p n ≡ b
    → list_any (name_eq k) (filter p ns) ≡ (is_one ns k && p k) → list_any (name_eq k) (filter p (n ∷ ns)) ≡ (is_one (n ∷ ns) k && p k)
left_by p k n ns true true e f ih =
    let same : p k ≡ true = ap p (sym (name_is n k e)) ∙ f in
    let here : name_eq k n ≡ true = subst (λ (m : Name). name_eq k m ≡ true) (sym (name_is n k e)) (name_same k) in
    ap (list_any (name_eq k)) (kept p n ns f) ∙ ap (λ (b : Bool). b || list_any (name_eq k) (filter p ns)) here
    ∙ sym (λ j. (e j || is_one ns k) && same j)
left_by p k n ns true false e f ih =
    let same : p k ≡ false = ap p (sym (name_is n k e)) ∙ f in
    ap (list_any (name_eq k)) (gone p n ns f) ∙ ih ∙ ap (λ (b : Bool). is_one ns k && b) same ∙ and_false (is_one ns k)
    ∙ sym (ap (λ (b : Bool). (name_eq n k || is_one ns k) && b) same ∙ and_false (name_eq n k || is_one ns k))
  where
    and_false : (b : Bool) → (b && false) ≡ false
    and_false true = refl
    and_false false = refl
left_by p k n ns false true e f ih =
    ap (list_any (name_eq k)) (kept p n ns f) ∙ ap (λ (b : Bool). b || list_any (name_eq k) (filter p ns)) (turned n k e) ∙ ih
    ∙ sym (ap (λ (b : Bool). (b || is_one ns k) && p k) e)
left_by p k n ns false false e f ih = ap (list_any (name_eq k)) (gone p n ns f) ∙ ih ∙ sym (ap (λ (b : Bool). (b || is_one ns k) && p k) e)

pub one_left : (p : Name → Bool) (k : Name) (ns : List Name) → list_any (name_eq k) (filter p ns) ≡ (is_one ns k && p k)
one_left p k [] = refl
one_left p k (n ∷ ns) = left_by p k n ns (name_eq n k) (p n) refl refl (one_left p k ns)

-- the sum of such counts is that of all places
pub counted_below : (ps : List Place) (f : ℕ → ℕ) (below : ℕ → ℕ) → below 0 ≡ 0 → ((k : ℕ) → below (suc k) ≡ below k + f k) → (m : ℕ) → ((c : ℕ) → c < m → f c ≡ taken ps (record { 0 = c }))
    → (k : ℕ) → k ≤ m → below k ≡ taken_below ps k
counted_below ps f below none more m each zero le = none
counted_below ps f below none more m each (suc k) le =
    more k ∙ ap (λ (i : ℕ). i + f k) (counted_below ps f below none more m each k (omega (arith, le))) ∙ ap (λ (i : ℕ). taken_below ps k + i) (each k (omega (arith, le)))
