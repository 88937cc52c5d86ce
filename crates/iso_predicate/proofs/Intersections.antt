-- What two ranges have in common is their intersection.
use Rattle.std.proofs.Common.{◌≡◌, Bool, true, false, refl, ap, ◌∙◌}
use Rattle.std.specs.Ordering.{is_gt, is_lt, ordering_reverse}
use Rattle.std.specs.Prelude.{not, ◌||◌, ◌&&◌, Some, None, Option, if◌then◌else◌}
use Rattle.std.specs.declared.cmp.Ordering.{Ordering}
use Rattle.std.specs.declared.cmp.Ordering.TheVariants.{Equal, Greater, Less}
use Rattle.iso_predicate.proofs.Bounded.{both_hold, both_true, common_hold}
use Rattle.iso_predicate.proofs.Fitting.{and_first, and_second}
use Rattle.iso_predicate.proofs.Orders.{above_lesser, below_greater, value_reverse, value_same}
use Rattle.iso_predicate.specs.Bounded.{IsIntersection, high_holds, is_known, low_holds, range_holds}
use Rattle.iso_predicate.specs.Plan.{common, greater_by, lesser_by, tighter_high, tighter_low}
use Rattle.iso_predicate.specs.Truth.{compared, holds, known}
use Rattle.iso_predicate.specs.declared.conditions.Truth.TheVariants.{True, Unknown}
use Rattle.iso_sql.specs.declared.statement.Op.{Op}
use Rattle.iso_sql.specs.declared.statement.Op.TheVariants.{Ge, Gt, Le, Lt}
use Rattle.iso_types.specs.Head.{is_null}
use Rattle.iso_types.specs.Value.{value_cmp}
use Rattle.iso_types.specs.declared.head.Edge.{Edge}
use Rattle.iso_types.specs.declared.head.Range.{Range}
use Rattle.iso_types.specs.declared.value.Value.{Value}

-- what a comparison that holds says: the value is no NULL, and compares so
truth_facts : (a b h : Bool) → (if a || b then Unknown else known h) ≡ True → (a ≡ false) × (h ≡ true)
truth_facts true b h e = absurd (cc)
truth_facts false true h e = absurd (cc)
truth_facts false false true e = (refl, refl)
truth_facts false false false e = absurd (cc)

compared_by : (op : Op) (v x : Value) (o : Ordering) → is_null v ≡ false → is_null x ≡ false → value_cmp v x ≡ o → holds op o ≡ true → compared op v x ≡ True
compared_by op v x o p q e h = rw (p, q, e, h) refl

-- a low bound, inclusive or not, is not above the value
not_below : (j : Bool) (v x : Value) → compared (if j then Ge else Gt) v x ≡ True → (is_null v ≡ false) × (is_lt (value_cmp v x) ≡ false)
not_below j v x e =
    let f = truth_facts (is_null v) (is_null x) (holds (if j then Ge else Gt) (value_cmp v x)) e in (f.0, go j (value_cmp v x) f.1)
  where
    go : (i : Bool) (o : Ordering) → holds (if i then Ge else Gt) o ≡ true → is_lt o ≡ false
    go true Less h = absurd (cc)
    go true Equal h = refl
    go true Greater h = refl
    go false Less h = absurd (cc)
    go false Equal h = refl
    go false Greater h = refl

-- a high bound, inclusive or not, is not below the value
not_above : (j : Bool) (v x : Value) → compared (if j then Le else Lt) v x ≡ True → (is_null v ≡ false) × (is_gt (value_cmp v x) ≡ false)
not_above j v x e =
    let f = truth_facts (is_null v) (is_null x) (holds (if j then Le else Lt) (value_cmp v x)) e in (f.0, go j (value_cmp v x) f.1)
  where
    go : (i : Bool) (o : Ordering) → holds (if i then Le else Lt) o ≡ true → is_gt o ≡ false
    go true Less h = refl
    go true Equal h = refl
    go true Greater h = absurd (cc)
    go false Less h = refl
    go false Equal h = refl
    go false Greater h = absurd (cc)

-- a value that meets a low bound meets each lower one
lower_holds : (i j : Bool) (v x y : Value) → value_cmp x y ≡ Less → is_null x ≡ false
    → compared (if j then Ge else Gt) v y ≡ True → compared (if i then Ge else Gt) v x ≡ True
lower_holds i j v x y less there e =
    let f = not_below j v y e in go i (above_lesser x y v less f.1) f.0
  where
    go : (b : Bool) → value_cmp v x ≡ Greater → is_null v ≡ false → compared (if b then Ge else Gt) v x ≡ True
    go true o p = compared_by Ge v x Greater p there o refl
    go false o p = compared_by Gt v x Greater p there o refl

-- a value that meets a high bound meets each higher one
higher_holds : (i j : Bool) (v x y : Value) → value_cmp x y ≡ Less → is_null y ≡ false
    → compared (if j then Le else Lt) v x ≡ True → compared (if i then Le else Lt) v y ≡ True
higher_holds i j v x y less there e =
    let f = not_above j v x e in go i (below_greater x y v less f.1) f.0
  where
    go : (b : Bool) → value_cmp v y ≡ Less → is_null v ≡ false → compared (if b then Le else Lt) v y ≡ True
    go true o p = compared_by Le v y Less p there o refl
    go false o p = compared_by Lt v y Less p there o refl

-- an exclusive bound that holds holds as an inclusive one
loose : (from past : Op) (v x : Value) → ((o : Ordering) → holds past o ≡ true → holds from o ≡ true)
    → compared past v x ≡ True → compared from v x ≡ True
loose from past v x weaker e = go (is_null v || is_null x) (weaker (value_cmp v x)) e
  where
    go : (b : Bool) → (holds past (value_cmp v x) ≡ true → holds from (value_cmp v x) ≡ true)
        → (if b then Unknown else known (holds past (value_cmp v x))) ≡ True → (if b then Unknown else known (holds from (value_cmp v x))) ≡ True
    go true w q = absurd (cc)
    go false w q = rw (w (truth_facts false false (holds past (value_cmp v x)) q).1) refl

low_weaker : (o : Ordering) → holds Gt o ≡ true → holds Ge o ≡ true
low_weaker Less h = absurd (cc)
low_weaker Equal h = refl
low_weaker Greater h = refl

high_weaker : (o : Ordering) → holds Lt o ≡ true → holds Le o ≡ true
high_weaker Less h = refl
high_weaker Equal h = refl
high_weaker Greater h = absurd (cc)

-- where the stricter of two bounds at one value holds, both do
strict_splits : (from past : Op) (i j : Bool) (v x y : Value) → x ≡ y → ((o : Ordering) → holds past o ≡ true → holds from o ≡ true)
    → compared (if i && j then from else past) v x ≡ True
    → (compared (if i then from else past) v x ≡ True) × (compared (if j then from else past) v y ≡ True)
strict_splits from past true true v x y same weaker e = (e, rw (← same) e)
strict_splits from past true false v x y same weaker e = (loose from past v x weaker e, rw (← same) e)
strict_splits from past false true v x y same weaker e = (e, rw (← same) (loose from past v x weaker e))
strict_splits from past false false v x y same weaker e = (e, rw (← same) e)

not_true : (b : Bool) → not b ≡ true → b ≡ false
not_true true e = absurd (cc)
not_true false e = refl

low_splits : (a b : Option Edge) (v : Value) → is_known a ≡ true → is_known b ≡ true
    → low_holds (tighter_low a b) v ≡ True → (low_holds a v ≡ True) × (low_holds b v ≡ True)
low_splits None b v p q e = (refl, e)
low_splits (Some a) None v p q e = (e, refl)
low_splits (Some a) (Some b) v p q e = go (value_cmp a.value b.value) refl e
  where
    go : (o : Ordering) → value_cmp a.value b.value ≡ o → low_holds (Some (greater_by o a b)) v ≡ True
        → (low_holds (Some a) v ≡ True) × (low_holds (Some b) v ≡ True)
    go Less o f = (lower_holds a.inclusive b.inclusive v a.value b.value o (not_true (is_null a.value) p) f, f)
    go Greater o f =
        (f, lower_holds b.inclusive a.inclusive v b.value a.value (value_reverse b.value a.value ∙ ap ordering_reverse o) (not_true (is_null b.value) q) f)
    go Equal o f = strict_splits Ge Gt a.inclusive b.inclusive v a.value b.value (value_same a.value b.value o) low_weaker f

high_splits : (a b : Option Edge) (v : Value) → is_known a ≡ true → is_known b ≡ true
    → high_holds (tighter_high a b) v ≡ True → (high_holds a v ≡ True) × (high_holds b v ≡ True)
high_splits None b v p q e = (refl, e)
high_splits (Some a) None v p q e = (e, refl)
high_splits (Some a) (Some b) v p q e = go (value_cmp a.value b.value) refl e
  where
    go : (o : Ordering) → value_cmp a.value b.value ≡ o → high_holds (Some (lesser_by o a b)) v ≡ True
        → (high_holds (Some a) v ≡ True) × (high_holds (Some b) v ≡ True)
    go Less o f = (f, higher_holds b.inclusive a.inclusive v a.value b.value o (not_true (is_null b.value) q) f)
    go Greater o f =
        (higher_holds a.inclusive b.inclusive v b.value a.value (value_reverse b.value a.value ∙ ap ordering_reverse o) (not_true (is_null a.value) p) f, f)
    go Equal o f = strict_splits Le Lt a.inclusive b.inclusive v a.value b.value (value_same a.value b.value o) high_weaker f

pub is_intersection : (a b : Range) (v : Value) → IsIntersection a b v
is_intersection a b v p q = (split, λ both. common_hold (Some a) (Some b) v both.0 both.1)
  where
    split : range_holds (common a b) v ≡ True → (range_holds a v ≡ True) × (range_holds b v ≡ True)
    split e =
        let parts = both_true (low_holds (tighter_low a.low b.low) v) (high_holds (tighter_high a.high b.high) v) e in
        let low = low_splits a.low b.low v (and_first (is_known a.low) (is_known a.high) p) (and_first (is_known b.low) (is_known b.high) q) parts.0 in
        let high = high_splits a.high b.high v (and_second (is_known a.low) (is_known a.high) p) (and_second (is_known b.low) (is_known b.high) q) parts.1 in
        (both_hold (low_holds a.low v) (high_holds a.high v) low.0 high.0, both_hold (low_holds b.low v) (high_holds b.high v) low.1 high.1)
