-- The order of a snapshot's names is a total order.
use Rattle.std.proofs.Common.{Bor, ◌≡◌, ◌∙◌, ℕ, ℤ, Bool, true, false, ◌&&◌, ◌||◌, List, [], ◌∷◌, refl, ap, sym, arith}
use Rattle.std.specs.Cmp.{IsTotalOrder, IsStrictWeakOrder}
use Rattle.std.specs.Cmp.Lexicographic.{pointwise, slice_cmp}
use Rattle.std.specs.Ordering.{int_cmp, int_eq, is_lt, nat_cmp, on, ordering_reverse, ordering_then, then_cmp}
use Rattle.std.specs.Prelude.{nat_eq, nat_lt, nat_le, ◌==◌, cond}
use Rattle.std.specs.declared.cmp.Ordering.{Ordering}
use Rattle.std.specs.declared.cmp.Ordering.TheVariants.{Equal, Greater, Less}
use Rattle.std.proofs.lemmas.Bool.Decides.{Decides-int_eq, nat_tests}
use Rattle.std.proofs.lemmas.Cmp.{int_cmp_total, int_ranked, nat_cmp_total, nat_list_cmp_total, on_total, then_total}
use Rattle.std.proofs.lemmas.List.Sorted.{ranks_by}
use Rattle.iso_queue.specs.Snapshots.{name_lt, stands_before, table_number}
use Rattle.iso_types.specs.Ids.{name_eq}
use Rattle.iso_types.specs.Value.{value_cmp, value_eq, value_lt}
use Rattle.iso_types.specs.declared.head.Head.{Head}
use Rattle.iso_types.specs.declared.value.Name.{Name}
use Rattle.iso_types.specs.declared.value.Name.TheVariants.{End, Key, Row, Table}
use Rattle.iso_types.specs.declared.value.Value.{Value}
use Rattle.iso_types.specs.declared.value.Value.TheVariants.{Int, Null, Text}

value_antisymm : (v w : Value) → value_cmp v w ≡ ordering_reverse (value_cmp w v)
unfolding value_cmp
value_antisymm Null Null = refl
value_antisymm Null (Int n) = refl
value_antisymm Null (Text t) = refl
value_antisymm (Int m) Null = refl
value_antisymm (Int m) (Int n) = int_cmp_total.antisymm m n
value_antisymm (Int m) (Text t) = refl
value_antisymm (Text s) Null = refl
value_antisymm (Text s) (Int n) = refl
value_antisymm (Text s) (Text t) = nat_list_cmp_total.antisymm s t

value_trans : (u v w : Value) → value_cmp u v ≡ Less → value_cmp v w ≡ Less → value_cmp u w ≡ Less
unfolding value_cmp
value_trans Null v (Int n) e f = refl
value_trans Null v (Text t) e f = refl
value_trans (Int m) v (Text t) e f = refl
value_trans (Int m) (Int n) (Int o) e f = int_cmp_total.trans m n o e f
value_trans (Text s) (Text t) (Text r) e f = nat_list_cmp_total.trans s t r e f
value_trans u Null Null e f = cc
value_trans Null (Int n) Null e f = cc
value_trans Null (Text t) Null e f = cc
value_trans (Int m) Null w e f = cc
value_trans (Int m) (Int n) Null e f = cc
value_trans (Int m) (Text t) Null e f = cc
value_trans (Int m) (Text t) (Int o) e f = cc
value_trans (Text s) Null w e f = cc
value_trans (Text s) (Int n) w e f = cc
value_trans (Text s) (Text t) Null e f = cc
value_trans (Text s) (Text t) (Int o) e f = cc

value_congr : (u v w : Value) → value_cmp u v ≡ Equal → value_cmp u w ≡ value_cmp v w
unfolding value_cmp
value_congr Null Null w e = refl
value_congr (Int m) (Int n) Null e = refl
value_congr (Int m) (Int n) (Int o) e = int_cmp_total.congr m n o e
value_congr (Int m) (Int n) (Text t) e = refl
value_congr (Text s) (Text t) Null e = refl
value_congr (Text s) (Text t) (Int o) e = refl
value_congr (Text s) (Text t) (Text r) e = nat_list_cmp_total.congr s t r e
value_congr Null (Int n) w e = cc
value_congr Null (Text t) w e = cc
value_congr (Int m) Null w e = cc
value_congr (Int m) (Text t) w e = cc
value_congr (Text s) Null w e = cc
value_congr (Text s) (Int n) w e = cc

value_total : IsTotalOrder value_cmp
value_total = record { antisymm = value_antisymm; trans = value_trans; congr = value_congr }

-- what a name is told apart by: its kind, its number, whether it is an END, and its key
abbrev pub kind : Name → ℕ
kind (Table t) = 0
kind (Row t r) = 1
kind (Key i v) = 2
kind (End i) = 2

abbrev pub number : Name → ℕ
number (Table t) = 0
number (Row t r) = r.0
number (Key i v) = i.0
number (End i) = i.0

abbrev pub ending : Name → ℕ
ending (End i) = 1
ending _ = 0

abbrev pub key : Name → Value
key (Key i v) = v
key _ = Null

-- the order in one table
abbrev pub table_cmp : Name → Name → Ordering
table_cmp = then_cmp (on kind nat_cmp) (then_cmp (on number nat_cmp) (then_cmp (on ending nat_cmp) (on key value_cmp)))

-- the order of all names
abbrev pub name_cmp : Head → Name → Name → Ordering
name_cmp head = then_cmp (on (table_number head) nat_cmp) table_cmp

pub name_total : (head : Head) → IsTotalOrder (name_cmp head)
name_total head =
    then_total (on_total (table_number head) nat_cmp_total)
    (then_total (on_total kind nat_cmp_total) (then_total (on_total number nat_cmp_total) (then_total (on_total ending nat_cmp_total) (on_total key value_total))))

least : (l e : Bool) (o : Ordering) → is_lt (ordering_then (cond l Less (cond e Equal Greater)) o) ≡ (l || (e && is_lt o))
least true e o = refl
least false true o = refl
least false false o = refl

-- to be less is to be less first, or the same and less then
less_then : (a b : ℕ) (o : Ordering) → is_lt (ordering_then (nat_cmp a b) o) ≡ (nat_lt a b || ((a == b) && is_lt o))
less_then a b o = least (nat_lt a b) (a == b) o

never : (l e : Bool) → (l || (e && false)) ≡ l
never true e = refl
never false true = refl
never false false = refl

at_most_by : (a b : ℕ) (l e : Bool) → nat_lt a b ≡ l → (a == b) ≡ e → (l || (e && true)) ≡ nat_le a b
at_most_by a b true e f g = grind (arith, nat_tests)
at_most_by a b false true f g = grind (arith, nat_tests)
at_most_by a b false false f g = grind (arith, nat_tests)

at_most : (a b : ℕ) → (nat_lt a b || ((a == b) && true)) ≡ nat_le a b
at_most a b = at_most_by a b (nat_lt a b) (a == b) refl refl

in_table : (n m : Name) → is_lt (table_cmp n m) ≡ stands_before n m
unfolding stands_before value_lt value_cmp
in_table (Table t) (Table u) = refl
in_table (Table t) (Row u s) = refl
in_table (Table t) (Key j w) = refl
in_table (Table t) (End j) = refl
in_table (Row t r) (Table u) = refl
in_table (Row t r) (Row u s) = less_then r.0 s.0 Equal ∙ never (nat_lt r.0 s.0) (r.0 == s.0)
in_table (Row t r) (Key j w) = refl
in_table (Row t r) (End j) = refl
in_table (Key i v) (Table u) = refl
in_table (Key i v) (Row u s) = refl
in_table (Key i v) (Key j w) = less_then i.0 j.0 (value_cmp v w)
in_table (Key i v) (End j) = less_then i.0 j.0 Less ∙ at_most i.0 j.0
in_table (End i) (Table u) = refl
in_table (End i) (Row u s) = refl
in_table (End i) (Key j w) = less_then i.0 j.0 Greater ∙ never (nat_lt i.0 j.0) (i.0 == j.0)
in_table (End i) (End j) = less_then i.0 j.0 Equal ∙ never (nat_lt i.0 j.0) (i.0 == j.0)

-- the test is that order's
pub lt_is : (head : Head) (n m : Name) → is_lt (name_cmp head n m) ≡ name_lt head n m
lt_is head n m =
    less_then (table_number head n) (table_number head m) (table_cmp n m)
    ∙ ap (λ (b : Bool). nat_lt (table_number head n) (table_number head m) || ((table_number head n == table_number head m) && b)) (in_table n m)

pub name_weak : (head : Head) → IsStrictWeakOrder (λ (p q : Bor Name). name_lt head p.now q.now)
name_weak head =
    let o = ranks_by (name_total head) (λ (p : Bor Name). p.now) in
    record {
      one_way = λ p q e. sym (lt_is head q.now p.now) ∙ o.one_way p q (lt_is head p.now q.now ∙ e);
      chain = λ p q r e f. sym (lt_is head p.now r.now)
          ∙ o.chain p q r (lt_is head p.now q.now ∙ e) (lt_is head q.now r.now ∙ f);
    }

then_equal : (o p : Ordering) → ordering_then o p ≡ Equal → (o ≡ Equal) × (p ≡ Equal)
then_equal Less p e = cc
then_equal Equal p e = (refl, e)
then_equal Greater p e = cc

same_number_by : (l e : Bool) → cond l Less (cond e Equal Greater) ≡ Equal → e ≡ true
same_number_by true e f = cc
same_number_by false true f = refl
same_number_by false false f = cc

same_number : (a b : ℕ) → nat_cmp a b ≡ Equal → (a == b) ≡ true
same_number a b e = same_number_by (nat_lt a b) (a == b) e

both_true : (a b : Bool) → a ≡ true → b ≡ true → (a && b) ≡ true
both_true a b e f = rw (e, f) refl

int_same : (m n : ℤ) → int_cmp m n ≡ Equal → int_eq m n ≡ true
int_same m n e = (Decides-int_eq m n).1 (int_ranked m n Equal (sym e))

texts_same : (s t : List ℕ) → slice_cmp nat_cmp s t ≡ Equal → pointwise nat_eq s t ≡ true
texts_same [] [] e = refl
texts_same [] (b ∷ t) e = cc
texts_same (a ∷ s) [] e = cc
texts_same (a ∷ s) (b ∷ t) e =
    let parts = then_equal (nat_cmp a b) (slice_cmp nat_cmp s t) e in
    both_true (nat_eq a b) (pointwise nat_eq s t) (same_number a b parts.0) (texts_same s t parts.1)

value_same : (v w : Value) → value_cmp v w ≡ Equal → value_eq v w ≡ true
unfolding value_cmp value_eq
value_same Null Null e = refl
value_same (Int m) (Int n) e = int_same m n e
value_same (Text s) (Text t) e = texts_same s t e
value_same Null (Int n) e = cc
value_same Null (Text t) e = cc
value_same (Int m) Null e = cc
value_same (Int m) (Text t) e = cc
value_same (Text s) Null e = cc
value_same (Text s) (Int n) e = cc

never_less : (o : Ordering) (b : Bool) → ordering_then o Less ≡ Equal → b ≡ true
never_less Less b e = cc
never_less Equal b e = cc
never_less Greater b e = cc

never_greater : (o : Ordering) (b : Bool) → ordering_then o Greater ≡ Equal → b ≡ true
never_greater Less b e = cc
never_greater Equal b e = cc
never_greater Greater b e = cc

-- names that tie are the same
pub same_of : (head : Head) (n m : Name) → name_cmp head n m ≡ Equal → name_eq n m ≡ true
unfolding name_eq value_cmp
same_of head (Table t) (Table u) e = same_number t.0 u.0 (then_equal (nat_cmp t.0 u.0) Equal e).0
same_of head (Row t r) (Row u s) e =
    let parts = then_equal (nat_cmp t.0 u.0) (ordering_then (nat_cmp r.0 s.0) Equal) e in
    both_true (t.0 == u.0) (r.0 == s.0) (same_number t.0 u.0 parts.0) (same_number r.0 s.0 (then_equal (nat_cmp r.0 s.0) Equal parts.1).0)
same_of head (Key i v) (Key j w) e =
    let parts = then_equal (nat_cmp (table_number head (Key i v)) (table_number head (Key j w))) (ordering_then (nat_cmp i.0 j.0) (value_cmp v w)) e in
    let rest = then_equal (nat_cmp i.0 j.0) (value_cmp v w) parts.1 in
    both_true (i.0 == j.0) (value_eq v w) (same_number i.0 j.0 rest.0) (value_same v w rest.1)
same_of head (End i) (End j) e =
    let parts = then_equal (nat_cmp (table_number head (End i)) (table_number head (End j))) (ordering_then (nat_cmp i.0 j.0) Equal) e in
    same_number i.0 j.0 (then_equal (nat_cmp i.0 j.0) Equal parts.1).0
same_of head (Table t) (Row u s) e = never_less (nat_cmp (table_number head (Table t)) (table_number head (Row u s))) false e
same_of head (Table t) (Key j w) e = never_less (nat_cmp (table_number head (Table t)) (table_number head (Key j w))) false e
same_of head (Table t) (End j) e = never_less (nat_cmp (table_number head (Table t)) (table_number head (End j))) false e
same_of head (Row t r) (Table u) e = never_greater (nat_cmp (table_number head (Row t r)) (table_number head (Table u))) false e
same_of head (Row t r) (Key j w) e = never_less (nat_cmp (table_number head (Row t r)) (table_number head (Key j w))) false e
same_of head (Row t r) (End j) e = never_less (nat_cmp (table_number head (Row t r)) (table_number head (End j))) false e
same_of head (Key i v) (Table u) e = never_greater (nat_cmp (table_number head (Key i v)) (table_number head (Table u))) false e
same_of head (Key i v) (Row u s) e = never_greater (nat_cmp (table_number head (Key i v)) (table_number head (Row u s))) false e
same_of head (Key i v) (End j) e =
    never_less (nat_cmp i.0 j.0) false (then_equal (nat_cmp (table_number head (Key i v)) (table_number head (End j))) (ordering_then (nat_cmp i.0 j.0) Less) e).1
same_of head (End i) (Table u) e = never_greater (nat_cmp (table_number head (End i)) (table_number head (Table u))) false e
same_of head (End i) (Row u s) e = never_greater (nat_cmp (table_number head (End i)) (table_number head (Row u s))) false e
same_of head (End i) (Key j w) e =
    never_greater (nat_cmp i.0 j.0) false (then_equal (nat_cmp (table_number head (End i)) (table_number head (Key j w))) (ordering_then (nat_cmp i.0 j.0) Greater) e).1
