-- To be the same name is an equivalence.
use Rattle.std.proofs.Common.{◌≡◌, Bool, true, false, ◌&&◌, refl}
use Rattle.std.proofs.lemmas.Cmp.{int_eq_equiv, nat_eq_equiv, nat_list_eq_equiv}
use Rattle.iso_types.specs.Ids.{name_eq, table_eq, rid_eq, index_eq}
use Rattle.iso_types.specs.Value.{value_eq}
use Rattle.iso_types.specs.declared.value.Name.{Name}
use Rattle.iso_types.specs.declared.value.Name.TheVariants.{End, Key, Row, Table}
use Rattle.iso_types.specs.declared.value.Value.{Value}
use Rattle.iso_types.specs.declared.value.Value.TheVariants.{Int, Null, Text}

both : (a b : Bool) → a ≡ true → b ≡ true → (a && b) ≡ true
both a b p q = rw p q

value_same : (v : Value) → value_eq v v ≡ true
unfolding value_eq
value_same Null = refl
value_same (Int m) = int_eq_equiv.refl m
value_same (Text s) = nat_list_eq_equiv.refl s

pub name_same : (n : Name) → name_eq n n ≡ true
unfolding name_eq
name_same (Table t) = nat_eq_equiv.refl t.0
name_same (Row t r) = both (table_eq t t) (rid_eq r r) (nat_eq_equiv.refl t.0) (nat_eq_equiv.refl r.0)
name_same (Key i v) = both (index_eq i i) (value_eq v v) (nat_eq_equiv.refl i.0) (value_same v)
name_same (End i) = nat_eq_equiv.refl i.0

value_like : (u v w : Value) → value_eq u v ≡ true → value_eq u w ≡ value_eq v w
unfolding value_eq
value_like Null Null w e = refl
value_like (Int m) (Int n) (Int o) e = int_eq_equiv.congr m n o e
value_like (Int m) (Int n) w e = refl
value_like (Text s) (Text t) (Text r) e = nat_list_eq_equiv.congr s t r e
value_like (Text s) (Text t) w e = refl
value_like u v w e = cc

split : (a b : Bool) → (a && b) ≡ true → (a ≡ true) × (b ≡ true)
split true b e = (refl, e)
split false b e = cc

pub name_like : (n m o : Name) → name_eq n m ≡ true → name_eq n o ≡ name_eq m o
unfolding name_eq
name_like (Table t) (Table u) (Table v) e = nat_eq_equiv.congr t.0 u.0 v.0 e
name_like (Table t) (Table u) o e = refl
name_like (Row t r) (Row u s) (Row v q) e =
    let p = split (table_eq t u) (rid_eq r s) e in
    rw (nat_eq_equiv.congr t.0 u.0 v.0 p.0, nat_eq_equiv.congr r.0 s.0 q.0 p.1) refl
name_like (Row t r) (Row u s) o e = refl
name_like (Key i v) (Key j w) (Key k x) e =
    let p = split (index_eq i j) (value_eq v w) e in
    rw (nat_eq_equiv.congr i.0 j.0 k.0 p.0, value_like v w x p.1) refl
name_like (Key i v) (Key j w) o e = refl
name_like (End i) (End j) (End k) e = nat_eq_equiv.congr i.0 j.0 k.0 e
name_like (End i) (End j) o e = refl
name_like n m o e = cc
