-- Tests by which ids and names are the same say that they are equal.
use Rattle.std.proofs.Common.{◌≡◌, ℕ, true, refl, ap, nat_eq}
use Rattle.std.specs.Cmp.Lexicographic.{pointwise}
use Rattle.std.proofs.lemmas.Bool.{and_parts, eqb-true}
use Rattle.std.proofs.lemmas.Bool.Decides.{Decides-int_eq}
use Rattle.std.proofs.lemmas.Cmp.{int_eq_equiv, nat_eq_equiv, nat_list_eq_equiv}
use Rattle.std.specs.Prelude.{List, [], ◌∷◌}
use Rattle.iso_types.specs.Ids.{conn_eq, index_eq, name_eq, rid_eq, table_eq}
use Rattle.iso_types.specs.Value.{value_eq}
use Rattle.iso_types.specs.declared.value.Conn.{Conn}
use Rattle.iso_types.specs.declared.value.IndexId.{IndexId}
use Rattle.iso_types.specs.declared.value.Name.{Name}
use Rattle.iso_types.specs.declared.value.Name.TheVariants.{End, Key, Row, Table}
use Rattle.iso_types.specs.declared.value.Rid.{Rid}
use Rattle.iso_types.specs.declared.value.TableId.{TableId}
use Rattle.iso_types.specs.declared.value.Value.{Value}
use Rattle.iso_types.specs.declared.value.Value.TheVariants.{Int, Null, Text}

abbrev pub the_conn : ℕ → Conn
the_conn k = record { 0 = k }

abbrev pub the_table : ℕ → TableId
the_table k = record { 0 = k }

abbrev pub the_index : ℕ → IndexId
the_index k = record { 0 = k }

abbrev pub the_rid : ℕ → Rid
the_rid k = record { 0 = k }

pub conn_is : (c d : Conn) → conn_eq c d ≡ true → c ≡ d
conn_is c d e = ap (λ (k : ℕ). the_conn k) (eqb-true c.0 d.0 e)

pub table_is : (t u : TableId) → table_eq t u ≡ true → t ≡ u
table_is t u e = ap (λ (k : ℕ). the_table k) (eqb-true t.0 u.0 e)

pub index_is : (i j : IndexId) → index_eq i j ≡ true → i ≡ j
index_is i j e = ap (λ (k : ℕ). the_index k) (eqb-true i.0 j.0 e)

pub rid_is : (r s : Rid) → rid_eq r s ≡ true → r ≡ s
rid_is r s e = ap (λ (k : ℕ). the_rid k) (eqb-true r.0 s.0 e)

texts_are : (s t : List ℕ) → pointwise nat_eq s t ≡ true → s ≡ t
texts_are [] [] e = refl
texts_are (x ∷ xs) (y ∷ ys) e =
    let p = and_parts _ _ e in
    let h : x ≡ y = eqb-true x y p.0 in
    let k : xs ≡ ys = texts_are xs ys p.1 in
    cc
texts_are _ _ e = cc

pub value_is : (u v : Value) → value_eq u v ≡ true → u ≡ v
unfolding value_eq
value_is Null Null e = refl
value_is (Int m) (Int n) e = ap Int ((Decides-int_eq m n).0 e)
value_is (Text s) (Text t) e = ap Text (texts_are s t e)
value_is _ _ e = cc

pub name_is : (n m : Name) → name_eq n m ≡ true → n ≡ m
unfolding name_eq
name_is (Table t) (Table u) e = ap Table (table_is t u e)
name_is (Row t r) (Row u s) e =
    let p = and_parts _ _ e in
    let h : t ≡ u = table_is t u p.0 in
    let k : r ≡ s = rid_is r s p.1 in
    cc
name_is (Key i v) (Key j w) e =
    let p = and_parts _ _ e in
    let h : i ≡ j = index_is i j p.0 in
    let k : v ≡ w = value_is v w p.1 in
    cc
name_is (End i) (End j) e = ap End (index_is i j e)
name_is _ _ e = cc

pub conn_same : (c : Conn) → conn_eq c c ≡ true
conn_same c = nat_eq_equiv.refl c.0

pub value_same : (v : Value) → value_eq v v ≡ true
unfolding value_eq
value_same Null = refl
value_same (Int m) = int_eq_equiv.refl m
value_same (Text s) = nat_list_eq_equiv.refl s

pub name_same : (n : Name) → name_eq n n ≡ true
unfolding name_eq
name_same (Table t) = nat_eq_equiv.refl t.0
name_same (Row t r) = rw (nat_eq_equiv.refl t.0, nat_eq_equiv.refl r.0) refl
name_same (Key i v) = rw (nat_eq_equiv.refl i.0, value_same v) refl
name_same (End i) = nat_eq_equiv.refl i.0
