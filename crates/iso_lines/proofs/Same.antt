-- To be the same name is to be equal.
use Rattle.std.proofs.Common.{◌≡◌, ℕ, Bool, true, false, ◌&&◌, List, [], ◌∷◌, refl, ap, sym, ◌∙◌, true≢false}
use Rattle.std.specs.Cmp.Lexicographic.{pointwise}
use Rattle.std.specs.Prelude.{nat_eq}
use Rattle.std.proofs.lemmas.Bool.{eqb-true}
use Rattle.std.proofs.lemmas.Bool.Decides.{Decides-int_eq}
use Rattle.iso_types.specs.Ids.{index_eq, name_eq, rid_eq, table_eq}
use Rattle.iso_types.specs.Value.{value_eq}
use Rattle.iso_types.specs.declared.value.IndexId.{IndexId}
use Rattle.iso_types.specs.declared.value.Name.{Name}
use Rattle.iso_types.specs.declared.value.Name.TheVariants.{End, Key, Row, Table}
use Rattle.iso_types.specs.declared.value.Rid.{Rid}
use Rattle.iso_types.specs.declared.value.TableId.{TableId}
use Rattle.iso_types.specs.declared.value.Value.{Value}
use Rattle.iso_types.specs.declared.value.Value.TheVariants.{Int, Null, Text}
use Rattle.iso_lines.proofs.Names.{name_like, name_same}

both : (a b : Bool) → (a && b) ≡ true → (a ≡ true) × (b ≡ true)
both true b e = (refl, e)
both false b e = cc

list_is : (s t : List ℕ) → pointwise nat_eq s t ≡ true → s ≡ t
list_is [] [] e = refl
list_is [] (b ∷ t) e = cc
list_is (a ∷ s) [] e = cc
list_is (a ∷ s) (b ∷ t) e =
    let p = both (nat_eq a b) (pointwise nat_eq s t) e in
    ap (λ (x : ℕ). x ∷ s) (eqb-true a b p.0) ∙ ap (λ (l : List ℕ). b ∷ l) (list_is s t p.1)

value_is : (v w : Value) → value_eq v w ≡ true → v ≡ w
unfolding value_eq
value_is Null Null e = refl
value_is (Int m) (Int n) e = ap Int ((Decides-int_eq m n).0 e)
value_is (Text s) (Text t) e = ap Text (list_is s t e)
value_is v w e = cc

table_is : (t u : TableId) → table_eq t u ≡ true → t ≡ u
table_is t u e = ap (λ (k : ℕ). record { 0 = k }) (eqb-true t.0 u.0 e)

rid_is : (r s : Rid) → rid_eq r s ≡ true → r ≡ s
rid_is r s e = ap (λ (k : ℕ). record { 0 = k }) (eqb-true r.0 s.0 e)

index_is : (i j : IndexId) → index_eq i j ≡ true → i ≡ j
index_is i j e = ap (λ (k : ℕ). record { 0 = k }) (eqb-true i.0 j.0 e)

-- to be the same name is to be equal
pub name_is : (n m : Name) → name_eq n m ≡ true → n ≡ m
unfolding name_eq
name_is (Table t) (Table u) e = ap Table (table_is t u e)
name_is (Row t r) (Row u s) e =
    let p = both (table_eq t u) (rid_eq r s) e in
    ap (λ (x : TableId). Row x r) (table_is t u p.0) ∙ ap (λ (x : Rid). Row u x) (rid_is r s p.1)
name_is (Key i v) (Key j w) e =
    let p = both (index_eq i j) (value_eq v w) e in
    ap (λ (x : IndexId). Key x v) (index_is i j p.0) ∙ ap (λ (x : Value). Key j x) (value_is v w p.1)
name_is (End i) (End j) e = ap End (index_is i j e)
name_is n m e = cc

-- it is so the other way round
pub turned : (n m : Name) → name_eq n m ≡ false → name_eq m n ≡ false
turned n m e = by (name_eq m n) refl
  where
    by : (b : Bool) → name_eq m n ≡ b → b ≡ false
    by true f = absurd (true≢false (sym (name_same m) ∙ name_like m n m f ∙ e))
    by false f = refl
