-- Values of one connection, and which names are the same.
use Rattle.std.proofs.Common.{◌≡◌, ℕ, Bool, true, false, not, ◌&&◌, refl, ap, ◌∙◌, arith, if◌then◌else◌}
use Rattle.std.proofs.lemmas.Bool.Decides.{nat_tests}
use Rattle.std.proofs.lemmas.Bool.{eqb-true}
use Rattle.iso_history.specs.World.{at_conn}
use Rattle.iso_types.specs.Ids.{conn_eq, name_eq, rid_eq, table_eq}
use Rattle.iso_types.specs.declared.value.Conn.{Conn}
use Rattle.iso_types.specs.declared.value.Name.{Name}
use Rattle.iso_types.specs.declared.value.Name.TheVariants.{End, Key, Row, Table}
use Rattle.iso_types.specs.declared.value.Rid.{Rid}
use Rattle.iso_types.specs.declared.value.TableId.{TableId}

pub no-both : {b : Bool} → b ≡ true → b ≡ false → ⊥
no-both p q = cc

pub and-first : (a b : Bool) → (a && b) ≡ true → a ≡ true
and-first true b h = refl
and-first false b h = cc

pub and-rest : (a b : Bool) → (a && b) ≡ true → b ≡ true
and-rest true b h = h
and-rest false b h = cc

pub and-both : (a b : Bool) → a ≡ true → b ≡ true → (a && b) ≡ true
and-both a b p q = rw (p, q) refl

pub not-false : (a : Bool) → not a ≡ true → a ≡ false
not-false true h = cc
not-false false h = refl

pub conn-is : (c d : Conn) → conn_eq c d ≡ true → c ≡ d
conn-is c d h = ap (λ (n : ℕ). record { 0 = n }) (eqb-true c.0 d.0 h)

pub table-is : (t u : TableId) → table_eq t u ≡ true → t ≡ u
table-is t u h = ap (λ (n : ℕ). record { 0 = n }) (eqb-true t.0 u.0 h)

pub rid-is : (r s : Rid) → rid_eq r s ≡ true → r ≡ s
rid-is r s h = ap (λ (n : ℕ). record { 0 = n }) (eqb-true r.0 s.0 h)

pub conn-same : (c : Conn) → conn_eq c c ≡ true
conn-same c = grind (arith, nat_tests)

pub table-same : (t : TableId) → table_eq t t ≡ true
table-same t = grind (arith, nat_tests)

pub rid-same : (r : Rid) → rid_eq r r ≡ true
rid-same r = grind (arith, nat_tests)

pub conn-turned : (c d : Conn) → conn_eq c d ≡ conn_eq d c
conn-turned c d = grind (arith, nat_tests)

-- a name that is a table's, or a row's
pub table_name-is : (n : Name) (t : TableId) → name_eq n (Table t) ≡ true → n ≡ Table t
unfolding name_eq
table_name-is (Table u) t h = ap Table (table-is u t h)
table_name-is (Row u s) t h = cc
table_name-is (Key i v) t h = cc
table_name-is (End i) t h = cc

pub row_name-is : (n : Name) (t : TableId) (r : Rid) → name_eq n (Row t r) ≡ true → n ≡ Row t r
unfolding name_eq
row_name-is (Table u) t r h = cc
row_name-is (Row u s) t r h =
    ap (λ z. Row z s) (table-is u t (and-first _ _ h)) ∙ ap (Row t) (rid-is s r (and-rest (table_eq u t) (rid_eq s r) h))
row_name-is (Key i v) t r h = cc
row_name-is (End i) t r h = cc

pub table_name-same : (t : TableId) → name_eq (Table t) (Table t) ≡ true
unfolding name_eq
table_name-same t = table-same t

pub row_name-same : (t : TableId) (r : Rid) → name_eq (Row t r) (Row t r) ≡ true
unfolding name_eq
row_name-same t r = and-both _ _ (table-same t) (rid-same r)

-- a connection's value after another is set, by the connection
module _ {A : Type 0} (f : Conn → A) (c : Conn) (v : A) where
  pub at_conn-same : at_conn f c v c ≡ v
  at_conn-same = rw (conn-same c) refl

  pub at_conn-other : (d : Conn) → conn_eq d c ≡ false → at_conn f c v d ≡ f d
  at_conn-other d e = rw e refl

  pub at_conn-cases : (d : Conn) (P : A → Type 0) → (conn_eq d c ≡ true → P v) → (conn_eq d c ≡ false → P (f d)) → P (at_conn f c v d)
  at_conn-cases d P here there = go (conn_eq d c) refl
    where
      go : (b : Bool) → conn_eq d c ≡ b → P (if b then v else f d)
      go true e = here e
      go false e = there e
