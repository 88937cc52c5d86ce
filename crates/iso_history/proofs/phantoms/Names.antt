-- Which hold is whose, and names that are the same.
use Rattle.std.proofs.Common.{◌≡◌, ℕ, Bool, true, false, refl, ap, sym, ◌∙◌, subst}
use Rattle.std.proofs.lemmas.Bool.{eqb-true}
use Rattle.std.proofs.lemmas.Cmp.{nat_eq_equiv}
use Rattle.iso_history.proofs.phantoms.Tests.{both, join}
use Rattle.iso_history.proofs.phantoms.Pairs.{rid_is}
use Rattle.iso_history.proofs.phantoms.Values.{value_is, value_same}
use Rattle.iso_modes.specs.declared.Mode.{Mode}
use Rattle.iso_modes.specs.declared.Term.{Term}
use Rattle.iso_queue.specs.Locks.{Hold, is_hold_of}
use Rattle.iso_types.specs.Ids.{conn_eq, index_eq, name_eq, rid_eq, table_eq}
use Rattle.iso_types.specs.Value.{value_eq}
use Rattle.iso_types.specs.declared.value.Conn.{Conn}
use Rattle.iso_types.specs.declared.value.IndexId.{IndexId}
use Rattle.iso_types.specs.declared.value.Name.{Name}
use Rattle.iso_types.specs.declared.value.Name.TheVariants.{End, Key, Row, Table}
use Rattle.iso_types.specs.declared.value.Rid.{Rid}
use Rattle.iso_types.specs.declared.value.TableId.{TableId}
use Rattle.iso_types.specs.declared.value.Value.{Value}

pub conn_is : (c d : Conn) → conn_eq c d ≡ true → c ≡ d
conn_is c d e = ap (λ (k : ℕ). record { 0 = k }) (eqb-true c.0 d.0 e)

pub conn_same : (c : Conn) → conn_eq c c ≡ true
conn_same c = nat_eq_equiv.refl c.0

pub conn_turned : (c d : Conn) → conn_eq c d ≡ false → conn_eq d c ≡ false
conn_turned c d e = go (conn_eq d c) refl
  where
    go : (b : Bool) → conn_eq d c ≡ b → conn_eq d c ≡ false
    go false f = f
    go true f = let s : d ≡ c = conn_is d c f in let z : conn_eq c d ≡ true = subst (λ (x : Conn). conn_eq c x ≡ true) (sym s) (conn_same c) in absurd (cc)

pub table_is : (t u : TableId) → table_eq t u ≡ true → t ≡ u
table_is t u e = ap (λ (k : ℕ). record { 0 = k }) (eqb-true t.0 u.0 e)

pub table_same : (t : TableId) → table_eq t t ≡ true
table_same t = nat_eq_equiv.refl t.0

pub index_is : (i j : IndexId) → index_eq i j ≡ true → i ≡ j
index_is i j e = ap (λ (k : ℕ). record { 0 = k }) (eqb-true i.0 j.0 e)

pub name_is : (n m : Name) → name_eq n m ≡ true → n ≡ m
unfolding name_eq
name_is (Table t) (Table u) e = ap Table (table_is t u e)
name_is (Row t r) (Row u s) e =
    let p = both (table_eq t u) (rid_eq r s) e in
    ap (λ (x : TableId). Row x r) (table_is t u p.0) ∙ ap (λ (x : Rid). Row u x) (rid_is r s p.1)
name_is (Key i v) (Key j w) e =
    let p = both (index_eq i j) (value_eq v w) e in
    ap (λ (x : IndexId). Key x v) (index_is i j p.0) ∙ ap (λ (x : Value). Key j x) (value_is v w p.1)
name_is (End i) (End j) e = ap End (index_is i j e)
name_is n m e = cc

pub name_same : (n : Name) → name_eq n n ≡ true
unfolding name_eq
name_same (Table t) = nat_eq_equiv.refl t.0
name_same (Row t r) = join (table_eq t t) (rid_eq r r) (nat_eq_equiv.refl t.0) (nat_eq_equiv.refl r.0)
name_same (Key i v) = join (index_eq i i) (value_eq v v) (nat_eq_equiv.refl i.0) (value_same v)
name_same (End i) = nat_eq_equiv.refl i.0

pub of-conn : (c : Conn) (n : Name) (h : Hold) → is_hold_of c n h ≡ true → h.conn ≡ c
unfolding is_hold_of
of-conn c n h e = conn_is h.conn c (both (conn_eq h.conn c) (name_eq h.name n) e).0

pub of-name : (c : Conn) (n : Name) (h : Hold) → is_hold_of c n h ≡ true → h.name ≡ n
unfolding is_hold_of
of-name c n h e = name_is h.name n (both (conn_eq h.conn c) (name_eq h.name n) e).1

pub of-self : (h : Hold) → is_hold_of h.conn h.name h ≡ true
unfolding is_hold_of
of-self h = join (conn_eq h.conn h.conn) (name_eq h.name h.name) (conn_same h.conn) (name_same h.name)

-- the mode and the term do not tell whose a hold is
pub of-same : (c : Conn) (n : Name) (h : Hold) (m : Mode) (t : Term) → is_hold_of c n (record h { mode = m; term = t }) ≡ is_hold_of c n h
unfolding is_hold_of
of-same c n h m t = refl

pub of-new : (c : Conn) (n : Name) (m : Mode) (t : Term) → is_hold_of c n (record { name = n; conn = c; mode = m; term = t }) ≡ true
unfolding is_hold_of
of-new c n m t = join (conn_eq c c) (name_eq n n) (conn_same c) (name_same n)

-- another connection's hold is not this one's
pub of-other : (c d : Conn) (n k : Name) (h : Hold) → conn_eq c d ≡ false → is_hold_of c n h ≡ true → is_hold_of d k h ≡ false
of-other c d n k h ne e = go (is_hold_of d k h) refl
  where
    go : (b : Bool) → is_hold_of d k h ≡ b → is_hold_of d k h ≡ false
    go false f = f
    go true f = let s : c ≡ d = sym (of-conn c n h e) ∙ of-conn d k h f in
        let z : conn_eq c d ≡ true = subst (λ (x : Conn). conn_eq c x ≡ true) s (conn_same c) in absurd (cc)

-- a rid is the same as itself
pub rid_same : (r : Rid) → rid_eq r r ≡ true
rid_same r = nat_eq_equiv.refl r.0
