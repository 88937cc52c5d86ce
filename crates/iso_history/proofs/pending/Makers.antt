-- The maker of a pending version holds its row for writing to the unit's end.
use Rattle.std.proofs.Common.{List, [], ◌∷◌, ◌≡◌, ◌⊎◌, inl, inr, ℕ, Bool, true, false, ◌&&◌, refl, ap, sym, ◌∙◌, arith, Some, None, Option, subst, filter}
use Rattle.std.specs.Prelude.{◌==◌}
use Rattle.std.proofs.lemmas.Bool.Decides.{nat_tests}
use Rattle.iso_history.proofs.pending.Conns.{at_conn-other, conn-is, no-both}
use Rattle.iso_history.proofs.pending.Containing.{Each, each-of, of-each}
use Rattle.iso_history.proofs.pending.ModeTests.{at_least-joined}
use Rattle.iso_history.proofs.pending.RowLocks.{table-stays, write-stays}
use Rattle.iso_history.proofs.pending.Slots.{add-cases, set-cases, versions_at, versions-mapped}
use Rattle.iso_history.specs.Facts.{DuesHeld, MakersHold, TablesKept, has_write_lock}
use Rattle.iso_history.specs.Guards.{is_end}
use Rattle.iso_history.specs.Holds.{holds_by_agent}
use Rattle.iso_history.specs.Legal.{ByAgent}
use Rattle.iso_history.specs.Piles.{AllPiled, Piled, has}
use Rattle.iso_history.specs.Records.{left, left_of}
use Rattle.iso_history.specs.Units.{turn_of_agent, unit_by, unit_of}
use Rattle.iso_history.specs.Versions.{Change, next_rid, pending_version, settled_by, tables_by, taken_off, versions}
use Rattle.iso_history.specs.Versions.Change.{Adds, Keeps, Settles, Takes, Writes}
use Rattle.iso_history.specs.World.{Version, World}
use Rattle.iso_history.specs.declared.entry.Act.{Act}
use Rattle.iso_history.specs.declared.entry.Act.TheVariants.{Commit, Rollback}
use Rattle.iso_modes.specs.Modes.{at_least}
use Rattle.iso_modes.specs.declared.Mode.TheVariants.{Ix}
use Rattle.iso_queue.specs.Locks.{Hold, holds_at_least}
use Rattle.iso_types.specs.Ids.{conn_eq}
use Rattle.iso_types.specs.declared.head.Head.{Head}
use Rattle.iso_types.specs.declared.value.Conn.{Conn}
use Rattle.iso_types.specs.declared.value.Name.TheVariants.{Table}
use Rattle.iso_types.specs.declared.value.Rid.{Rid}
use Rattle.iso_types.specs.declared.value.TableId.{TableId}
use Rattle.iso_types.specs.declared.value.Value.{Value}

-- what holds of each pending version
module _ (P : Version → Type 0) where
  abbrev pub IfPending : Version → Type 0
  IfPending v = v.pending ≡ true → P v

  pub each-filter : (q : Version → Bool) (vs : List Version) → Each IfPending vs → Each IfPending (filter q vs)
  each-filter q [] h = tt
  each-filter q (v ∷ vs) h = go (each-filter q vs h.1) (q v) refl
    where
      go : Each IfPending (filter q vs) → (b : Bool) → q v ≡ b → Each IfPending (filter q (v ∷ vs))
      go ih true e = rw e (h.0, ih)
      go ih false e = rw e ih

  pub each-settled : (u : ℕ) (vs : List Version) → Each IfPending vs → Each IfPending (settled_by u vs)
  each-settled u [] h = tt
  each-settled u (v ∷ vs) h = go (each-settled u vs h.1) (v.pending && (v.unit == u)) refl
    where
      go : Each IfPending (settled_by u vs) → (b : Bool) → (v.pending && (v.unit == u)) ≡ b → Each IfPending (settled_by u (v ∷ vs))
      go ih true e = rw e ((λ p. absurd (cc)), tt)
      go ih false e = rw e (h.0, ih)

-- one law for each change: what holds of each pending version before, and of the new one, holds of each after
pub each-changed : (P : TableId → Rid → Version → Type 0) (w : World) (u : ℕ) (ch : Change)
    → ((t : TableId) (row : List Value) → ch ≡ Adds t row → P t (next_rid w t) (pending_version w u (Some row)))
    → ((t : TableId) (r : Rid) (row : Option (List Value)) → ch ≡ Writes t r row → P t r (pending_version w u row))
    → ((t : TableId) (r : Rid) → Each (IfPending (P t r)) (versions w t r)) → (t : TableId) (r : Rid) → Each (IfPending (P t r))
    (versions_at (tables_by w u ch) t r)
each-changed P w u Keeps add write s t r = s t r
each-changed P w u (Adds k row) add write s t r = go (add-cases w.tables k (pending_version w u (Some row) ∷ []) t r)
  where
    new : List (List (List Version))
    new = tables_by w u (Adds k row)

    go : (versions_at new t r ≡ versions_at w.tables t r) ⊎ ((t ≡ k) × (r.0 ≡ (next_rid w k).0) × (versions_at new t r ≡ pending_version w u (Some row) ∷ []))
        → Each (IfPending (P t r)) (versions_at new t r)
    go (inl e) = subst (Each (IfPending (P t r))) (sym e) (s t r)
    go (inr p) =
        let is : r ≡ next_rid w k = ap (λ (n : ℕ). record { 0 = n }) p.1 in
        subst (Each (IfPending (P t r))) (sym p.2) (
          (λ z. subst (λ (z : TableId). P z r (pending_version w u (Some row))) (sym p.0)
              (subst (λ (z : Rid). P k z (pending_version w u (Some row))) (sym is) (add k row refl))),
          tt,
        )
each-changed P w u (Writes k q row) add write s t r = go (set-cases w.tables k q (pending_version w u row ∷ versions w k q) t r)
  where
    new : List (List (List Version))
    new = tables_by w u (Writes k q row)

    go : (versions_at new t r ≡ versions_at w.tables t r) ⊎ ((t ≡ k) × (r ≡ q) × (versions_at new t r ≡ pending_version w u row ∷ versions w k q))
        → Each (IfPending (P t r)) (versions_at new t r)
    go (inl e) = subst (Each (IfPending (P t r))) (sym e) (s t r)
    go (inr p) = subst (Each (IfPending (P t r))) (sym p.2)
        (subst (λ (z : TableId). Each (IfPending (P z r)) (pending_version w u row ∷ versions w k q)) (sym p.0)
        (subst (λ (z : Rid). Each (IfPending (P k z)) (pending_version w u row ∷ versions w k q)) (sym p.1)
        ((λ z. write k q row refl), s k q)))
each-changed P w u (Takes n) add write s t r = subst (Each (IfPending (P t r))) (sym (versions-mapped (taken_off n) refl w.tables t r))
    (each-filter (P t r) _ (versions w t r) (s t r))
each-changed P w u Settles add write s t r = subst (Each (IfPending (P t r))) (sym (versions-mapped (settled_by u) refl w.tables t r))
    (each-settled (P t r) u (versions w t r) (s t r))

-- a maker, over what it speaks of
pub record MakerOf (head : Head) (unit : Conn → Option ℕ) (holds : List Hold) (t : TableId) (r : Rid) (v : Version) : Type 0 where
  pub conn : Conn
  pub open_unit : unit conn ≡ Some v.unit
  pub locks : has_write_lock head holds conn t r ≡ true
  pub writes : holds_at_least holds conn (Table t) Ix ≡ true

module _ (head : Head) (w : World) where
  pub makers-each : MakersHold head w → (t : TableId) (r : Rid) → Each (IfPending (MakerOf head w.unit w.holds t r)) (versions w t r)
  unfolding MakersHold
  makers-each s t r = each-of (IfPending (MakerOf head w.unit w.holds t r)) (versions w t r)
      (λ v c p. let m = s t r v c p in record { conn = m.conn; open_unit = m.open_unit; locks = m.locks; writes = m.writes })

  pub makers-of : ((t : TableId) (r : Rid) → Each (IfPending (MakerOf head w.unit w.holds t r)) (versions w t r)) → MakersHold head w
  unfolding MakersHold
  makers-of s t r v c p = let m = of-each (IfPending (MakerOf head w.unit w.holds t r)) (versions w t r) (s t r) v c p in
      record { conn = m.conn; open_unit = m.open_unit; locks = m.locks; writes = m.writes }

  unit-stays : (c : Conn) (a : Act) (d : Conn) (u : ℕ) → (is_end a && conn_eq d c) ≡ false → w.unit d ≡ Some u → unit_by w (turn_of_agent c a) d ≡ Some u
  unit-stays c Commit d u e h = at_conn-other w.unit c None d e ∙ h
  unit-stays c (Rollback code reason) d u e h = at_conn-other w.unit c None d e ∙ h
  unit-stays c Act.Ended d u e h = at_conn-other w.unit c None d e ∙ h
  unit-stays c _ d u e h = h

  -- a maker stays, where its unit does not end
  pub maker-stays : (c : Conn) (a : Act) (t : TableId) (r : Rid) (v : Version) → ByAgent head w c a → TablesKept w.holds → DuesHeld w
      → (m : MakerOf head w.unit w.holds t r v) → (is_end a && conn_eq m.conn c) ≡ false
      → MakerOf head (unit_by w (turn_of_agent c a)) (holds_by_agent head w c a) t r v
  maker-stays c a t r v al s due m nil = record {
    conn = m.conn;
    open_unit = unit-stays c a m.conn v.unit nil m.open_unit;
    locks = write-stays head w c a m.conn t r al s due nil m.locks m.writes;
    writes = table-stays head w (λ k. at_least k Ix) (λ x y. at_least-joined Ix x y) c a m.conn t s nil m.writes;
  }

  pub each-map : (P Q : Version → Type 0) → ((v : Version) → P v → Q v) → (vs : List Version) → Each (IfPending P) vs → Each (IfPending Q) vs
  each-map P Q f [] h = tt
  each-map P Q f (v ∷ vs) h = ((λ p. f v (h.0 p)), each-map P Q f vs h.1)

  each-both : (P Q R : Version → Type 0) → ((v : Version) → P v → Q v → R v) → (vs : List Version) → Each (IfPending P) vs → Each (IfPending Q) vs → Each
      (IfPending R) vs
  each-both P Q R f [] h g = tt
  each-both P Q R f (v ∷ vs) h g = ((λ p. f v (h.0 p) (g.0 p)), each-both P Q R f vs h.1 g.1)

  -- not of the connection's unit
  abbrev pub NotOf : Conn → Version → Type 0
  NotOf c v = w.unit c ≡ Some v.unit → ⊥

  -- at a unit's end: what is pending then is another's
  pub makers-end : (c : Conn) (a : Act) → is_end a ≡ true → ByAgent head w c a → TablesKept w.holds → DuesHeld w → (t : TableId) (r : Rid) (vs : List Version)
      → Each (IfPending (MakerOf head w.unit w.holds t r)) vs → Each (IfPending (NotOf c)) vs
      → Each (IfPending (MakerOf head (unit_by w (turn_of_agent c a)) (holds_by_agent head w c a) t r)) vs
  makers-end c a e al s due t r vs h g = each-both (MakerOf head w.unit w.holds t r) (NotOf c)
      (MakerOf head (unit_by w (turn_of_agent c a)) (holds_by_agent head w c a) t r)
      (λ v m n. maker-stays c a t r v al s due m (apart v m n (conn_eq m.conn c) refl)) vs h g
    where
      apart : (v : Version) (m : MakerOf head w.unit w.holds t r v) → NotOf c v → (b : Bool) → conn_eq m.conn c ≡ b → (is_end a && conn_eq m.conn c) ≡ false
      apart v m n true q = absurd (n (subst (λ (z : Conn). w.unit z ≡ Some v.unit) (conn-is m.conn c q) m.open_unit))
      apart v m n false q = rw (e, q) refl

  unit_of-is : (c : Conn) (u : ℕ) → w.unit c ≡ Some u → unit_of w c ≡ u
  unit_of-is c u e = rw e refl

  -- a Commit leaves none of its unit's pending
  pub settled-none : (c : Conn) (vs : List Version) → Each (IfPending (NotOf c)) (settled_by (unit_of w c) vs)
  settled-none c [] = tt
  settled-none c (v ∷ vs) = go (settled-none c vs) (v.pending && (v.unit == unit_of w c)) refl
    where
      go : Each (IfPending (NotOf c)) (settled_by (unit_of w c) vs) → (b : Bool) → (v.pending && (v.unit == unit_of w c)) ≡ b
          → Each (IfPending (NotOf c)) (settled_by (unit_of w c) (v ∷ vs))
      go ih true e = rw e ((λ p. absurd (cc)), tt)
      go ih false e = rw e ((λ p q. differ p (unit_of-is c v.unit q)), ih)
        where
          differ : v.pending ≡ true → unit_of w c ≡ v.unit → ⊥
          differ p q = let k : (v.unit == unit_of w c) ≡ true = grind (arith, nat_tests) in no-both (rw (p, k) refl) e

  -- where a unit has nothing left, none of it is pending
  clear-go : (c : Conn) (t : TableId) (r : Rid) (vs : List Version) → left_of w c ≡ [] → Piled w.records t r vs → Each (IfPending (NotOf c)) vs
  clear-go c t r [] e h = tt
  clear-go c t r (v ∷ vs) e h = ((λ p q. none v.number (rw q at e) (h.0 p).is_left), clear-go c t r vs e h.2)
    where
      none : (n : ℕ) → left w.records v.unit ≡ [] → has n (left w.records v.unit) ≡ true → ⊥
      none n q i = no-both (subst (λ (z : List ℕ). has n z ≡ true) q i) refl

  pub clear-of : (c : Conn) → left_of w c ≡ [] → AllPiled w → (t : TableId) (r : Rid) → Each (IfPending (NotOf c)) (versions w t r)
  unfolding AllPiled
  clear-of c e piled t r = clear-go c t r (versions w t r) e (piled t r)
