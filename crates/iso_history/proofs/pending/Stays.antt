-- What a connection reads, the entries of others leave.
use Rattle.std.proofs.Common.{List, [], ◌∷◌, ◌≡◌, ◌≤◌, ◌<◌, ◌+◌, ◌++◌, ◌⊎◌, inl, inr, ℕ, Bool, true, false, ◌&&◌, refl, ap, sym, ◌∙◌, arith, Some, None, Option, subst, map, length, length-append, slice_set, unwrap_or}
use Rattle.std.specs.Prelude.{◌==◌}
use Rattle.std.proofs.Math.ListN.{length-set}
use Rattle.std.proofs.lemmas.List.{length-map}
use Rattle.std.proofs.lemmas.Bool.Decides.{nat_tests}
use Rattle.iso_history.proofs.pending.Conns.{and-first, conn-is, no-both}
use Rattle.iso_history.proofs.pending.Containing.{Each}
use Rattle.iso_history.proofs.pending.Left.{first-has, has-owned}
use Rattle.iso_history.proofs.pending.Makers.{IfPending, MakerOf, each-map, makers-each}
use Rattle.iso_history.proofs.pending.MakersAfter.{change-lock}
use Rattle.iso_history.proofs.pending.ReadLocks.{has_read_lock, row-apart}
use Rattle.iso_history.proofs.pending.Slots.{table-cases, add-cases, mapped_at, set-cases, slots_at, versions_at, versions-mapped}
use Rattle.iso_history.specs.Facts.{IsSound}
use Rattle.iso_history.specs.Legal.{ByAgent, ByDispatcher}
use Rattle.iso_history.specs.Piles.{AllPiled, Piled}
use Rattle.iso_history.specs.Records.{last_left, left, note_of}
use Rattle.iso_history.specs.Units.{unit_of}
use Rattle.iso_history.specs.Versions.{Change, change_of, pending_version, settled_by, slot_list, slots, tables_by, taken_off, versions}
use Rattle.iso_history.specs.Versions.Change.{Adds, Keeps, Settles, Takes, Writes}
use Rattle.iso_history.specs.World.{Version, World}
use Rattle.iso_history.specs.Writes.{may_change}
use Rattle.iso_history.specs.declared.entry.Act.{Act}
use Rattle.iso_history.specs.declared.entry.Act.TheVariants.{Commit, Delete, Insert, Undo, Update}
use Rattle.iso_types.specs.Ids.{conn_eq}
use Rattle.iso_types.specs.declared.head.Head.{Head}
use Rattle.iso_types.specs.declared.value.Conn.{Conn}
use Rattle.iso_types.specs.declared.value.Rid.{Rid}
use Rattle.iso_types.specs.declared.value.TableId.{TableId}
use Rattle.iso_types.specs.declared.value.Value.{Value}

-- where no pending version is of record n, none goes
pub same-taken : (n : ℕ) (vs : List Version) → Each (IfPending (λ v. v.number ≡ n → ⊥)) vs → taken_off n vs ≡ vs
same-taken n [] h = refl
same-taken n (v ∷ vs) h = go (same-taken n vs h.1) (v.pending && (v.number == n)) refl
  where
    go : taken_off n vs ≡ vs → (b : Bool) → (v.pending && (v.number == n)) ≡ b → taken_off n (v ∷ vs) ≡ v ∷ vs
    go ih true e = let q : v.number ≡ n = grind (arith, nat_tests) in absurd (h.0 (and-first _ _ e) q)
    go ih false e = rw e (ap (λ z. v ∷ z) ih)

-- where none is of the unit, none is settled
pub same-settled : (u : ℕ) (vs : List Version) → Each (IfPending (λ v. v.unit ≡ u → ⊥)) vs → settled_by u vs ≡ vs
same-settled u [] h = refl
same-settled u (v ∷ vs) h = go (same-settled u vs h.1) (v.pending && (v.unit == u)) refl
  where
    go : settled_by u vs ≡ vs → (b : Bool) → (v.pending && (v.unit == u)) ≡ b → settled_by u (v ∷ vs) ≡ v ∷ vs
    go ih true e = let q : v.unit ≡ u = grind (arith, nat_tests) in absurd (h.0 (and-first _ _ e) q)
    go ih false e = rw e (ap (λ z. v ∷ z) ih)

-- the unit of each pending version's record
pub piled-units : (w : World) (t : TableId) (r : Rid) (vs : List Version) → Piled w.records t r vs
    → Each (IfPending (λ v. (note_of w.records v.number).unit ≡ v.unit)) vs
piled-units w t r [] h = tt
piled-units w t r (v ∷ vs) h = ((λ p. (has-owned w.records v.unit v.number (h.0 p).is_left).1), piled-units w t r vs h.2)

le-of : {a b : ℕ} → a ≡ b → a ≤ b
le-of e = omega arith

-- no slot goes
pub slots-grow : (w : World) (u : ℕ) (ch : Change) (t : TableId) → slots w t ≤ length (slots_at (tables_by w u ch) t)
slots-grow w u Keeps t = omega arith
slots-grow w u (Adds k row) t = go (table-cases w.tables k (slot_list w k ++ (pending_version w u (Some row) ∷ []) ∷ []) t)
  where
    new : List (List (List Version))
    new = tables_by w u (Adds k row)

    go : (slots_at new t ≡ slots_at w.tables t) ⊎ ((t ≡ k) × (slots_at new t ≡ slot_list w k ++ (pending_version w u (Some row) ∷ []) ∷ []))
        → slots w t ≤ length (slots_at new t)
    go (inl e) = le-of (ap length (sym e))
    go (inr p) =
        let a : slots w t ≡ slots w k = ap (slots w) p.0 in
        let b : length (slots_at new t) ≡ slots w k + 1 = ap length p.1 ∙ length-append (slot_list w k) ((pending_version w u (Some row) ∷ []) ∷ []) in
        omega arith
slots-grow w u (Writes k q row) t = go (table-cases w.tables k (slice_set (slot_list w k) q.0 (pending_version w u row ∷ versions w k q)) t)
  where
    new : List (List (List Version))
    new = tables_by w u (Writes k q row)

    go : (slots_at new t ≡ slots_at w.tables t) ⊎ ((t ≡ k) × (slots_at new t ≡ slice_set (slot_list w k) q.0 (pending_version w u row ∷ versions w k q)))
        → slots w t ≤ length (slots_at new t)
    go (inl e) = le-of (ap length (sym e))
    go (inr p) = le-of (ap (slots w) p.0 ∙ sym (length-set (slot_list w k) q.0 (pending_version w u row ∷ versions w k q)) ∙ ap length (sym p.1))
slots-grow w u (Takes n) t = le-of (sym (ap length (mapped_at (λ slots. map (taken_off n) slots) w.tables t.0 [] [] refl) ∙ length-map (slots_at w.tables t)
    (taken_off n)))
slots-grow w u Settles t = le-of (sym (ap length (mapped_at (λ slots. map (settled_by u) slots) w.tables t.0 [] [] refl) ∙ length-map (slots_at w.tables t)
    (settled_by u)))

-- the dispatcher changes no version
pub dispatcher-keeps : (head : Head) (w : World) (a : Act) → ByDispatcher head w a → change_of a ≡ Keeps
dispatcher-keeps head w (Insert t r v) al = absurd al
dispatcher-keeps head w (Update t r v) al = absurd al
dispatcher-keeps head w (Delete t r) al = absurd al
dispatcher-keeps head w (Undo n) al = absurd al
dispatcher-keeps head w Commit al = absurd al
dispatcher-keeps head w _ al = refl

module _ (head : Head) (w : World) (s : IsSound head w) where
  -- the unit of another's pending version is not the connection's
  pub unit-differs : (d c : Conn) (u : ℕ) → conn_eq d c ≡ false → w.unit c ≡ Some u → u ≡ unit_of w d → ⊥
  unit-differs d c u ne is q = go (w.unit d) refl
    where
      go : (o : Option ℕ) → w.unit d ≡ o → ⊥
      go None e = let z : u ≡ 0 = q ∙ ap (λ o. unwrap_or o 0) e in let k = (s.units.begun c u is).0 in absurd (omega (arith, k))
      go (Some v) e = let z : u ≡ v = q ∙ ap (λ o. unwrap_or o 0) e in no-both (s.units.apart d c v e (is ∙ ap Some z)) ne

  -- what is pending where a connection reads is its own
  pub readers-own : (c : Conn) (t : TableId) (r : Rid) → has_read_lock w.holds c t r ≡ true → Each (IfPending (λ v. w.unit c ≡ Some v.unit)) (versions w t r)
  readers-own c t r reads = each-map head w (MakerOf head w.unit w.holds t r) (λ v. w.unit c ≡ Some v.unit) (λ v m. own v m (conn_eq m.conn c) refl)
      (versions w t r)
      (makers-each head w s.makers t r)
    where
      own : (v : Version) (m : MakerOf head w.unit w.holds t r v) → (b : Bool) → conn_eq m.conn c ≡ b → w.unit c ≡ Some v.unit
      own v m true e = subst (λ (z : Conn). w.unit z ≡ Some v.unit) (conn-is m.conn c e) m.open_unit
      own v m false e = absurd (row-apart head w.holds s.together s.backed m.conn c t r e m.locks m.writes reads)

  -- so no other's unit settles it
  pub others-unit : (d c : Conn) (t : TableId) (r : Rid) → conn_eq d c ≡ false → has_read_lock w.holds c t r ≡ true
      → Each (IfPending (λ v. v.unit ≡ unit_of w d → ⊥)) (versions w t r)
  others-unit d c t r ne reads = each-map head w (λ v. w.unit c ≡ Some v.unit) (λ v. v.unit ≡ unit_of w d → ⊥) (λ v own q. unit-differs d c v.unit ne own q)
      (versions w t r)
      (readers-own c t r reads)

  each-two : (P Q R : Version → Type 0) → ((v : Version) → P v → Q v → R v) → (vs : List Version) → Each (IfPending P) vs → Each (IfPending Q) vs → Each
      (IfPending R) vs
  each-two P Q R f [] h g = tt
  each-two P Q R f (v ∷ vs) h g = ((λ p. f v (h.0 p) (g.0 p)), each-two P Q R f vs h.1 g.1)

  -- and no other undoes it
  pub others-number : (d c : Conn) (n : ℕ) (t : TableId) (r : Rid) → conn_eq d c ≡ false → has_read_lock w.holds c t r ≡ true → last_left w (unit_of w d) ≡
      Some n
      → Each (IfPending (λ v. v.number ≡ n → ⊥)) (versions w t r)
  unfolding AllPiled
  others-number d c n t r ne reads last = each-two (λ v. (note_of w.records v.number).unit ≡ v.unit) (λ v. v.unit ≡ unit_of w d → ⊥) (λ v. v.number ≡ n → ⊥)
      (λ v unit not q. not (sym unit ∙ ap (λ z. (note_of w.records z).unit) q ∙
      (has-owned w.records (unit_of w d) n (first-has n (left w.records (unit_of w d)) last)).1))
      (versions w t r) (piled-units w t r (versions w t r) (s.piled t r)) (others-unit d c t r ne reads)

  stays-write : (d c : Conn) (k : TableId) (q : Rid) (row : Option (List Value)) (t : TableId) (r : Rid) → conn_eq d c ≡ false → has_read_lock w.holds c t
      r ≡ true
      → may_change head w d k q ≡ true → versions_at (tables_by w (unit_of w d) (Writes k q row)) t r ≡ versions w t r
  stays-write d c k q row t r ne reads may = go (set-cases w.tables k q (pending_version w (unit_of w d) row ∷ versions w k q) t r)
    where
      new : List (List (List Version))
      new = tables_by w (unit_of w d) (Writes k q row)

      go : (versions_at new t r ≡ versions_at w.tables t r) ⊎ ((t ≡ k) × (r ≡ q) × (versions_at new t r ≡ pending_version w (unit_of w d) row ∷ versions w k q))
          → versions_at new t r ≡ versions w t r
      go (inl e) = e
      go (inr p) = absurd (row-apart head w.holds s.together s.backed d c k q ne (change-lock head w s d k q may) (and-first _ _ may)
          (subst (λ (z : TableId). has_read_lock w.holds c z q ≡ true) p.0 (subst (λ (z : Rid). has_read_lock w.holds c t z ≡ true) p.1 reads)))

  -- one law for each kind that changes versions
  pub stays-agent : (d : Conn) (a : Act) (c : Conn) (t : TableId) (r : Rid) → ByAgent head w d a → conn_eq d c ≡ false → has_read_lock w.holds c t r ≡ true
      → r.0 < slots w t → versions_at (tables_by w (unit_of w d) (change_of a)) t r ≡ versions w t r
  stays-agent d (Insert k q row) c t r al ne reads lt = go (add-cases w.tables k (pending_version w (unit_of w d) (Some row) ∷ []) t r)
    where
      new : List (List (List Version))
      new = tables_by w (unit_of w d) (Adds k row)

      go : (versions_at new t r ≡ versions_at w.tables t r) ⊎ ((t ≡ k) × (r.0 ≡ slots w k) ×
          (versions_at new t r ≡ pending_version w (unit_of w d) (Some row) ∷ []))
          → versions_at new t r ≡ versions w t r
      go (inl e) = e
      go (inr p) = let z : slots w t ≡ slots w k = ap (slots w) p.0 in absurd (omega (arith, lt, p.1))
  stays-agent d (Update k q row) c t r al ne reads lt = stays-write d c k q (Some row) t r ne reads al.1
  stays-agent d (Delete k q) c t r al ne reads lt = stays-write d c k q None t r ne reads al.1
  stays-agent d (Undo n) c t r al ne reads lt = versions-mapped (taken_off n) refl w.tables t r ∙ same-taken n (versions w t r)
      (others-number d c n t r ne reads al.1)
  stays-agent d Commit c t r al ne reads lt = versions-mapped (settled_by (unit_of w d)) refl w.tables t r ∙ same-settled (unit_of w d) (versions w t r)
      (others-unit d c t r ne reads)
  stays-agent d _ c t r al ne reads lt = refl
