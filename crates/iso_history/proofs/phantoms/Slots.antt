-- Slots that are there stay there, and dead slots stay as they are.
use Rattle.std.proofs.Common.{◌≡◌, ◌<◌, ◌≤◌, ◌+◌, ℕ, true, false, not, List, [], ◌∷◌, ◌++◌, length, map, refl, ap, ◌∙◌, arith, subst, ◌⊎◌, inl, inr, Some, None, Option, get_or, length-append}
use Rattle.std.specs.Prelude.{slice_index_or, slice_set, nat_lt, is_none, is_some}
use Rattle.std.proofs.Math.ListN.{get_or-map, length-set}
use Rattle.std.proofs.lemmas.List.{length-map}
use Rattle.std.proofs.lemmas.Bool.Decides.{nat_tests}
use Rattle.iso_history.proofs.phantoms.Tests.{both, either, turned}
use Rattle.iso_history.proofs.phantoms.VersionsAfter.{set-cases, versions-adds, versions-settles, versions-takes, versions-writes, versions_in}
use Rattle.iso_history.specs.Versions.{Change, committed, is_dead, is_pending, is_pending_beside, pending_version, present, settled_by, slot_list, slots, tables_by, taken_off, versions, view, view_of}
use Rattle.iso_history.specs.Versions.Change.{Adds, Keeps, Settles, Takes, Writes}
use Rattle.iso_history.specs.Units.{unit_of}
use Rattle.iso_history.specs.World.{Version, World}
use Rattle.iso_types.specs.declared.value.Conn.{Conn}
use Rattle.iso_types.specs.declared.value.Rid.{Rid}
use Rattle.iso_types.specs.declared.value.TableId.{TableId}

-- the slots of a table in a list of tables
abbrev pub slots_in : List (List (List Version)) → TableId → ℕ
slots_in tables t = length (slice_index_or tables t.0 [])

-- their number does not fall
pub slots-grow : (w : World) (u : ℕ) (ch : Change) (t : TableId) → slots w t ≤ slots_in (tables_by w u ch) t
slots-grow w u Keeps t = omega arith
slots-grow w u (Adds x row) t = go (set-cases w.tables x.0 t.0 (slot_list w x ++ (pending_version w u (Some row) ∷ []) ∷ []) [])
  where
    new : List (List Version)
    new = slot_list w x ++ (pending_version w u (Some row) ∷ []) ∷ []

    go : (get_or (slice_set w.tables x.0 new) t.0 [] ≡ get_or w.tables t.0 []) ⊎ ((t.0 ≡ x.0) × (get_or (slice_set w.tables x.0 new) t.0 [] ≡ new))
        → slots w t ≤ slots_in (tables_by w u (Adds x row)) t
    go (inl e) = let z : slots_in (tables_by w u (Adds x row)) t ≡ slots w t = ap (λ (l : List (List Version)). length l) e in omega (arith, z)
    go (inr e) =
        let z : slots_in (tables_by w u (Adds x row)) t ≡ slots w x + 1 = ap (λ (l : List (List Version)). length l) e.1
        ∙ length-append (slot_list w x) ((pending_version w u (Some row) ∷ []) ∷ []) in
        let y : slots w t ≡ slots w x = ap (λ (k : ℕ). length (get_or w.tables k [])) e.0 in
        omega (arith, z, y)
slots-grow w u (Writes x r row) t = go (set-cases w.tables x.0 t.0 (slice_set (slot_list w x) r.0 (pending_version w u row ∷ versions w x r)) [])
  where
    new : List (List Version)
    new = slice_set (slot_list w x) r.0 (pending_version w u row ∷ versions w x r)

    go : (get_or (slice_set w.tables x.0 new) t.0 [] ≡ get_or w.tables t.0 []) ⊎ ((t.0 ≡ x.0) × (get_or (slice_set w.tables x.0 new) t.0 [] ≡ new))
        → slots w t ≤ slots_in (tables_by w u (Writes x r row)) t
    go (inl e) = let z : slots_in (tables_by w u (Writes x r row)) t ≡ slots w t = ap (λ (l : List (List Version)). length l) e in omega (arith, z)
    go (inr e) =
        let z : slots_in (tables_by w u (Writes x r row)) t ≡ slots w x = ap (λ (l : List (List Version)). length l) e.1
        ∙ length-set (slot_list w x) r.0 (pending_version w u row ∷ versions w x r) in
        let y : slots w t ≡ slots w x = ap (λ (k : ℕ). length (get_or w.tables k [])) e.0 in
        omega (arith, z, y)
slots-grow w u (Takes n) t =
    let z : slots_in (tables_by w u (Takes n)) t ≡ slots w t =
    ap (λ (l : List (List Version)). length l) (get_or-map (λ (s : List (List Version)). map (taken_off n) s) w.tables t.0 [])
    ∙ length-map (slot_list w t) (taken_off n) in omega (arith, z)
slots-grow w u Settles t =
    let z : slots_in (tables_by w u Settles) t ≡ slots w t =
    ap (λ (l : List (List Version)). length l) (get_or-map (λ (s : List (List Version)). map (settled_by u) s) w.tables t.0 [])
    ∙ length-map (slot_list w t) (settled_by u) in omega (arith, z)

-- what is not pending is not taken off, nor settled
pub taken-none : (n : ℕ) (vs : List Version) → is_pending vs ≡ false → taken_off n vs ≡ vs
taken-none n [] e = refl
taken-none n (v ∷ vs) e = let x = either v.pending (is_pending vs) e in rw (x.0, taken-none n vs x.1) refl

pub settled-none : (u : ℕ) (vs : List Version) → is_pending vs ≡ false → settled_by u vs ≡ vs
settled-none u [] e = refl
settled-none u (v ∷ vs) e = let x = either v.pending (is_pending vs) e in rw (x.0, settled-none u vs x.1) refl

-- a dead slot shows no row to anybody
beside-none : (u : ℕ) (vs : List Version) → is_pending vs ≡ false → is_pending_beside u vs ≡ false
beside-none u [] e = refl
beside-none u (v ∷ vs) e = let x = either v.pending (is_pending vs) e in rw (x.0, beside-none u vs x.1) refl

present-committed : (vs : List Version) → is_pending vs ≡ false → present vs ≡ committed vs
present-committed [] e = refl
present-committed (v ∷ vs) e = let x = either v.pending (is_pending vs) e in rw x.0 refl

none-is : {A : Type 0} (o : Option A) → is_none o ≡ true → o ≡ None
none-is None e = refl
none-is (Some x) e = cc

-- its view is no row
pub dead-view : (u : ℕ) (vs : List Version) → is_dead vs ≡ true → view_of u vs ≡ None
dead-view u vs d =
    let x = both (not (is_pending vs)) (is_none (committed vs)) d in
    let p : is_pending vs ≡ false = turned (is_pending vs) x.0 in
    rw (beside-none u vs p) (present-committed vs p ∙ none-is (committed vs) x.1)

-- no version of it is pending
pub dead-still : (vs : List Version) → is_dead vs ≡ true → is_pending vs ≡ false
dead-still vs d = turned (is_pending vs) (both (not (is_pending vs)) (is_none (committed vs)) d).0

-- where a change may fall on a slot
abbrev pub WriteSees : World → Conn → Change → Type 0
WriteSees w c (Writes t r row) = is_some (view w c t r) ≡ true
WriteSees w c _ = Unit {0}

-- a dead slot that is there stays as it is
pub dead-change : (w : World) (c : Conn) (u : ℕ) (ch : Change) (t : TableId) (r : Rid) → WriteSees w c ch → nat_lt r.0 (slots w t) ≡ true
    → is_dead (versions w t r) ≡ true
    → versions_in (tables_by w u ch) t r ≡ versions w t r
dead-change w c u Keeps t r f lt d = refl
dead-change w c u (Adds x row) t r f lt d = elim (versions-adds w u x row t r) [
  | inl e ↦ e
  | inr e ↦ absurd (no e.0 e.1)
]
  where
    no : t ≡ x → r.0 ≡ slots w x → ⊥
    no e g = let z : slots w t ≡ slots w x = ap (λ (k : TableId). slots w k) e in let q : r.0 < slots w t = grind (arith, nat_tests, lt) in
        omega (arith, q, g, z)
dead-change w c u (Writes x y row) t r f lt d = elim (versions-writes w u x y row t r) [
  | inl e ↦ e
  | inr e ↦ absurd (no e.0 e.1)
]
  where
    no : t ≡ x → r ≡ y → ⊥
    no e g =
        let z : view w c t r ≡ None = dead-view (unit_of w c) (versions w t r) d in
        let y1 : view w c x y ≡ None = subst (λ (k : Rid). view w c x k ≡ None) g (subst (λ (k : TableId). view w c k r ≡ None) e z) in
        let q : false ≡ true = rw y1 at f in cc
dead-change w c u (Takes n) t r f lt d = versions-takes w u n t r ∙ taken-none n (versions w t r) (dead-still (versions w t r) d)
dead-change w c u Settles t r f lt d = versions-settles w u t r ∙ settled-none u (versions w t r) (dead-still (versions w t r) d)
