-- What an entry makes of a slot's versions.
use Rattle.std.proofs.Common.{◌≡◌, ℕ, zero, suc, Bool, true, false, ◌&&◌, List, [], ◌∷◌, ◌++◌, length, map, refl, ap, sym, ◌∙◌, ◌⊎◌, inl, inr, Some, Option, get_or}
use Rattle.std.specs.Prelude.{slice_index_or, slice_set, ◌==◌, Contains}
use Rattle.std.proofs.Math.ListN.{get_or-map}
use Rattle.iso_history.proofs.phantoms.Members.{in-cases, in-first, in-none, in-rest}
use Rattle.iso_history.specs.Versions.{pending_version, settled_by, slot_list, slots, tables_by, taken_off, versions}
use Rattle.iso_history.specs.Versions.Change.{Adds, Settles, Takes, Writes}
use Rattle.iso_history.specs.World.{Version, World}
use Rattle.iso_types.specs.declared.value.Rid.{Rid}
use Rattle.iso_types.specs.declared.value.TableId.{TableId}
use Rattle.iso_types.specs.declared.value.Value.{Value}

-- a read after a write: what was there, or what was written
pub set-cases : {A : Type 0} (xs : List A) (i j : ℕ) (y d : A) → (get_or (slice_set xs i y) j d ≡ get_or xs j d)
    ⊎ ((j ≡ i) × (get_or (slice_set xs i y) j d ≡ y))
set-cases [] i j y d = inl refl
set-cases (x ∷ xs) zero zero y d = inr (refl, refl)
set-cases (x ∷ xs) zero (suc j) y d = inl refl
set-cases (x ∷ xs) (suc i) zero y d = inl refl
set-cases (x ∷ xs) (suc i) (suc j) y d = elim (set-cases xs i j y d) [ inl e ↦ inl e | inr e ↦ inr (ap suc e.0, e.1) ]

-- a read after a push: what was there, or what was pushed
pub push-cases : {A : Type 0} (xs : List A) (j : ℕ) (y d : A) → (get_or (xs ++ y ∷ []) j d ≡ get_or xs j d)
    ⊎ ((j ≡ length xs) × (get_or (xs ++ y ∷ []) j d ≡ y))
push-cases [] zero y d = inr (refl, refl)
push-cases [] (suc j) y d = inl refl
push-cases (x ∷ xs) zero y d = inl refl
push-cases (x ∷ xs) (suc j) y d = elim (push-cases xs j y d) [ inl e ↦ inl e | inr e ↦ inr (ap suc e.0, e.1) ]

-- the versions of a slot in a list of tables
abbrev pub versions_in : List (List (List Version)) → TableId → Rid → List Version
versions_in tables t r = slice_index_or (slice_index_or tables t.0 []) r.0 []

pub table_at : (t u : TableId) → t.0 ≡ u.0 → t ≡ u
table_at t u e = ap (λ (k : ℕ). record { 0 = k }) e

pub rid_at : (r s : Rid) → r.0 ≡ s.0 → r ≡ s
rid_at r s e = ap (λ (k : ℕ). record { 0 = k }) e

-- after an Undo
pub versions-takes : (w : World) (u n : ℕ) (t : TableId) (r : Rid) → versions_in (tables_by w u (Takes n)) t r ≡ taken_off n (versions w t r)
versions-takes w u n t r =
    ap (λ (s : List (List Version)). get_or s r.0 []) (get_or-map (λ (s : List (List Version)). map (taken_off n) s) w.tables t.0 [])
    ∙ get_or-map (taken_off n) (slot_list w t) r.0 []

-- after a Commit
pub versions-settles : (w : World) (u : ℕ) (t : TableId) (r : Rid) → versions_in (tables_by w u Settles) t r ≡ settled_by u (versions w t r)
versions-settles w u t r =
    ap (λ (s : List (List Version)). get_or s r.0 []) (get_or-map (λ (s : List (List Version)). map (settled_by u) s) w.tables t.0 [])
    ∙ get_or-map (settled_by u) (slot_list w t) r.0 []

-- after a change: the slot that is written, or another
pub versions-writes : (w : World) (u : ℕ) (t : TableId) (r : Rid) (row : Option (List Value)) (x : TableId) (y : Rid)
    → (versions_in (tables_by w u (Writes t r row)) x y ≡ versions w x y)
    ⊎ ((x ≡ t) × (y ≡ r) × (versions_in (tables_by w u (Writes t r row)) x y ≡ pending_version w u row ∷ versions w t r))
versions-writes w u t r row x y = go (set-cases w.tables t.0 x.0 new [])
  where
    new : List (List Version)
    new = slice_set (slot_list w t) r.0 (pending_version w u row ∷ versions w t r)

    go : (get_or (slice_set w.tables t.0 new) x.0 [] ≡ get_or w.tables x.0 []) ⊎ ((x.0 ≡ t.0) × (get_or (slice_set w.tables t.0 new) x.0 [] ≡ new))
        → (versions_in (tables_by w u (Writes t r row)) x y ≡ versions w x y)
        ⊎ ((x ≡ t) × (y ≡ r) × (versions_in (tables_by w u (Writes t r row)) x y ≡ pending_version w u row ∷ versions w t r))
    go (inl e) = inl (ap (λ (s : List (List Version)). get_or s y.0 []) e)
    go (inr e) = elim (set-cases (slot_list w t) r.0 y.0 (pending_version w u row ∷ versions w t r) []) [
      | inl f ↦ inl (ap (λ (s : List (List Version)). get_or s y.0 []) e.1 ∙ f ∙ ap (λ (k : ℕ). get_or (get_or w.tables k []) y.0 []) (sym e.0))
      | inr f ↦ inr (table_at x t e.0, rid_at y r f.0, ap (λ (s : List (List Version)). get_or s y.0 []) e.1 ∙ f.1)
    ]

-- after an Insert: the new slot, or another
pub versions-adds : (w : World) (u : ℕ) (t : TableId) (row : List Value) (x : TableId) (y : Rid)
    → (versions_in (tables_by w u (Adds t row)) x y ≡ versions w x y)
    ⊎ ((x ≡ t) × (y.0 ≡ slots w t) × (versions_in (tables_by w u (Adds t row)) x y ≡ pending_version w u (Some row) ∷ []))
versions-adds w u t row x y = go (set-cases w.tables t.0 x.0 new [])
  where
    new : List (List Version)
    new = slot_list w t ++ (pending_version w u (Some row) ∷ []) ∷ []

    go : (get_or (slice_set w.tables t.0 new) x.0 [] ≡ get_or w.tables x.0 []) ⊎ ((x.0 ≡ t.0) × (get_or (slice_set w.tables t.0 new) x.0 [] ≡ new))
        → (versions_in (tables_by w u (Adds t row)) x y ≡ versions w x y)
        ⊎ ((x ≡ t) × (y.0 ≡ slots w t) × (versions_in (tables_by w u (Adds t row)) x y ≡ pending_version w u (Some row) ∷ []))
    go (inl e) = inl (ap (λ (s : List (List Version)). get_or s y.0 []) e)
    go (inr e) = elim (push-cases (slot_list w t) y.0 (pending_version w u (Some row) ∷ []) []) [
      | inl f ↦ inl (ap (λ (s : List (List Version)). get_or s y.0 []) e.1 ∙ f ∙ ap (λ (k : ℕ). get_or (get_or w.tables k []) y.0 []) (sym e.0))
      | inr f ↦ inr (table_at x t e.0, f.0, ap (λ (s : List (List Version)). get_or s y.0 []) e.1 ∙ f.1)
    ]

-- what settling leaves, it has from before, with its row
pub in-settled : (u : ℕ) (v : Version) (vs : List Version) → Contains (settled_by u vs) v → (o : Version) × Contains vs o × (o.row ≡ v.row)
in-settled u v [] h = absurd (in-none v h)
in-settled u v (x ∷ vs) h = go (in-settled u v vs) (x.pending && (x.unit == u)) refl
  where
    go : (Contains (settled_by u vs) v → (o : Version) × Contains vs o × (o.row ≡ v.row)) → (b : Bool) → (x.pending && (x.unit == u)) ≡ b
        → (o : Version) × Contains (x ∷ vs) o × (o.row ≡ v.row)
    go ih true e = let k : Contains (record x { pending = false } ∷ []) v = rw e at h in elim (in-cases (record x { pending = false }) v [] k) [
      | inl s ↦ (x, in-first x vs, ap (λ (z : Version). z.row) (sym s))
      | inr s ↦ absurd (in-none v s)
    ]
    go ih false e = let k : Contains (x ∷ settled_by u vs) v = rw e at h in elim (in-cases x v (settled_by u vs) k) [
      | inl s ↦ (x, in-first x vs, ap (λ (z : Version). z.row) (sym s))
      | inr s ↦ (let r = ih s in (r.0, in-rest x r.0 vs r.1, r.2))
    ]
