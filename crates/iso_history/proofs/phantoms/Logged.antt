-- Pending versions keep their records, and what a unit has left is of that unit.
use Rattle.std.proofs.Common.{◌≡◌, ◌<◌, ◌+◌, ℕ, Bool, true, false, not, ◌&&◌, List, [], ◌∷◌, ◌++◌, length, refl, ap, sym, ◌∙◌, arith, subst, inl, inr, Some, None, Option, length-append, append_assoc}
use Rattle.std.specs.Prelude.{slice_get, filter, ◌==◌, Contains}
use Rattle.std.proofs.lemmas.Bool.{eqb-true}
use Rattle.std.proofs.Math.ListN.{get_or-append}
use Rattle.std.proofs.Math.Seq.{get_or-append_seam}
use Rattle.iso_history.proofs.phantoms.Members.{in-cases, in-filter, in-first, in-none, in-rest}
use Rattle.iso_history.proofs.phantoms.VersionsAfter.{versions-adds, versions-settles, versions-takes, versions-writes, versions_in}
use Rattle.iso_history.specs.After.{after}
use Rattle.iso_history.specs.Orders.{VersionsLogged}
use Rattle.iso_history.specs.Records.{last_left, left, left_by, left_from, no_note, note_of, records_by}
use Rattle.iso_history.specs.Units.{unit_of_maker}
use Rattle.iso_history.specs.Versions.{Change, change_of, pending_version, settled_by, tables_by, versions}
use Rattle.iso_history.specs.Versions.Change.{Adds, Keeps, Settles, Takes, Writes}
use Rattle.iso_history.specs.World.{Note, Version, World}
use Rattle.iso_history.specs.declared.entry.Entry.{Entry}
use Rattle.iso_types.specs.declared.head.Head.{Head}
use Rattle.iso_types.specs.declared.value.Rid.{Rid}
use Rattle.iso_types.specs.declared.value.TableId.{TableId}
use Rattle.iso_types.specs.declared.value.Value.{Value}

-- these records are of the unit
abbrev pub AllOwned : List Note → ℕ → List ℕ → Type 0
AllOwned notes u [] = Unit {0}
AllOwned notes u (m ∷ ms) = ((note_of notes m).unit ≡ u) × AllOwned notes u ms

owned-filter : (notes : List Note) (u : ℕ) (p : ℕ → Bool) (ms : List ℕ) → AllOwned notes u ms → AllOwned notes u (filter p ms)
owned-filter notes u p [] a = tt
owned-filter notes u p (m ∷ ms) a = go (owned-filter notes u p ms a.1) (p m) refl
  where
    go : AllOwned notes u (filter p ms) → (b : Bool) → p m ≡ b → AllOwned notes u (filter p (m ∷ ms))
    go ih true e = rw e (a.0, ih)
    go ih false e = rw e ih

owned-by : (u k : ℕ) (acc : List ℕ) (notes : List Note) (n : Note) → note_of notes k ≡ n → AllOwned notes u acc → AllOwned notes u (left_by u k acc n)
owned-by u k acc notes n at a = go (n.unit == u) refl n.undoes refl
  where
    go : (b : Bool) → (n.unit == u) ≡ b → (o : Option ℕ) → n.undoes ≡ o → AllOwned notes u (left_by u k acc n)
    go false e o f = rw e a
    go true e None f = rw (e, f) (ap (λ (z : Note). z.unit) at ∙ eqb-true n.unit u e, a)
    go true e (Some m) f = rw (e, f) (owned-filter notes u (λ x. not (x == m)) acc a)

owned-from : (u : ℕ) (acc : List ℕ) (pre ns : List Note) → AllOwned (pre ++ ns) u acc → AllOwned (pre ++ ns) u (left_from u (length pre) acc ns)
owned-from u acc pre [] a = a
owned-from u acc pre (n ∷ ns) a =
    let s : (pre ++ n ∷ []) ++ ns ≡ pre ++ n ∷ ns = append_assoc pre (n ∷ []) ns in
    let l : length (pre ++ n ∷ []) ≡ length pre + 1 = length-append pre (n ∷ []) in
    let b : AllOwned (pre ++ n ∷ ns) u (left_by u (length pre) acc n) = owned-by u (length pre) acc (pre ++ n ∷ ns) n (get_or-append_seam pre n ns no_note) a in
    let c : AllOwned ((pre ++ n ∷ []) ++ ns) u (left_by u (length pre) acc n) = subst (λ (z : List Note). AllOwned z u (left_by u (length pre) acc n))
    (sym s) b in
    subst (λ (z : List Note). AllOwned z u (left_from u (length pre + 1) (left_by u (length pre) acc n) ns)) s
    (subst (λ (k : ℕ). AllOwned ((pre ++ n ∷ []) ++ ns) u (left_from u k (left_by u (length pre) acc n) ns)) l
    (owned-from u (left_by u (length pre) acc n) (pre ++ n ∷ []) ns c))

-- the greatest record that a unit has left is of that unit
pub last-owned : (w : World) (u n : ℕ) → last_left w u ≡ Some n → (note_of w.records n).unit ≡ u
last-owned w u n e = go (left w.records u) (owned-from u [] [] w.records tt) e
  where
    go : (ms : List ℕ) → AllOwned w.records u ms → slice_get ms 0 ≡ Some n → (note_of w.records n).unit ≡ u
    go [] a e = cc
    go (m ∷ ms) a e = let s : m ≡ n = cc in subst (λ (k : ℕ). (note_of w.records k).unit ≡ u) s a.0

-- what settling leaves pending stood there before
pub in-settled_pending : (u : ℕ) (v : Version) (vs : List Version) → v.pending ≡ true → Contains (settled_by u vs) v → Contains vs v
in-settled_pending u v [] p h = h
in-settled_pending u v (x ∷ vs) p h = go (in-settled_pending u v vs p) (x.pending && (x.unit == u)) refl
  where
    off : v ≡ record x { pending = false } → ⊥
    off s = let z : v.pending ≡ false = ap (λ (y : Version). y.pending) s in let q : true ≡ false = sym p ∙ z in cc

    go : (Contains (settled_by u vs) v → Contains vs v) → (b : Bool) → (x.pending && (x.unit == u)) ≡ b → Contains (x ∷ vs) v
    go ih true e = elim (in-cases (record x { pending = false }) v [] (rw e at h)) [ inl s ↦ absurd (off s) | inr s ↦ absurd (in-none v s) ]
    go ih false e = elim (in-cases x v (settled_by u vs) (rw e at h)) [
      | inl s ↦ subst (λ (z : Version). Contains (x ∷ vs) z) (sym s) (in-first x vs)
      | inr s ↦ in-rest x v vs (ih s)
    ]

-- a fact of a version's number and unit over these records
abbrev pub Logs : List Note → Version → Type 0
Logs notes v = (v.number < length notes) × ((note_of notes v.number).unit ≡ v.unit)

logs-more : (notes : List Note) (n : Note) (v : Version) → Logs notes v → Logs (notes ++ n ∷ []) v
logs-more notes n v l =
    let k : length (notes ++ n ∷ []) ≡ length notes + 1 = length-append notes (n ∷ []) in let lt = l.0 in
    (omega (arith, k, lt), ap (λ (z : Note). z.unit) (get_or-append notes (n ∷ []) no_note v.number l.0) ∙ l.1)

logs-new : (notes : List Note) (n : Note) (u : ℕ) (row : Option (List Value)) → n.unit ≡ u
    → Logs (notes ++ n ∷ []) (record { unit = u; number = length notes; row = row; pending = true })
logs-new notes n u row e =
    let k : length (notes ++ n ∷ []) ≡ length notes + 1 = length-append notes (n ∷ []) in
    (omega (arith, k), ap (λ (z : Note). z.unit) (get_or-append_seam notes n [] no_note) ∙ e)

-- each effect leaves pending versions logged
pub logged-change : (w : World) (u : ℕ) (ch : Change) → VersionsLogged w → (t : TableId) (r : Rid) (v : Version)
    → Contains (versions_in (tables_by w u ch) t r) v → v.pending ≡ true
    → Logs (records_by w u ch) v
unfolding VersionsLogged
logged-change w u Keeps l t r v h p = l t r v h p
logged-change w u (Adds x row) l t r v h p = elim (versions-adds w u x row t r) [
  | inl e ↦ logs-more w.records _ v (l t r v (subst (λ (z : List Version). Contains z v) e h) p)
  | inr e ↦ elim (in-cases (pending_version w u (Some row)) v [] (subst (λ (z : List Version). Contains z v) e.2 h)) [
    | inl s ↦ subst (Logs (records_by w u (Adds x row))) (sym s) (logs-new w.records _ u (Some row) refl)
    | inr s ↦ absurd (in-none v s)
  ]
]
logged-change w u (Writes x y row) l t r v h p = elim (versions-writes w u x y row t r) [
  | inl e ↦ logs-more w.records _ v (l t r v (subst (λ (z : List Version). Contains z v) e h) p)
  | inr e ↦ elim (in-cases (pending_version w u row) v (versions w x y) (subst (λ (z : List Version). Contains z v) e.2 h)) [
    | inl s ↦ subst (Logs (records_by w u (Writes x y row))) (sym s) (logs-new w.records _ u row refl)
    | inr s ↦ logs-more w.records _ v (l x y v s p)
  ]
]
logged-change w u (Takes n) l t r v h p =
    logs-more w.records _ v (l t r v (in-filter _ v (versions w t r) (subst (λ (z : List Version). Contains z v) (versions-takes w u n t r) h)) p)
logged-change w u Settles l t r v h p =
    l t r v (in-settled_pending u v (versions w t r) p (subst (λ (z : List Version). Contains z v) (versions-settles w u t r) h)) p

-- so does each entry
pub logged-after : (head : Head) (w : World) (e : Entry) → VersionsLogged w → VersionsLogged (after head w e)
unfolding VersionsLogged
logged-after head w e l = logged-change w (unit_of_maker w e.who) (change_of e.act) l
