-- Pending versions stand in piles, in the order of their records.
use Rattle.std.proofs.Common.{◌≡◌, ◌<◌, ◌≤◌, ◌⊎◌, inl, inr, ℕ, Bool, true, false, ◌&&◌, List, [], ◌∷◌, ◌++◌, length, refl, ap, sym, ◌∙◌, arith, Some, None, Option, subst, filter}
use Rattle.std.specs.Prelude.{◌==◌}
use Rattle.std.proofs.lemmas.Bool.Decides.{nat_tests}
use Rattle.iso_history.proofs.pending.Conns.{no-both}
use Rattle.iso_types.specs.declared.value.Value.{Value}
use Rattle.iso_history.proofs.pending.Left.{has-more, has-owned, new-left, note_of-more, note_of-new}
use Rattle.iso_history.proofs.pending.Slots.{add-cases, set-cases, versions_at, versions-mapped}
use Rattle.iso_history.specs.After.{after}
use Rattle.iso_history.specs.Piles.{AllPiled, IsPiled, NonePending, Piled, Under}
use Rattle.iso_history.specs.Records.{change_note, note_of, records_by}
use Rattle.iso_history.specs.Units.{unit_of_maker}
use Rattle.iso_history.specs.Versions.{Change, change_of, head_record, next_rid, pending_version, settled_by, slots, tables_by, taken_off, versions}
use Rattle.iso_history.specs.Versions.Change.{Adds, Keeps, Settles, Takes, Writes}
use Rattle.iso_history.specs.World.{Note, Version, World}
use Rattle.iso_history.specs.declared.entry.Entry.{Entry}
use Rattle.iso_types.specs.declared.head.Head.{Head}
use Rattle.iso_types.specs.declared.value.Rid.{Rid}
use Rattle.iso_types.specs.declared.value.TableId.{TableId}

pub Under-more : (a b : ℕ) (vs : List Version) → a ≤ b → Under a vs → Under b vs
Under-more a b [] le h = tt
Under-more a b (v ∷ vs) le h = ((λ p. let k = h.0 p in omega arith), Under-more a b vs le h.1)

pub Under-filter : (k : ℕ) (q : Version → Bool) (vs : List Version) → Under k vs → Under k (filter q vs)
Under-filter k q [] h = tt
Under-filter k q (v ∷ vs) h = go (Under-filter k q vs h.1) (q v) refl
  where
    go : Under k (filter q vs) → (b : Bool) → q v ≡ b → Under k (filter q (v ∷ vs))
    go ih true e = rw e (h.0, ih)
    go ih false e = rw e ih

None-filter : (q : Version → Bool) (vs : List Version) → NonePending vs → NonePending (filter q vs)
None-filter q [] h = tt
None-filter q (v ∷ vs) h = go (None-filter q vs h.1) (q v) refl
  where
    go : NonePending (filter q vs) → (b : Bool) → q v ≡ b → NonePending (filter q (v ∷ vs))
    go ih true e = rw e (h.0, ih)
    go ih false e = rw e ih

-- a pile's numbers are records
pub Under-piled : (notes : List Note) (t : TableId) (r : Rid) (vs : List Version) → Piled notes t r vs → Under (length notes) vs
Under-piled notes t r [] h = tt
Under-piled notes t r (v ∷ vs) h = ((λ p. (has-owned notes v.unit v.number (h.0 p).is_left).0), Under-piled notes t r vs h.2)

-- one more record, that does not undo the version's
piled-one : (notes : List Note) (n : Note) (t : TableId) (r : Rid) (v : Version) (vs ws : List Version) → (n.undoes ≡ Some v.number → ⊥)
    → Under v.number ws → IsPiled notes t r v vs → IsPiled (notes ++ n ∷ []) t r v ws
piled-one notes n t r v vs ws ne un q =
    let lt : v.number < length notes = (has-owned notes v.unit v.number q.is_left).0 in
    record {
      table = ap (λ z. z.table) (note_of-more notes n v.number lt) ∙ q.table;
      rid = ap (λ z. z.rid) (note_of-more notes n v.number lt) ∙ q.rid;
      is_left = has-more notes n v.unit v.number ne q.is_left;
      under = un;
    }

Piled-add : (notes : List Note) (n : Note) (t : TableId) (r : Rid) (vs : List Version) → n.undoes ≡ None → Piled notes t r vs → Piled (notes ++ n ∷ []) t r vs
Piled-add notes n t r [] none h = tt
Piled-add notes n t r (v ∷ vs) none h = ((λ p. piled-one notes n t r v vs vs never (h.0 p).under (h.0 p)), h.1, Piled-add notes n t r vs none h.2)
  where
    never : n.undoes ≡ Some v.number → ⊥
    never e = cc

Piled-take : (notes : List Note) (n : Note) (m : ℕ) (t : TableId) (r : Rid) (vs : List Version) → n.undoes ≡ Some m → Piled notes t r vs
    → Piled (notes ++ n ∷ []) t r (taken_off m vs)
Piled-take notes n m t r [] is h = tt
Piled-take notes n m t r (v ∷ vs) is h = go (Piled-take notes n m t r vs is h.2) (v.pending && (v.number == m)) refl
  where
    undone : n.undoes ≡ Some v.number → v.number ≡ m
    undone e = cc

    go : Piled (notes ++ n ∷ []) t r (taken_off m vs) → (b : Bool) → (v.pending && (v.number == m)) ≡ b → Piled (notes ++ n ∷ []) t r (taken_off m (v ∷ vs))
    go ih true e = rw e ih
    go ih false e = rw e (
      (λ p. piled-one notes n t r v vs (taken_off m vs) (λ z. differ p (undone z)) (Under-filter v.number _ vs (h.0 p).under) (h.0 p)),
      (λ p. None-filter _ vs (h.1 p)),
      ih,
    )
      where
        differ : v.pending ≡ true → v.number ≡ m → ⊥
        differ p q = let k : (v.number == m) ≡ true = grind (arith, nat_tests) in absurd (no-both (rw (p, k) refl) e)

Under-settled : (k u : ℕ) (vs : List Version) → Under k vs → Under k (settled_by u vs)
Under-settled k u [] h = tt
Under-settled k u (v ∷ vs) h = go (Under-settled k u vs h.1) (v.pending && (v.unit == u)) refl
  where
    go : Under k (settled_by u vs) → (b : Bool) → (v.pending && (v.unit == u)) ≡ b → Under k (settled_by u (v ∷ vs))
    go ih true e = rw e ((λ p. absurd (cc)), tt)
    go ih false e = rw e (h.0, ih)

None-settled : (u : ℕ) (vs : List Version) → NonePending vs → NonePending (settled_by u vs)
None-settled u [] h = tt
None-settled u (v ∷ vs) h = let e : (v.pending && (v.unit == u)) ≡ false = rw h.0 refl in rw e (h.0, None-settled u vs h.1)

Piled-settled : (notes : List Note) (t : TableId) (r : Rid) (u : ℕ) (vs : List Version) → Piled notes t r vs → Piled notes t r (settled_by u vs)
Piled-settled notes t r u [] h = tt
Piled-settled notes t r u (v ∷ vs) h = go (Piled-settled notes t r u vs h.2) (v.pending && (v.unit == u)) refl
  where
    go : Piled notes t r (settled_by u vs) → (b : Bool) → (v.pending && (v.unit == u)) ≡ b → Piled notes t r (settled_by u (v ∷ vs))
    go ih true e = rw e ((λ p. absurd (cc)), (λ p. tt), tt)
    go ih false e = rw e (
      (λ p. let q = h.0 p in record { table = q.table; rid = q.rid; is_left = q.is_left; under = Under-settled v.number u vs q.under }),
      (λ p. None-settled u vs (h.1 p)),
      ih,
    )

-- a new version on a pile
Piled-new : (w : World) (u : ℕ) (t : TableId) (r : Rid) (row : Option (List Value)) (prev : Option ℕ) (vs : List Version) → Piled w.records t r vs
    → Piled (w.records ++ change_note w u t r prev ∷ []) t r (pending_version w u row ∷ vs)
Piled-new w u t r row prev vs h = (
  (λ p. record {
    table = ap (λ z. z.table) (note_of-new w.records (change_note w u t r prev));
    rid = ap (λ z. z.rid) (note_of-new w.records (change_note w u t r prev));
    is_left = new-left w.records (change_note w u t r prev) refl;
    under = Under-piled w.records t r vs h;
  }),
  (λ p. absurd (cc)),
  Piled-add w.records (change_note w u t r prev) t r vs refl h,
)

-- one law for each change
change-piled : (w : World) (u : ℕ) (ch : Change) → AllPiled w → (t : TableId) (r : Rid) → Piled (records_by w u ch) t r (versions_at (tables_by w u ch) t r)
unfolding AllPiled
change-piled w u Keeps s t r = s t r
change-piled w u (Adds k row) s t r = go (add-cases w.tables k (pending_version w u (Some row) ∷ []) t r)
  where
    made : Note
    made = change_note w u k (next_rid w k) None

    new : List (List (List Version))
    new = tables_by w u (Adds k row)

    go : (versions_at new t r ≡ versions_at w.tables t r) ⊎ ((t ≡ k) × (r.0 ≡ slots w k) × (versions_at new t r ≡ pending_version w u (Some row) ∷ []))
        → Piled (w.records ++ made ∷ []) t r (versions_at new t r)
    go (inl e) = subst (Piled (w.records ++ made ∷ []) t r) (sym e) (Piled-add w.records made t r (versions_at w.tables t r) refl (s t r))
    go (inr p) =
        let is : r ≡ next_rid w k = ap (λ (n : ℕ). record { 0 = n }) p.1 in
        subst (Piled (w.records ++ made ∷ []) t r) (sym p.2)
        (subst (λ (z : TableId). Piled (w.records ++ made ∷ []) z r (pending_version w u (Some row) ∷ [])) (sym p.0)
        (subst (λ (z : Rid). Piled (w.records ++ made ∷ []) k z (pending_version w u (Some row) ∷ [])) (sym is)
        (Piled-new w u k (next_rid w k) (Some row) None [] tt)))
change-piled w u (Writes k q row) s t r = go (set-cases w.tables k q (pending_version w u row ∷ versions w k q) t r)
  where
    made : Note
    made = change_note w u k q (head_record (versions w k q))

    new : List (List (List Version))
    new = tables_by w u (Writes k q row)

    go : (versions_at new t r ≡ versions_at w.tables t r) ⊎ ((t ≡ k) × (r ≡ q) × (versions_at new t r ≡ pending_version w u row ∷ versions w k q))
        → Piled (w.records ++ made ∷ []) t r (versions_at new t r)
    go (inl e) = subst (Piled (w.records ++ made ∷ []) t r) (sym e) (Piled-add w.records made t r (versions_at w.tables t r) refl (s t r))
    go (inr p) =
        subst (Piled (w.records ++ made ∷ []) t r) (sym p.2)
        (subst (λ (z : TableId). Piled (w.records ++ made ∷ []) z r (pending_version w u row ∷ versions w k q)) (sym p.0)
        (subst (λ (z : Rid). Piled (w.records ++ made ∷ []) k z (pending_version w u row ∷ versions w k q)) (sym p.1)
        (Piled-new w u k q row (head_record (versions w k q)) (versions w k q) (s k q))))
change-piled w u (Takes n) s t r = subst (Piled (w.records ++ made ∷ []) t r) (sym (versions-mapped (taken_off n) refl w.tables t r))
    (Piled-take w.records made n t r (versions_at w.tables t r) refl (s t r))
  where
    made : Note
    made = record (note_of w.records n) { unit = u; undoes = Some n }
change-piled w u Settles s t r = subst (Piled w.records t r) (sym (versions-mapped (settled_by u) refl w.tables t r))
    (Piled-settled w.records t r u (versions_at w.tables t r) (s t r))

pub piled-after : (head : Head) (w : World) (e : Entry) → AllPiled w → AllPiled (after head w e)
unfolding AllPiled
piled-after head w e s = change-piled w (unit_of_maker w e.who) (change_of e.act) s
