-- Each pending version has its record, whatever entry comes.
use Rattle.std.proofs.Common.{◌≡◌, ◌≢◌, ◌<◌, ◌⊎◌, inl, inr, ℕ, Bool, true, false, ◌&&◌, List, [], ◌∷◌, ◌++◌, length, refl, ap, sym, ◌∙◌, arith, length-append, Some, None, Option, subst, get_or}
use Rattle.std.specs.Prelude.{◌==◌, slice_set, IfSome}
use Rattle.std.proofs.Math.ListN.{get_or-append}
use Rattle.std.proofs.Math.Seq.{get_or-append_seam}
use Rattle.std.proofs.lemmas.Bool.Decides.{nat_tests}
use Rattle.iso_history.specs.Changes.{change_at, change_to, changes_by, no_change}
use Rattle.iso_history.specs.Piles.{AllOfUnit, HasNone, OneUnit}
use Rattle.iso_history.specs.Recorded.{AllRecorded, ChangeFits, IsRecorded, LeadsTo, Recorded, TakesTop, below, versions_in}
use Rattle.iso_history.specs.Records.{change_note, no_note, note_of, records_by}
use Rattle.iso_history.specs.Versions.{Change as Effect, head_record, next_rid, pending_version, present, settled_by, tables_by, taken_off, versions}
use Rattle.iso_history.specs.Versions.Change.{Adds, Keeps, Settles, Takes, Writes}
use Rattle.iso_history.specs.World.{Note, Version, World}
use Rattle.iso_record.specs.declared.record.Change.{Change}
use Rattle.iso_record.specs.declared.record.Change.TheVariants.{Insert, Undone}
use Rattle.iso_types.specs.declared.value.Rid.{Rid}
use Rattle.iso_types.specs.declared.value.TableId.{TableId}
use Rattle.iso_types.specs.declared.value.Value.{Value}
use Rattle.iso_history.proofs.log.Cells.{cell, cell-add_other, cell-add_same, cell-map, cell-set_other, cell-set_same, place}
use Rattle.iso_record.proofs.Restored.{columns-olds, restored-olds}

-- the log grows
Recorded-more : (notes : List Note) (changes : List Change) (n : Note) (c : Change) (vs : List Version) → length changes ≡ length notes
    → Recorded notes changes vs → Recorded (notes ++ n ∷ []) (changes ++ c ∷ []) vs
Recorded-more notes changes n c [] same h = tt
Recorded-more notes changes n c (v ∷ vs) same h = (
  (λ p. let r = h.0 p in
      let note : note_of (notes ++ n ∷ []) v.number ≡ note_of notes v.number = get_or-append notes (n ∷ []) no_note v.number r.within in
      let change : change_at (changes ++ c ∷ []) v.number
      ≡ change_at changes v.number = get_or-append changes (c ∷ []) no_change v.number (omega (arith, same, r.within)) in
      record {
        within = simp length-append (omega (arith, r.within));
        unit = ap (λ z. z.unit) note ∙ r.unit;
        prev_row = ap (λ z. z.prev_row) note ∙ r.prev_row;
        change = subst (λ (z : Change). LeadsTo z vs v.row) (sym change) r.change;
      }),
  Recorded-more notes changes n c vs same h.1,
)

-- what the record of a new version says
new-recorded : (notes : List Note) (changes : List Change) (n : Note) (c : Change) (v : Version) (vs : List Version) → length changes ≡ length notes
    → v.number ≡ length notes → n.unit ≡ v.unit → n.prev_row ≡ head_record vs → LeadsTo c vs v.row
    → IsRecorded (notes ++ n ∷ []) (changes ++ c ∷ []) v vs
new-recorded notes changes n c v vs same number unit prev leads =
    let note : note_of (notes ++ n ∷ []) v.number ≡ n = rw number (get_or-append_seam notes n [] no_note) in
    let change : change_at (changes ++ c ∷ []) v.number ≡ c = rw (number, ← same) (get_or-append_seam changes c [] no_change) in
    record {
      within = simp length-append (omega (arith, number));
      unit = ap (λ z. z.unit) note ∙ unit;
      prev_row = ap (λ z. z.prev_row) note ∙ prev;
      change = subst (λ (z : Change). LeadsTo z vs v.row) (sym change) leads;
    }

-- a write leads to its content
write-leads : (vs : List Version) (old : List Value) (row : Option (List Value)) → present vs ≡ Some old → IfSome row (λ new. length new ≡ length old)
    → LeadsTo (change_to (present vs) row) vs row
write-leads vs old None e wide = (refl, rw e refl)
write-leads vs old (Some new) e wide = rw e (new, refl, ap Some (sym (restored-olds old new wide)), columns-olds old new wide)

Recorded-below : (notes : List Note) (changes : List Change) (vs : List Version) → Recorded notes changes vs → Recorded notes changes (below vs)
Recorded-below notes changes [] h = tt
Recorded-below notes changes (v ∷ vs) h = h.1

Recorded-taken : (notes : List Note) (changes : List Change) (n : ℕ) (vs : List Version) → TakesTop n vs → Recorded notes changes vs
    → Recorded notes changes (taken_off n vs)
Recorded-taken notes changes n vs (inl e) h = subst (Recorded notes changes) (sym e) h
Recorded-taken notes changes n vs (inr e) h = subst (Recorded notes changes) (sym e) (Recorded-below notes changes vs h)

-- a unit without a pending version settles nothing
pub settled-none : (u : ℕ) (vs : List Version) → HasNone u vs → settled_by u vs ≡ vs
settled-none u [] h = refl
settled-none u (v ∷ vs) h = go (settled-none u vs h.1) (v.pending && (v.unit == u)) refl
  where
    go : settled_by u vs ≡ vs → (b : Bool) → (v.pending && (v.unit == u)) ≡ b → settled_by u (v ∷ vs) ≡ v ∷ vs
    go ih false e = rw e (ap (λ (l : List Version). v ∷ l) ih)
    go ih true e = let p : v.pending ≡ true = grind arith in let q : v.unit ≡ u = grind (arith, nat_tests) in absurd (h.0 p q)

-- what is pending is another unit's
pub none-of : (u x : ℕ) (vs : List Version) → u ≢ x → AllOfUnit x vs → HasNone u vs
none-of u x [] ne h = tt
none-of u x (v ∷ vs) ne h = ((λ p q. ne (sym q ∙ h.0 p)), none-of u x vs ne h.1)

Recorded-settled : (notes : List Note) (changes : List Change) (u : ℕ) (vs : List Version) → OneUnit vs → Recorded notes changes vs
    → Recorded notes changes (settled_by u vs)
Recorded-settled notes changes u [] one h = tt
Recorded-settled notes changes u (v ∷ vs) one h = go (Recorded-settled notes changes u vs one.1 h.1) (v.pending && (v.unit == u)) refl
  where
    go : Recorded notes changes (settled_by u vs) → (b : Bool) → (v.pending && (v.unit == u)) ≡ b → Recorded notes changes (settled_by u (v ∷ vs))
    go ih true e = rw e ((λ p. absurd (cc)), tt)
    go ih false e = rw e (
      (λ p. let ne : u ≢ v.unit = (λ q. let k : (v.unit == u) ≡ true = grind (arith, nat_tests) in
          let l : (v.pending && (v.unit == u)) ≡ true = rw (p, k) refl in
          cc) in
          subst (λ (l : List Version). IsRecorded notes changes v l) (sym (settled-none u vs (none-of u v.unit vs ne (one.0 p)))) (h.0 p)),
      ih,
    )

-- each slot, with one more, with another at one place, and with all changed
Recorded-add : (notes : List Note) (changes : List Change) (tables : List (List (List Version))) (t : TableId) (vs : List Version) → t.0 < length tables
    → Recorded notes changes vs → ((u : TableId) (q : Rid) → Recorded notes changes (versions_in tables u q))
    → (u : TableId) (q : Rid) → Recorded notes changes (versions_in (slice_set tables t.0 (get_or tables t.0 [] ++ vs ∷ [])) u q)
Recorded-add notes changes tables t vs lt this others u q = go (place u.0 q.0 t.0 (length (get_or tables t.0 [])))
  where
    go : ((u.0 ≡ t.0) × (q.0 ≡ length (get_or tables t.0 []))) ⊎ ((u.0 ≢ t.0) ⊎ ((u.0 ≡ t.0) × (q.0 ≢ length (get_or tables t.0 []))))
        → Recorded notes changes (cell [] (slice_set tables t.0 (get_or tables t.0 [] ++ vs ∷ [])) u.0 q.0)
    go (inl (e, f)) = rw (e, f) (subst (Recorded notes changes) (sym (cell-add_same [] tables t.0 vs lt)) this)
    go (inr ne) = subst (Recorded notes changes) (sym (cell-add_other [] tables t.0 vs u.0 q.0 ne)) (others u q)

Recorded-set : (notes : List Note) (changes : List Change) (tables : List (List (List Version))) (t : TableId) (r : Rid) (vs : List Version)
    → t.0 < length tables
    → r.0 < length (get_or tables t.0 []) → Recorded notes changes vs → ((u : TableId) (q : Rid) → Recorded notes changes (versions_in tables u q))
    → (u : TableId) (q : Rid) → Recorded notes changes (versions_in (slice_set tables t.0 (slice_set (get_or tables t.0 []) r.0 vs)) u q)
Recorded-set notes changes tables t r vs lt lr this others u q = go (place u.0 q.0 t.0 r.0)
  where
    go : ((u.0 ≡ t.0) × (q.0 ≡ r.0)) ⊎ ((u.0 ≢ t.0) ⊎ ((u.0 ≡ t.0) × (q.0 ≢ r.0)))
        → Recorded notes changes (cell [] (slice_set tables t.0 (slice_set (get_or tables t.0 []) r.0 vs)) u.0 q.0)
    go (inl (e, f)) = rw (e, f) (subst (Recorded notes changes) (sym (cell-set_same [] tables t.0 r.0 vs lt lr)) this)
    go (inr ne) = subst (Recorded notes changes) (sym (cell-set_other [] tables t.0 r.0 vs u.0 q.0 ne)) (others u q)

same-more : {A B : Type 0} (xs : List A) (ys : List B) (x : A) (y : B) → length xs ≡ length ys → length (xs ++ x ∷ []) ≡ length (ys ++ y ∷ [])
same-more xs ys x y e = simp length-append (omega (arith, e))

pub change-recorded : (w : World) (u : ℕ) (ch : Effect) → ChangeFits w ch → AllRecorded w.records w.changes w.tables
    → AllRecorded (records_by w u ch) (changes_by w ch) (tables_by w u ch)
change-recorded w u Keeps fits s = s
change-recorded w u (Adds t row) lt s = record {
  same = same-more w.changes w.records _ _ s.same;
  each = Recorded-add (w.records ++ note ∷ []) (w.changes ++ Insert ∷ []) w.tables t (pending_version w u (Some row) ∷ []) lt
      ((λ p. new-recorded w.records w.changes note Insert (pending_version w u (Some row)) [] s.same refl refl refl (refl, refl)), tt)
      (λ x q. Recorded-more w.records w.changes note Insert _ s.same (s.each x q));
}
  where
    note : Note
    note = change_note w u t (next_rid w t) None
change-recorded w u (Writes t r row) (lt, lr, old, is, wide) s = record {
  same = same-more w.changes w.records _ _ s.same;
  each = Recorded-set (w.records ++ note ∷ []) (w.changes ++ change ∷ []) w.tables t r (pending_version w u row ∷ versions w t r) lt lr (
    (λ p. new-recorded w.records w.changes note change (pending_version w u row) (versions w t r) s.same refl refl refl
        (write-leads (versions w t r) old row is wide)),
    Recorded-more w.records w.changes note change _ s.same (s.each t r),
  )
      (λ x q. Recorded-more w.records w.changes note change _ s.same (s.each x q));
}
  where
    note : Note
    note = change_note w u t r (head_record (versions w t r))

    change : Change
    change = change_to (present (versions w t r)) row
change-recorded w u (Takes n) fits s = record {
  same = same-more w.changes w.records _ _ s.same;
  each = λ x q. subst (Recorded _ _) (sym (cell-map [] (taken_off n) refl w.tables x.0 q.0))
      (Recorded-taken _ _ n (versions w x q) (fits x q) (Recorded-more w.records w.changes _ (Undone n) _ s.same (s.each x q)));
}
change-recorded w u Settles fits s = record {
  same = s.same;
  each = λ x q. subst (Recorded w.records w.changes) (sym (cell-map [] (settled_by u) refl w.tables x.0 q.0))
      (Recorded-settled w.records w.changes u (versions w x q) (fits x q) (s.each x q));
}
