-- What the steps share.
use Rattle.std.proofs.Common.{◌≡◌, ◌≢◌, ◌<◌, ◌+◌, ◌⊎◌, inl, inr, ℕ, List, [], ◌∷◌, ◌++◌, length, refl, ap, sym, ◌∙◌, arith, length-append, Some, None, Option, subst, get_or-set_same, get_or-set_other}
use Rattle.std.specs.Option.{option_map}
use Rattle.std.specs.Prelude.{slice_set, slice_index_or, unwrap_or}
use Rattle.std.proofs.Math.ListN.{get_or-append, length-set}
use Rattle.std.proofs.Math.Seq.{get_or-append_seam}
use Rattle.std.proofs.lemmas.List.{map-append}
use Rattle.iso_history.specs.Recorded.{versions_in}
use Rattle.iso_history.specs.World.{MarkAt, Note, Version, World}
use Rattle.iso_history.proofs.log.Cells.{cell-add_other, cell-add_same, cell-set_other, cell-set_same, place, row-length_add, row-length_set}
use Rattle.iso_history.proofs.log.Lefts.{first-other, left-other}
use Rattle.iso_record.specs.declared.record.Change.{Change}
use Rattle.iso_record.specs.declared.record.Record.{Record}
use Rattle.iso_table.specs.Slots.{no_slot}
use Rattle.iso_table.specs.declared.slot.Slot.{Slot}
use Rattle.iso_types.specs.declared.value.Conn.{Conn}
use Rattle.iso_types.specs.declared.value.Rid.{Rid}
use Rattle.iso_types.specs.declared.value.TableId.{TableId}
use Rattle.iso_uow.specs.Book.{no_work, with_work, work_at}
use Rattle.iso_uow.specs.declared.units.Work.{Work}
use Rattle.iso_chain.specs.Facts.{UnitsDiffer}
use Rattle.iso_chain.specs.Logs.{LogStands, no_record, note_of_record, record_at}
use Rattle.iso_chain.specs.Slots.{SlotStands, SlotsStand, slot_in, slots_of}
use Rattle.iso_chain.specs.Stands.{AreChained, Chained}
use Rattle.iso_chain.specs.Works.{WorksStand, work_of_unit}
use Rattle.iso_chain.specs.Writes.{own_work, with_more, with_slot}

-- one slot is another, and all others stand for the new versions as they are
pub slots-to : (tables : List (List Slot)) (world world2 : List (List (List Version))) (t : TableId) (r : Rid) (s : Slot) → SlotsStand tables world
    → length world2 ≡ length world → ((u : TableId) → length (slice_index_or world2 u.0 []) ≡ length (slice_index_or world u.0 []))
    → t.0 < length world → r.0 < length (slice_index_or world t.0 []) → SlotStands s (versions_in world2 t r)
    → ((u : TableId) (q : Rid) → (u.0 ≢ t.0) ⊎ ((u.0 ≡ t.0) × (q.0 ≢ r.0)) → versions_in world2 u q ≡ versions_in world u q)
    → SlotsStand (with_slot tables t r s) world2
slots-to tables world world2 t r s old wide long lt lr this others = record {
  wide = length-set tables t.0 _ ∙ old.wide ∙ sym wide;
  long = λ u. row-length_set tables t.0 r.0 s u.0 ∙ old.long u ∙ sym (long u);
  each = λ u q. go u q (place u.0 q.0 t.0 r.0);
}
  where
    in-tables : t.0 < length tables
    in-tables = let e = old.wide in omega (arith, e, lt)

    in-slots : r.0 < length (slots_of tables t)
    in-slots = let e = old.long t in omega (arith, e, lr)

    go : (u : TableId) (q : Rid) → ((u.0 ≡ t.0) × (q.0 ≡ r.0)) ⊎ ((u.0 ≢ t.0) ⊎ ((u.0 ≡ t.0) × (q.0 ≢ r.0)))
        → SlotStands (slot_in (with_slot tables t r s) u q) (versions_in world2 u q)
    go u q (inl (e, f)) = rw (e, f) (subst (λ (z : Slot). SlotStands z (versions_in world2 t r))
        (sym (cell-set_same no_slot tables t.0 r.0 s in-tables in-slots)) this)
    go u q (inr ne) =
        subst (λ (z : Slot). SlotStands z (versions_in world2 u q)) (sym (cell-set_other no_slot tables t.0 r.0 s u.0 q.0 ne))
        (subst (λ (vs : List Version). SlotStands (slot_in tables u q) vs) (sym (others u q ne)) (old.each u q))

-- one slot and its versions are others
pub slots-set : (tables : List (List Slot)) (world : List (List (List Version))) (t : TableId) (r : Rid) (s : Slot) (vs : List Version)
    → SlotsStand tables world
    → t.0 < length world → r.0 < length (slice_index_or world t.0 []) → SlotStands s vs
    → SlotsStand (with_slot tables t r s) (slice_set world t.0 (slice_set (slice_index_or world t.0 []) r.0 vs))
slots-set tables world t r s vs old lt lr this =
    slots-to tables world _ t r s old (length-set world t.0 _) (λ u. row-length_set world t.0 r.0 vs u.0) lt lr
    (subst (λ (l : List Version). SlotStands s l) (sym (cell-set_same [] world t.0 r.0 vs lt lr)) this)
    (λ u q ne. cell-set_other [] world t.0 r.0 vs u.0 q.0 ne)

-- one more slot
pub slots-add : (tables : List (List Slot)) (world : List (List (List Version))) (t : TableId) (s : Slot) (vs : List Version) → SlotsStand tables world
    → t.0 < length world → SlotStands s vs → SlotsStand (with_more tables t s) (slice_set world t.0 (slice_index_or world t.0 [] ++ vs ∷ []))
slots-add tables world t s vs old lt this = record {
  wide = length-set tables t.0 _ ∙ old.wide ∙ sym (length-set world t.0 _);
  long = λ u. row-length_add tables world t.0 s vs old.wide (λ k. old.long (record { 0 = k })) u.0;
  each = λ u q. go u q (place u.0 q.0 t.0 (length (slots_of tables t)));
}
  where
    in-tables : t.0 < length tables
    in-tables = let e = old.wide in omega (arith, e, lt)

    go : (u : TableId) (q : Rid) → ((u.0 ≡ t.0) × (q.0 ≡ length (slots_of tables t))) ⊎ ((u.0 ≢ t.0) ⊎ ((u.0 ≡ t.0) × (q.0 ≢ length (slots_of tables t))))
        → SlotStands (slot_in (with_more tables t s) u q) (versions_in (slice_set world t.0 (slice_index_or world t.0 [] ++ vs ∷ [])) u q)
    go u q (inl (e, f)) =
        let last : q.0 ≡ length (slice_index_or world t.0 []) = f ∙ old.long t in
        let new : slot_in (with_more tables t s) u q ≡ s = rw (e, f) (cell-add_same no_slot tables t.0 s in-tables) in
        let made : versions_in (slice_set world t.0 (slice_index_or world t.0 [] ++ vs ∷ [])) u q ≡ vs = rw (e, last) (cell-add_same [] world t.0 vs lt) in
        rw (new, made) this
    go u q (inr ne) =
        subst (λ (z : Slot). SlotStands z (versions_in (slice_set world t.0 (slice_index_or world t.0 [] ++ vs ∷ [])) u q))
        (sym (cell-add_other no_slot tables t.0 s u.0 q.0 ne))
        (subst (λ (l : List Version). SlotStands (slot_in tables u q) l)
        (sym (cell-add_other [] world t.0 vs u.0 q.0 (subst (λ (n : ℕ). (u.0 ≢ t.0) ⊎ ((u.0 ≡ t.0) × (q.0 ≢ n))) (old.long t) ne))) (old.each u q))

-- the log with one more record
pub log-more : (log : List Record) (notes : List Note) (changes : List Change) (x : Record) (n : Note) (c : Change) → LogStands log notes changes
    → x.number ≡ length log → note_of_record x ≡ n → x.change ≡ c → LogStands (log ++ x ∷ []) (notes ++ n ∷ []) (changes ++ c ∷ [])
log-more log notes changes x n c s number note change = record {
  notes = map-append note_of_record log (x ∷ []) ∙ ap (λ l. l ++ note_of_record x ∷ []) s.notes ∙ ap (λ z. notes ++ z ∷ []) note;
  did = map-append (λ (z : Record). z.change) log (x ∷ []) ∙ ap (λ l. l ++ x.change ∷ []) s.did ∙ ap (λ z. changes ++ z ∷ []) change;
  numbers = λ k lt. go k (cases k (length log) (simp length-append at lt));
}
  where
    cases : (k n : ℕ) → k < n + 1 → (k < n) ⊎ (k ≡ n)
    cases k n lt = grind arith

    go : (k : ℕ) → (k < length log) ⊎ (k ≡ length log) → (record_at (log ++ x ∷ []) k).number ≡ k
    go k (inl lt) = ap (λ (z : Record). z.number) (get_or-append log (x ∷ []) no_record k lt) ∙ s.numbers k lt
    go k (inr e) = rw e (ap (λ (z : Record). z.number) (get_or-append_seam log x [] no_record) ∙ number)

-- what is kept of the connection's open unit
pub own-is : (p : Chained) (w : World) (c : Conn) (u : ℕ) → AreChained w p → c.0 < length p.book.works → w.unit c ≡ Some u
    → own_work p c ≡ work_of_unit w.records (w.marks c) u
own-is p w c u s lt e = ap (λ o. unwrap_or o no_work) (s.works c lt ∙ ap (option_map (work_of_unit w.records (w.marks c))) e)

-- one unit has another record, and no other unit has more or less
pub works-set : (works : List (Option Work)) (notes : List Note) (n : Note) (unit : Conn → Option ℕ) (marks : Conn → List MarkAt) (c : Conn) (work : Work)
    → WorksStand works notes unit marks → UnitsDiffer unit → unit c ≡ Some n.unit → work ≡ work_of_unit (notes ++ n ∷ []) (marks c) n.unit
    → WorksStand (with_work works c (Some work)) (notes ++ n ∷ []) unit marks
works-set works notes n unit marks c work s differ is e d lt = go (cases d.0 c.0)
  where
    within : d.0 < length works
    within = rw length-set at lt

    cases : (a b : ℕ) → (a ≡ b) ⊎ (a ≢ b)
    cases a b = grind arith

    conn : ℕ → Conn
    conn k = record { 0 = k }

    others : d.0 ≢ c.0 → (o : Option ℕ) → unit d ≡ o
        → option_map (work_of_unit notes (marks d)) o ≡ option_map (work_of_unit (notes ++ n ∷ []) (marks d)) o
    others ne None k = refl
    others ne (Some v) k =
        let apart : n.unit ≢ v = (λ same. ne (differ d c v k (is ∙ ap Some same))) in
        rw (left-other v notes n apart, first-other v notes n apart) refl

    go : (d.0 ≡ c.0) ⊎ (d.0 ≢ c.0) → work_at (with_work works c (Some work)) d ≡ option_map (work_of_unit (notes ++ n ∷ []) (marks d)) (unit d)
    go (inl k) =
        let same : d ≡ c = ap conn k in
        subst (λ (z : Conn). work_at (with_work works c (Some work)) z ≡ option_map (work_of_unit (notes ++ n ∷ []) (marks z)) (unit z)) (sym same)
        (get_or-set_same works c.0 (Some work) None (subst (λ (z : ℕ). z < length works) k within) ∙ ap Some e
        ∙ sym (ap (option_map (work_of_unit (notes ++ n ∷ []) (marks c))) is))
    go (inr ne) = get_or-set_other works c.0 d.0 (Some work) None ne ∙ s d within ∙ others ne (unit d) refl
