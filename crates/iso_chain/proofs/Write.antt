-- Slots, log and units after an Update, a Delete and an Insert.
use Rattle.std.proofs.Common.{◌≡◌, ◌<◌, ◌+◌, ℕ, suc, true, List, [], ◌∷◌, ◌++◌, length, refl, ap, sym, ◌∙◌, arith, Some, None, Option, subst}
use Rattle.std.specs.Prelude.{IfSome, is_some, slice_index_or, slice_set, unwrap_or}
use Rattle.iso_history.specs.After.{after}
use Rattle.iso_history.specs.Makers.{by_agent}
use Rattle.iso_history.specs.Changes.{change_to}
use Rattle.iso_history.specs.Recorded.{kept}
use Rattle.iso_history.specs.Records.{change_note, left}
use Rattle.iso_history.specs.Units.{unit_of}
use Rattle.iso_history.specs.Versions.{first_record, head_record, next_rid, pending_version, present, versions}
use Rattle.iso_history.specs.World.{MarkAt, Note, Version, World}
use Rattle.iso_history.specs.declared.entry.Act.TheVariants.{Delete as Deletion, Insert as Insertion, Update as Updating}
use Rattle.iso_history.proofs.log.Lefts.{first-own, left-add}
use Rattle.iso_record.specs.declared.record.Change.{Change}
use Rattle.iso_record.specs.declared.record.Change.TheVariants.{Insert}
use Rattle.iso_table.specs.declared.slot.Slot.{Slot}
use Rattle.iso_types.specs.declared.head.Head.{Head}
use Rattle.iso_types.specs.declared.value.Conn.{Conn}
use Rattle.iso_types.specs.declared.value.Rid.{Rid}
use Rattle.iso_types.specs.declared.value.TableId.{TableId}
use Rattle.iso_types.specs.declared.value.Value.{Value}
use Rattle.iso_uow.specs.Book.{with_added}
use Rattle.iso_uow.specs.declared.units.Work.{Work}
use Rattle.iso_chain.specs.Facts.{AreKept, MayAdd, MayWrite}
use Rattle.iso_chain.specs.Logs.{LogStands, note_of_record, undoes_of}
use Rattle.iso_chain.specs.Slots.{SlotStands, SlotsStand, slot_in}
use Rattle.iso_chain.specs.Stands.{AreChained, Chained}
use Rattle.iso_chain.specs.Works.{WorksStand, work_of_unit}
use Rattle.iso_chain.specs.Writes.{book_added, change_from, inserted, next_record, written, written_slot}
use Rattle.iso_chain.proofs.Common.{log-more, own-is, slots-add, slots-set, works-set}
use Rattle.iso_chain.proofs.Faces.{kept-present}
use Rattle.iso_chain.proofs.Records.{length-log}

-- the slot with one more version
written-stands : (s : Slot) (v : Version) (vs : List Version) (old : List Value) (row : Option (List Value)) → v.pending ≡ true → v.row ≡ row
    → present vs ≡ Some old → SlotStands s vs → SlotStands (written_slot s v.number row) (v ∷ vs)
written-stands s v vs old row p is shows stands = go row is
  where
    first : (o : Option ℕ) → first_record vs ≡ o → Some (unwrap_or s.first v.number) ≡ first_record (v ∷ vs)
    first None e = rw (stands.first, e, p) refl
    first (Some m) e = rw (stands.first, e) refl

    was : s.row ≡ old
    was = subst (λ (o : Option (List Value)). IfSome o (λ x. s.row ≡ x)) (kept-present vs old shows) stands.face.row

    go : (o : Option (List Value)) → v.row ≡ o → SlotStands (written_slot s v.number o) (v ∷ vs)
    go (Some new) e = record {
      face = record { row = rw e refl; live = sym (ap is_some e) };
      head = rw p refl;
      first = first (first_record vs) refl;
    }
    go None e = record {
      face = record { row = rw (e, p, shows) was; live = sym (ap is_some e) };
      head = rw p refl;
      first = first (first_record vs) refl;
    }

-- the unit with one more record
added-work : (notes : List Note) (marks : List MarkAt) (x : Note) (u n : ℕ) → x.unit ≡ u → x.undoes ≡ None → n ≡ length notes
    → with_added (work_of_unit notes marks u) n ≡ work_of_unit (notes ++ x ∷ []) marks x.unit
added-work notes marks x u n own none is =
    let count : length (left notes u) + 1 ≡ suc (length (left notes u)) = omega arith in
    subst (λ (z : ℕ). with_added (work_of_unit notes marks u) n ≡ work_of_unit (notes ++ x ∷ []) marks z) (sym own)
    (rw (first-own u notes x own, left-add u notes x own none, is, count) refl)

works-added : (w : World) (p : Chained) (c : Conn) (u : ℕ) (x : Note) → AreChained w p → AreKept w → c.0 < length p.book.works → w.unit c ≡ Some u
    → x.unit ≡ unit_of w c → x.undoes ≡ None → WorksStand (book_added p c).works (w.records ++ x ∷ []) w.unit w.marks
works-added w p c u x s kept lt e own none =
    let unit : unit_of w c ≡ u = ap (λ o. unwrap_or o 0) e in
    works-set p.book.works w.records x w.unit w.marks c _ s.works kept.differ (e ∙ ap Some (sym (own ∙ unit)))
    (ap (λ (z : Work). with_added z (length p.log)) (own-is p w c u s lt e)
    ∙ added-work w.records (w.marks c) x u (length p.log) (own ∙ unit) none (length-log p.log w s.log))

-- the record of a change
next-note : (w : World) (p : Chained) (c : Conn) (u : ℕ) (t : TableId) (r : Rid) (change : Change) (prev prev2 : Option ℕ)
    (after : Option (List Value)) → AreChained w p → c.0 < length p.book.works
    → w.unit c ≡ Some u → undoes_of change ≡ None → prev ≡ prev2 → note_of_record (next_record p c t r change prev after) ≡ change_note w (unit_of w c) t r prev2
next-note w p c u t r change prev prev2 after s lt e none same =
    let unit : unit_of w c ≡ u = ap (λ o. unwrap_or o 0) e in
    rw (own-is p w c u s lt e, unit, none, same) refl

-- the change that the record keeps is the one that the history tells
change-is : (old : List Value) (shows row : Option (List Value)) (s : List Value) → shows ≡ Some old → s ≡ old → change_from s row ≡ change_to shows row
change-is old shows None s e is = refl
change-is old shows (Some new) s e is = rw (e, is) refl

no-undo : (s : List Value) (row : Option (List Value)) → undoes_of (change_from s row) ≡ None
no-undo s None = refl
no-undo s (Some new) = refl

-- an Update or a Delete, on the parts of the world that it changes
pub record AreWritten (w : World) (p : Chained) (c : Conn) (t : TableId) (r : Rid) (row : Option (List Value)) (q : Chained) : Type 0 where
  pub slots : SlotsStand q.tables (slice_set w.tables t.0
      (slice_set (slice_index_or w.tables t.0 []) r.0 (pending_version w (unit_of w c) row ∷ versions w t r)))
  pub log : LogStands q.log (w.records ++ change_note w (unit_of w c) t r (head_record (versions w t r)) ∷ [])
      (w.changes ++ change_to (present (versions w t r)) row ∷ [])
  pub works : WorksStand q.book.works (w.records ++ change_note w (unit_of w c) t r (head_record (versions w t r)) ∷ []) w.unit w.marks
  pub begun : q.book.begun ≡ w.begun

written-parts : (w : World) (p : Chained) (c : Conn) (t : TableId) (r : Rid) (row : Option (List Value)) → AreChained w p → AreKept w
    → c.0 < length p.book.works
    → MayWrite w c t r row → AreWritten w p c t r row (written p c t r row)
written-parts w p c t r row s kept lt may = record {
  slots = slots-set p.tables w.tables t r _ _ s.slots may.table may.rid
      (rw same (written-stands (slot_in p.tables t r) (pending_version w (unit_of w c) row) (versions w t r) may.old row refl refl may.shows
      (s.slots.each t r)));
  log = log-more p.log w.records w.changes _ _ _ s.log refl
      (next-note w p c may.unit t r _ _ _ row s lt may.open_unit (no-undo _ row) (s.slots.each t r).head)
      (change-is may.old (present (versions w t r)) row (slot_in p.tables t r).row may.shows is);
  works = works-added w p c may.unit _ s kept lt may.open_unit refl refl;
  begun = s.begun;
}
  where
    same : length p.log ≡ length w.records
    same = length-log p.log w s.log

    is : (slot_in p.tables t r).row ≡ may.old
    is = subst (λ (o : Option (List Value)). IfSome o (λ x. (slot_in p.tables t r).row ≡ x)) (kept-present (versions w t r) may.old may.shows)
        (s.slots.each t r).face.row

pub update-chained : (h : Head) (w : World) (p : Chained) (c : Conn) (t : TableId) (r : Rid) (row : List Value) → AreChained w p → AreKept w
    → c.0 < length p.book.works
    → MayWrite w c t r (Some row) → AreChained (after h w (by_agent c (Updating t r row))) (written p c t r (Some row))
update-chained h w p c t r row s kept lt may =
    let q = written-parts w p c t r (Some row) s kept lt may in
    record { slots = q.slots; log = q.log; works = q.works; begun = q.begun }

pub delete-chained : (h : Head) (w : World) (p : Chained) (c : Conn) (t : TableId) (r : Rid) → AreChained w p → AreKept w → c.0 < length p.book.works
    → MayWrite w c t r None → AreChained (after h w (by_agent c (Deletion t r))) (written p c t r None)
delete-chained h w p c t r s kept lt may =
    let q = written-parts w p c t r None s kept lt may in
    record { slots = q.slots; log = q.log; works = q.works; begun = q.begun }

-- a slot that was just made
added-stands : (s : Slot) (v : Version) (row : List Value) → v.pending ≡ true → v.row ≡ Some row → s.row ≡ row → s.live ≡ true → s.head ≡ Some v.number
    → s.first ≡ Some v.number → SlotStands s (v ∷ [])
added-stands s v row p e is live head first = record {
  face = record { row = rw e is; live = rw e live };
  head = rw p head;
  first = rw p first;
}

pub insert-chained : (h : Head) (w : World) (p : Chained) (c : Conn) (t : TableId) (r : Rid) (row : List Value) → AreChained w p → AreKept w
    → c.0 < length p.book.works
    → MayAdd w c t → AreChained (after h w (by_agent c (Insertion t r row))) (inserted p c t row)
insert-chained h w p c t r row s kept lt may = record {
  slots = slots-add p.tables w.tables t _ _ s.slots may.table
      (added-stands _ (pending_version w (unit_of w c) (Some row)) row refl refl refl refl (ap Some same) (ap Some same));
  log = log-more p.log w.records w.changes _ _ _ s.log refl
      (subst (λ (n : ℕ). note_of_record (next_record p c t (record { 0 = n }) Insert None (Some row)) ≡ change_note w (unit_of w c) t (next_rid w t) None)
      (sym (s.slots.long t))
      (next-note w p c may.unit t (next_rid w t) Insert None None (Some row) s lt may.open_unit refl refl)) refl;
  works = works-added w p c may.unit _ s kept lt may.open_unit refl refl;
  begun = s.begun;
}
  where
    same : length p.log ≡ length w.records
    same = length-log p.log w s.log
