-- Slots, log and units after an undo.
use Rattle.std.proofs.Common.{◌≡◌, ◌≢◌, ◌<◌, ◌-◌, ◌⊎◌, inl, inr, ℕ, true, List, [], ◌∷◌, ◌++◌, length, map, refl, ap, sym, ◌∙◌, arith, Some, None, Option, subst}
use Rattle.std.specs.Prelude.{slice_get, slice_index_or, unwrap_or}
use Rattle.std.proofs.lemmas.List.{length-map}
use Rattle.iso_history.specs.After.{after}
use Rattle.iso_history.specs.Linked.{AllLinked, AllOwned, Owned}
use Rattle.iso_history.specs.Makers.{by_agent}
use Rattle.iso_history.specs.Piles.{AllPiled, Piled}
use Rattle.iso_history.specs.Records.{left, note_of}
use Rattle.iso_history.specs.Units.{unit_of}
use Rattle.iso_history.specs.Versions.{first_record, head_record, taken_off, versions}
use Rattle.iso_history.specs.World.{MarkAt, Note, Version, World}
use Rattle.iso_history.specs.declared.entry.Act.TheVariants.{Undo}
use Rattle.iso_history.proofs.log.Cells.{cell-map, cell-within, row-length_map}
use Rattle.iso_history.proofs.log.Lefts.{Taken, first-stays, left-take}
use Rattle.iso_history.proofs.log.Taken.{Top, first-none, first-some, taken-other, top}
use Rattle.iso_record.specs.declared.record.Change.TheVariants.{Undone}
use Rattle.iso_record.specs.declared.record.Record.{Record}
use Rattle.iso_table.specs.declared.slot.Slot.{Slot}
use Rattle.iso_types.specs.declared.head.Head.{Head}
use Rattle.iso_types.specs.declared.value.Conn.{Conn}
use Rattle.iso_types.specs.declared.value.Rid.{Rid}
use Rattle.iso_types.specs.declared.value.TableId.{TableId}
use Rattle.iso_uow.specs.Book.{with_undone}
use Rattle.iso_uow.specs.declared.units.Work.{Work}
use Rattle.iso_chain.specs.Facts.{AreKept, MayUndo}
use Rattle.iso_chain.specs.Logs.{note_of_record, record_at}
use Rattle.iso_chain.specs.Slots.{SlotStands, SlotsStand, face, slot_in}
use Rattle.iso_chain.specs.Stands.{AreChained, Chained}
use Rattle.iso_chain.specs.Works.{work_of_unit}
use Rattle.iso_chain.specs.Writes.{own_work, taken_back, undo_record, undone_slot, with_slot}
use Rattle.iso_chain.proofs.Common.{log-more, own-is, slots-to, works-set}
use Rattle.iso_chain.proofs.Faces.{undone-face}
use Rattle.iso_chain.proofs.Records.{AllBack, Backs, all-back, length-log, noted}

-- a slot stands for what is below its last version, once that version's record is undone
pub undone-stands : (log : List Record) (notes : List Note) (t : TableId) (r : Rid) (s : Slot) (v : Version) (vs : List Version) → v.pending ≡ true
    → Backs log v vs → Piled notes t r vs → SlotStands s (v ∷ vs) → SlotStands (undone_slot (record_at log v.number) s) vs
undone-stands log notes t r s v vs p back pile slot = record {
  face = undone-face (record_at log v.number).change (face s) v vs p back.change slot.face;
  head = back.prev_row;
  first = go (head_record vs) refl;
}
  where
    go : (o : Option ℕ) → head_record vs ≡ o → elim (record_at log v.number).prev_row [ None ↦ None | Some k ↦ s.first ] ≡ first_record vs
    go None e = rw (back.prev_row, e) (sym (first-none notes t r vs pile e))
    go (Some k) e = rw (back.prev_row, e) (slot.first ∙ first-some v vs k e)

-- the slots
undo-slots : (w : World) (p : Chained) (n : ℕ) → AreChained w p → AreKept w → n < length p.log
    → head_record (versions w (record_at p.log n).table (record_at p.log n).rid) ≡ Some n
    → SlotsStand (with_slot p.tables (record_at p.log n).table (record_at p.log n).rid
    (undone_slot (record_at p.log n) (slot_in p.tables (record_at p.log n).table (record_at p.log n).rid)))
    (map (λ slots. map (taken_off n) slots) w.tables)
unfolding AllPiled
undo-slots w p n s kept lt head =
    slots-to p.tables w.tables (map (λ slots. map (taken_off n) slots) w.tables) t r _ s.slots (length-map w.tables _)
    (λ u. row-length_map (taken_off n) w.tables u.0)
    within.0 within.1
    (subst (λ (l : List Version). SlotStands (undone_slot (record_at p.log n) (slot_in p.tables t r)) l)
    (sym (cell-map [] (taken_off n) refl w.tables t.0 r.0 ∙ found.taken)) this)
    (λ u q ne. cell-map [] (taken_off n) refl w.tables u.0 q.0
    ∙ taken-other w.records u q n (versions w u q) (kept.piled u q) (λ a b. apart u q ne (sym note.0 ∙ a) (sym note.1 ∙ b)))
  where
    t : TableId
    t = (record_at p.log n).table

    r : Rid
    r = (record_at p.log n).rid

    note : ((note_of w.records n).table ≡ (record_at p.log n).table) × ((note_of w.records n).rid ≡ (record_at p.log n).rid)
    note = let e = noted p.log w n s.log lt in (sym (ap (λ z. z.table) e), sym (ap (λ z. z.rid) e))

    found : Top w.records (record_at p.log n).table (record_at p.log n).rid n (versions w (record_at p.log n).table (record_at p.log n).rid)
    found = top w.records t r n (versions w t r) (kept.piled t r) head

    within : ((record_at p.log n).table.0 < length w.tables) × ((record_at p.log n).rid.0 < length (slice_index_or w.tables (record_at p.log n).table.0 []))
    within = cell-within w.tables t.0 r.0 found.version found.under found.is

    back : Backs p.log found.version found.under
    back = (subst (AllBack p.log) found.is (all-back p.log w (versions w t r) s.log (kept.recorded.each t r))).0 found.pending

    this : SlotStands (undone_slot (record_at p.log n) (slot_in p.tables (record_at p.log n).table (record_at p.log n).rid)) found.under
    this = subst (λ (k : ℕ). SlotStands (undone_slot (record_at p.log k) (slot_in p.tables t r)) found.under) found.number
        (undone-stands p.log w.records t r (slot_in p.tables t r) found.version found.under found.pending back found.piled
        (subst (SlotStands (slot_in p.tables t r)) found.is (s.slots.each t r)))

    apart : (u : TableId) (q : Rid) → (u.0 ≢ (record_at p.log n).table.0) ⊎ ((u.0 ≡ (record_at p.log n).table.0) × (q.0 ≢ (record_at p.log n).rid.0))
        → (record_at p.log n).table ≡ u → (record_at p.log n).rid ≡ q → ⊥
    apart u q (inl ne) a b = ne (ap (λ z. z.0) (sym a))
    apart u q (inr (e, ne)) a b = ne (ap (λ z. z.0) (sym b))

-- the first of what is left is among it, and is the unit's own
pub own-last : (notes : List Note) (u n : ℕ) (ms : List ℕ) → Owned notes u ms → slice_get ms 0 ≡ Some n → (n < length notes) × ((note_of notes n).unit ≡ u)
own-last notes u n [] h e = absurd (cc)
own-last notes u n (m ∷ ms) h e = let same : m ≡ n = cc in subst (λ (z : ℕ). (z < length notes) × ((note_of notes z).unit ≡ u)) same (h.0, h.1)

-- the record of the undo, as a history tells it
abbrev pub undo_note : World → Conn → ℕ → Note
undo_note w c n = record (note_of w.records n) { unit = unit_of w c; undoes = Some n }

-- what is kept of the unit after the undo
undo-work : (notes : List Note) (marks : List MarkAt) (n : ℕ) (x : Note) (u : ℕ) (prev : Option ℕ) → x.unit ≡ u → (note_of notes n).unit ≡ u
    → Taken notes x u n → prev ≡ (note_of notes n).prev_unit
    → with_undone (work_of_unit notes marks u) prev ≡ work_of_unit (notes ++ x ∷ []) marks x.unit
undo-work notes marks n x u prev own of_unit taken is =
    let count : length (n ∷ taken.rest) - 1 ≡ length taken.rest = omega arith in
    subst (λ (z : ℕ). with_undone (work_of_unit notes marks u) prev ≡ work_of_unit (notes ++ x ∷ []) marks z) (sym own)
    (rw (first-stays u notes x n own taken.within of_unit, taken.is, taken.was, is, taken.prev, count) refl)

pub undo-chained : (h : Head) (w : World) (p : Chained) (c : Conn) (n : ℕ) → AreChained w p → AreKept w → c.0 < length p.book.works → MayUndo w c n
    → AreChained (after h w (by_agent c (Undo n))) (taken_back p c n)
unfolding AllLinked AllOwned
undo-chained h w p c n s kept lt may = record {
  slots = undo-slots w p n s kept inside head;
  log = log-more p.log w.records w.changes (undo_record p c n) (undo_note w c n) (Undone n) s.log refl note refl;
  works = works-set p.book.works w.records (undo_note w c n) w.unit w.marks c _ s.works kept.differ (may.open_unit ∙ ap Some (sym unit)) work;
  begun = s.begun;
}
  where
    unit : unit_of w c ≡ may.unit
    unit = ap (λ o. unwrap_or o 0) may.open_unit

    last : (n < length w.records) × ((note_of w.records n).unit ≡ may.unit)
    last = own-last w.records may.unit n (left w.records may.unit) (kept.owned may.unit) may.last

    inside : n < length p.log
    inside = let e = length-log p.log w s.log in let k = last.0 in omega (arith, e, k)

    same : note_of_record (record_at p.log n) ≡ note_of w.records n
    same = noted p.log w n s.log inside

    head : head_record (versions w (record_at p.log n).table (record_at p.log n).rid) ≡ Some n
    head = subst (λ (z : Note). head_record (versions w z.table z.rid) ≡ Some n) (sym same) may.top

    own : own_work p c ≡ work_of_unit w.records (w.marks c) may.unit
    own = own-is p w c may.unit s lt may.open_unit

    note : note_of_record (undo_record p c n) ≡ undo_note w c n
    note = rw (own, unit, ← same) refl

    taken : Taken w.records (undo_note w c n) may.unit n
    taken = left-take may.unit n w.records (undo_note w c n) unit refl may.last (kept.linked may.unit)

    work : with_undone (own_work p c) (record_at p.log n).prev_unit ≡ work_of_unit (w.records ++ undo_note w c n ∷ []) (w.marks c) (undo_note w c n).unit
    work = ap (λ (z : Work). with_undone z (record_at p.log n).prev_unit) own
        ∙ undo-work w.records (w.marks c) n (undo_note w c n) may.unit (record_at p.log n).prev_unit unit last.1 taken (ap (λ z. z.prev_unit) same)
