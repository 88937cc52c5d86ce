-- What the steps write into slots, log and units.
use Rattle.std.specs.List.{list_any}
use Rattle.std.specs.Prelude.{ℕ, Bool, true, false, ◌&&◌, List, [], ◌∷◌, ◌++◌, length, slice_set, Some, None, Option, unwrap_or}
use Rattle.iso_record.specs.Olds.{olds}
use Rattle.iso_record.specs.Undone.{undone}
use Rattle.iso_record.specs.declared.record.Change.{Change}
use Rattle.iso_record.specs.declared.record.Change.TheVariants.{Delete, Insert, Undone, Update}
use Rattle.iso_record.specs.declared.record.Record.{Record}
use Rattle.iso_table.specs.declared.slot.Slot.{Slot}
use Rattle.iso_types.specs.Ids.{rid_eq, table_eq}
use Rattle.iso_types.specs.declared.value.Conn.{Conn}
use Rattle.iso_types.specs.declared.value.Rid.{Rid}
use Rattle.iso_types.specs.declared.value.TableId.{TableId}
use Rattle.iso_types.specs.declared.value.Value.{Value}
use Rattle.iso_uow.specs.Book.{Book, no_work, with_added, with_undone, with_work, work_at}
use Rattle.iso_uow.specs.declared.units.Work.{Work}
use Rattle.iso_chain.specs.Logs.{record_at}
use Rattle.iso_chain.specs.Slots.{face, slot_in, slots_of}
use Rattle.iso_chain.specs.Stands.{Chained}

-- the connection's unit
abbrev pub own_work : Chained → Conn → Work
own_work p c = unwrap_or (work_at p.book.works c) no_work

-- another slot stands there
abbrev pub with_slot : List (List Slot) → TableId → Rid → Slot → List (List Slot)
with_slot tables t r s = slice_set tables t.0 (slice_set (slots_of tables t) r.0 s)

-- one more slot stands last
abbrev pub with_more : List (List Slot) → TableId → Slot → List (List Slot)
with_more tables t s = slice_set tables t.0 (slots_of tables t ++ s ∷ [])

-- the record of a change of the connection's unit, with the row that it makes
abbrev pub next_record : Chained → Conn → TableId → Rid → Change → Option ℕ → Option (List Value) → Record
next_record p c t r change prev after = record {
  number = length p.log;
  unit = (own_work p c).number;
  table = t;
  rid = r;
  change = change;
  prev_row = prev;
  prev_unit = (own_work p c).last;
  after = after;
}

-- its record is the unit's last
abbrev pub book_added : Chained → Conn → Book
book_added p c = record p.book { works = with_work p.book.works c (Some (with_added (own_work p c) (length p.log))) }

-- the slot with a new row, or dead with the old one, and one more record on its chain
abbrev pub written_slot : Slot → ℕ → Option (List Value) → Slot
written_slot s n (Some row) = record { row = row; live = true; head = Some n; first = Some (unwrap_or s.first n) }
written_slot s n None = record { row = s.row; live = false; head = Some n; first = Some (unwrap_or s.first n) }

-- the change that leads from a row to another, or to Absent
abbrev pub change_from : List Value → Option (List Value) → Change
change_from old (Some new) = Update (olds old new)
change_from old None = Delete

-- an Update or a Delete
abbrev pub written : Chained → Conn → TableId → Rid → Option (List Value) → Chained
written p c t r row = let s = slot_in p.tables t r in record {
  tables = with_slot p.tables t r (written_slot s (length p.log) row);
  log = p.log ++ next_record p c t r (change_from s.row row) s.head row ∷ [];
  book = book_added p c;
}

-- a slot with one record
abbrev pub made_slot : ℕ → List Value → Slot
made_slot n row = record { row = row; live = true; head = Some n; first = Some n }

-- an Insert
abbrev pub inserted : Chained → Conn → TableId → List Value → Chained
inserted p c t row = record {
  tables = with_more p.tables t (made_slot (length p.log) row);
  log = p.log ++ next_record p c t (record { 0 = length (slots_of p.tables t) }) Insert None (Some row) ∷ [];
  book = book_added p c;
}

-- the slot once its head's record is undone
abbrev pub undone_slot : Record → Slot → Slot
undone_slot n s = record {
  row = (undone n.change (face s)).row;
  live = (undone n.change (face s)).live;
  head = n.prev_row;
  first = elim n.prev_row [ None ↦ None | Some k ↦ s.first ];
}

-- the record of an undo
abbrev pub undo_record : Chained → Conn → ℕ → Record
undo_record p c n = record (record_at p.log n) { number = length p.log; unit = (own_work p c).number; change = Undone n; after = None }

-- an Undo
abbrev pub taken_back : Chained → Conn → ℕ → Chained
taken_back p c n = let s = record_at p.log n in record {
  tables = with_slot p.tables s.table s.rid (undone_slot s (slot_in p.tables s.table s.rid));
  log = p.log ++ undo_record p c n ∷ [];
  book = record p.book { works = with_work p.book.works c (Some (with_undone (own_work p c) s.prev_unit)) };
}

-- the slot without its chain
abbrev pub cleared : Slot → Slot
cleared s = record s { head = None; first = None }

-- the slots without their chains, for the slot of each of these records
abbrev pub released : List Record → List ℕ → List (List Slot) → List (List Slot)
released log [] tables = tables
released log (n ∷ ns) tables = let s = record_at log n in
    released log ns (with_slot tables s.table s.rid (cleared (slot_in tables s.table s.rid)))

-- a Commit: no slot of a record that the unit has left has a chain any more
abbrev pub committed : Chained → Conn → List ℕ → Chained
committed p c ns = record {
  tables = released p.log ns p.tables;
  log = p.log;
  book = record p.book { works = with_work p.book.works c None };
}

-- the slot of one of these records
abbrev pub is_hit : List Record → List ℕ → TableId → Rid → Bool
is_hit log ns t r = list_any (λ n. table_eq (record_at log n).table t && rid_eq (record_at log n).rid r) ns
