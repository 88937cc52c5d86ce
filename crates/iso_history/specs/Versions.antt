-- Versions and what they show.
use Rattle.std.specs.List.{list_any}
use Rattle.std.specs.Prelude.{ℕ, Bool, true, false, not, ◌&&◌, List, [], ◌∷◌, ◌++◌, map, length, is_none, if◌then◌else◌, ◌==◌, slice_index_or, slice_set, Some, None, filter, Option}
use Rattle.iso_history.specs.Units.{unit_of}
use Rattle.iso_history.specs.World.{Version, World}
use Rattle.iso_history.specs.declared.entry.Act.{Act}
use Rattle.iso_history.specs.declared.entry.Act.TheVariants.{Commit, Delete, Insert, Undo, Update}
use Rattle.iso_types.specs.Head.{rows_of, tables}
use Rattle.iso_types.specs.declared.head.Head.{Head}
use Rattle.iso_types.specs.declared.value.Conn.{Conn}
use Rattle.iso_types.specs.declared.value.Rid.{Rid}
use Rattle.iso_types.specs.declared.value.TableId.{TableId}
use Rattle.iso_types.specs.declared.value.Value.{Value}

-- the slots of a table
abbrev pub slot_list : World → TableId → List (List Version)
slot_list w t = slice_index_or w.tables t.0 []

-- their number
abbrev pub slots : World → TableId → ℕ
slots w t = length (slot_list w t)

-- the rid of a new slot
abbrev pub next_rid : World → TableId → Rid
next_rid w t = record { 0 = slots w t }

-- the versions of a slot, newest first; none where there is no such slot
abbrev pub versions : World → TableId → Rid → List Version
versions w t r = slice_index_or (slot_list w t) r.0 []

-- the last version's content, or Absent for an empty list
abbrev pub present : List Version → Option (List Value)
present [] = None
present (v ∷ vs) = v.row

-- the committed version's content, or Absent where there is none
abbrev pub committed : List Version → Option (List Value)
committed [] = None
committed (v ∷ vs) = if v.pending then committed vs else v.row

-- a version is pending
abbrev pub is_pending : List Version → Bool
is_pending vs = list_any (λ v. v.pending) vs

-- a version of another unit is pending
abbrev pub is_pending_beside : ℕ → List Version → Bool
is_pending_beside u vs = list_any (λ v. v.pending && not (v.unit == u)) vs

-- `committed` where another unit's version is pending, and `present` otherwise
abbrev pub view_of : ℕ → List Version → Option (List Value)
view_of u vs = if is_pending_beside u vs then committed vs else present vs

-- what the connection sees of a slot
abbrev pub view : World → Conn → TableId → Rid → Option (List Value)
view w c t r = view_of (unit_of w c) (versions w t r)

-- another unit's version is pending in the slot
abbrev pub is_changed_beside : World → Conn → TableId → Rid → Bool
is_changed_beside w c t r = is_pending_beside (unit_of w c) (versions w t r)

-- no version is pending and `committed` is Absent
abbrev pub is_dead : List Version → Bool
is_dead vs = not (is_pending vs) && is_none (committed vs)

-- the records of the slot's last and first pending versions
abbrev pub head_record : List Version → Option ℕ
head_record [] = None
head_record (v ∷ vs) = if v.pending then Some v.number else None

-- the record of the first pending version
abbrev pub first_record : List Version → Option ℕ
first_record [] = None
first_record (v ∷ vs) = elim (first_record vs) [ None ↦ head_record (v ∷ []) | Some n ↦ Some n ]

-- what an entry does to versions and to the log
pub data Change : Type 0 where
  Keeps : Change
  Adds : (table : TableId) → (row : List Value) → Change
  Writes : (table : TableId) → (rid : Rid) → (row : Option (List Value)) → Change
  Takes : (number : ℕ) → Change
  Settles : Change

-- what each kind of entry does to versions
abbrev pub change_of : Act → Change
change_of (Insert t r row) = Adds t row
change_of (Update t r row) = Writes t r (Some row)
change_of (Delete t r) = Writes t r None
change_of (Undo n) = Takes n
change_of Commit = Settles
change_of _ = Keeps

-- the version of record n goes
abbrev pub taken_off : ℕ → List Version → List Version
taken_off n vs = filter (λ v. not (v.pending && (v.number == n))) vs

-- the last pending version of the unit becomes committed, and all before it go
abbrev pub settled_by : ℕ → List Version → List Version
settled_by u [] = []
settled_by u (v ∷ vs) = if v.pending && (v.unit == u) then record v { pending = false } ∷ [] else v ∷ settled_by u vs

-- the version of the next record
abbrev pub pending_version : World → ℕ → Option (List Value) → Version
pending_version w u row = record { unit = u; number = length w.records; row = row; pending = true }

-- the versions of all slots
abbrev pub tables_by : World → ℕ → Change → List (List (List Version))
tables_by w u Keeps = w.tables
tables_by w u (Adds t row) = slice_set w.tables t.0 (slot_list w t ++ (pending_version w u (Some row) ∷ []) ∷ [])
tables_by w u (Writes t r row) =
    slice_set w.tables t.0 (slice_set (slot_list w t) r.0 (pending_version w u row ∷ versions w t r))
tables_by w u (Takes n) = map (λ slots. map (taken_off n) slots) w.tables
tables_by w u Settles = map (λ slots. map (settled_by u) slots) w.tables

-- a slot of the head has one committed version
abbrev pub first_version : List Value → List Version
first_version row = record { unit = 0; number = 0; row = Some row; pending = false } ∷ []

-- the slots of the head's rows, for each table
abbrev pub first_tables : Head → List (List (List Version))
first_tables head = map (λ t. map first_version (rows_of head t)) (tables head)
