-- The settled row, told without version lists.
use Rattle.std.specs.Option.{option_map_or}
use Rattle.std.specs.Prelude.{ℕ, ◌+◌, not, ◌&&◌, List, [], ◌∷◌, ◌==◌, slice_get, Some, None, filter, find, Option}
use Rattle.iso_history.specs.declared.entry.Act.{Act}
use Rattle.iso_history.specs.declared.entry.Act.TheVariants.{Commit, Delete, Insert, Rollback, Undo, Update}
use Rattle.iso_history.specs.declared.entry.Entry.{Entry}
use Rattle.iso_history.specs.declared.entry.Who.TheVariants.{Agent, Dispatcher}
use Rattle.iso_types.specs.Head.{rows_of}
use Rattle.iso_types.specs.Ids.{conn_eq, rid_eq, table_eq}
use Rattle.iso_types.specs.declared.head.Head.{Head}
use Rattle.iso_types.specs.declared.value.Conn.{Conn}
use Rattle.iso_types.specs.declared.value.Rid.{Rid}
use Rattle.iso_types.specs.declared.value.TableId.{TableId}
use Rattle.iso_types.specs.declared.value.Value.{Value}

-- a change that is not undone and whose unit is open
pub record Made : Type 0 where
  pub conn : Conn
  pub number : ℕ
  pub table : TableId
  pub rid : Rid
  pub row : Option (List Value)

-- the number of records so far, these changes, newest first, and the settled row so far
pub record Telling : Type 0 where
  pub count : ℕ
  pub made : List Made
  pub row : Option (List Value)

-- a change is told
abbrev pub change_told : Telling → Conn → TableId → Rid → Option (List Value) → Telling
change_told s c t r row =
    record s { count = s.count + 1; made = record { conn = c; number = s.count; table = t; rid = r; row = row } ∷ s.made }

-- an Undo takes its change off
abbrev pub undo_told : Telling → ℕ → Telling
undo_told s n = record s { count = s.count + 1; made = filter (λ m. not (m.number == n)) s.made }

-- the unit of the connection ends
abbrev pub end_told : Telling → Conn → Telling
end_told s c = record s { made = filter (λ m. not (conn_eq m.conn c)) s.made }

-- the unit's last such change of the slot
abbrev pub last_change : Telling → Conn → TableId → Rid → Option Made
last_change s c t r = find (λ m. conn_eq m.conn c && (table_eq m.table t && rid_eq m.rid r)) s.made

-- its content is the settled row; where the unit has none, the settled row stays
abbrev pub commit_told : TableId → Rid → Telling → Conn → Telling
commit_told t r s c = end_told (record s { row = option_map_or (λ m. m.row) (last_change s c t r) s.row }) c

-- what an agent's entry tells
abbrev pub told_by : TableId → Rid → Telling → Conn → Act → Telling
told_by t r s c (Insert u q row) = change_told s c u q (Some row)
told_by t r s c (Update u q row) = change_told s c u q (Some row)
told_by t r s c (Delete u q) = change_told s c u q None
told_by t r s c (Undo n) = undo_told s n
told_by t r s c Commit = commit_told t r s c
told_by t r s c (Rollback code reason) = end_told s c
told_by t r s c Act.Ended = end_told s c
told_by t r s c _ = s

-- what an entry tells
abbrev pub told : TableId → Rid → Telling → Entry → Telling
told t r s e = elim e.who [ Dispatcher ↦ s | Agent c ↦ told_by t r s c e.act ]

-- what a list of entries tells
abbrev pub told_along : TableId → Rid → Telling → List Entry → Telling
told_along t r s [] = s
told_along t r s (e ∷ es) = told_along t r (told t r s e) es

-- at first the head's row, or Absent for a slot made by Insert
abbrev pub first_telling : Head → TableId → Rid → Telling
first_telling head t r = record { count = 0; made = []; row = slice_get (rows_of head t) r.0 }

-- the settled row of the slot
unfoldable pub settled_row : Head → List Entry → TableId → Rid → Option (List Value)
settled_row head es t r = (told_along t r (first_telling head t r) es).row
