-- A statement at one point of its conduct: what it has left to do and what its scan has kept; the step that is due, and what an
-- answer makes of the point.
use Rattle.std.specs.Prelude.{ℕ, ◌+◌, Bool, true, false, ◌&&◌, List, [], ◌∷◌, ◌++◌, map, length, Option, Some, None, if◌then◌else◌, ℤ, pos, Ok, Err}
use Rattle.iso_conduct.specs.Parts.{Part, failing_list, listed, rolling_list}
use Rattle.iso_conduct.specs.Parts.Part.{Answer, Asks, Backs, Changes, Claims, Collapses, EntryLook, Frees, IndexScan, Leaves, Marks, NewRow, Refuses, Replies, RowDelete, RowUpdate, Sets, Settles, TableScan, Undos}
use Rattle.iso_conduct.specs.declared.moves.Move.{Move}
use Rattle.iso_conduct.specs.declared.moves.Told.{Told}
use Rattle.iso_history.specs.World.{Setting}
use Rattle.iso_history.specs.Writes.{minus}
use Rattle.iso_history.specs.declared.entry.Want.{Want}
use Rattle.iso_history.specs.declared.entry.Want.TheVariants.{Alter, Steady}
use Rattle.iso_modes.specs.declared.Mode.TheVariants.{X}
use Rattle.iso_predicate.specs.Assigned.{Fault, assigned}
use Rattle.iso_predicate.specs.Assigned.Fault.{NullFault, Overflow}
use Rattle.iso_predicate.specs.Truth.{truth, value_at}
use Rattle.iso_predicate.specs.declared.conditions.Truth.{Truth}
use Rattle.iso_predicate.specs.declared.conditions.Truth.TheVariants.{True}
use Rattle.iso_sql.specs.Sound.{columns_of}
use Rattle.iso_sql.specs.declared.statement.Condition.{Condition}
use Rattle.iso_sql.specs.declared.statement.Items2.{Items2}
use Rattle.iso_sql.specs.declared.statement.Items2.TheVariants.{Columns, Count}
use Rattle.iso_sql.specs.declared.statement.Statement.{Statement}
use Rattle.iso_sql.specs.declared.statement.Statement.TheVariants as st
use Rattle.iso_types.specs.Value.{value_eq}
use Rattle.iso_types.specs.declared.head.Column.{Column}
use Rattle.iso_types.specs.declared.head.Head.{Head}
use Rattle.iso_types.specs.declared.value.Conn.{Conn}
use Rattle.iso_types.specs.declared.value.Name.TheVariants.{Row}
use Rattle.iso_types.specs.declared.value.Rid.{Rid}
use Rattle.iso_types.specs.declared.value.TableId.{TableId}
use Rattle.iso_types.specs.declared.value.Value.{Value}
use Rattle.iso_types.specs.declared.value.Value.TheVariants.{Int}

-- ---- what a scan keeps

-- of a COUNT the number of rows, of another SELECT the projected rows, of an UPDATE or DELETE each row with its rid
pub data Haul : Type 0 where
  Number : (count : ℕ) → Haul
  Given : (rows : List (List Value)) → Haul
  Found : (rows : List (Rid × List Value)) → Haul

-- before the first look
abbrev pub first_haul : Statement → Haul
first_haul (st.Select t Count cond level) = Number 0
first_haul (st.Select t items cond level) = Given []
first_haul s = Found []

-- a row as a SELECT gives it
abbrev pub projected : Items2 → List Value → List Value
projected (Columns ks) row = map (value_at row) ks
projected items row = row

-- the row as the statement gives it
abbrev pub projected_by : Statement → List Value → List Value
projected_by (st.Select t items cond level) row = projected items row
projected_by s row = row

-- with one more row, of which the statement gives this
abbrev pub hauled : Haul → Rid → List Value → List Value → Haul
hauled (Number n) r row given = Number (n + 1)
hauled (Given rows) r row given = Given (rows ++ given ∷ [])
hauled (Found rows) r row given = Found (rows ++ (r, row) ∷ [])

-- the code of a reply: 100 where a SELECT of columns, UPDATE or DELETE kept no row. // Db2 LUW, SQLCODE +100
abbrev pub haul_code : Haul → ℤ
haul_code (Given []) = pos 100
haul_code (Found []) = pos 100
haul_code _ = pos 0

-- the number of changes of a reply
abbrev pub haul_changed : Haul → ℕ
haul_changed (Found rows) = length rows
haul_changed _ = 0

-- the rows of a reply: the kept ones, or their number
abbrev pub haul_rows : Haul → List (List Value)
haul_rows (Number n) = (Int (pos n) ∷ []) ∷ []
haul_rows (Given rows) = rows
haul_rows (Found rows) = []

-- ---- the point

-- the statement with the columns of the table that it updates, the floor of its undo where it fails, what it has left to do, and
-- what its scan has kept
pub record Point : Type 0 where
  pub statement : Statement
  pub columns : List Column
  pub floor : ℕ
  pub left : List Part
  pub kept : Haul

-- the columns of the table that the statement updates
abbrev pub updated_columns : Head → Statement → List Column
updated_columns head (st.Update t sets cond level) = columns_of head t
updated_columns head s = []

-- before its first own entry
abbrev pub start_point : Head → Conn → Setting → ℕ → Statement → Point
start_point head c set floor s =
    record { statement = s; columns = updated_columns head s; floor = floor; left = listed head c set s; kept = first_haul s }

-- ---- the step that is due

-- the step of the first part
abbrev pub due_by : Haul → List Part → Move
due_by kept (Asks name mode ∷ ps) = Move.Lock name mode
due_by kept (TableScan t want r ∷ ps) = Move.Look t (record { 0 = r }) want
due_by kept (IndexScan k at ∷ ps) = Move.Next k.index k.range at k.guarded
due_by kept (EntryLook k key r ∷ ps) = Move.Look k.table r k.want
due_by kept (Frees t r ∷ ps) = Move.Free t r
due_by kept (NewRow t row ∷ ps) = Move.Insert t
due_by kept (RowUpdate t r row ∷ ps) = Move.Update t r
due_by kept (RowDelete t r ∷ ps) = Move.Delete t r
due_by kept (Refuses code ∷ ps) = Move.Refuse code
due_by kept (Undos floor ∷ ps) = Move.Undo floor
due_by kept (Marks name ∷ ps) = Move.Mark name
due_by kept (Backs name ∷ ps) = Move.Back name
due_by kept (Sets level may_wait ∷ ps) = Move.Set level may_wait
due_by kept (Replies code changed ∷ ps) = Move.Reply code changed
due_by kept (Settles ∷ ps) = Move.Commit
due_by kept (Leaves code reason ∷ ps) = Move.RollbackEnd code reason
due_by kept (Claims ∷ ps) = Move.Claim
due_by kept (Collapses t ∷ ps) = Move.Collapse t
due_by kept _ = Move.Reply (haul_code kept) (haul_changed kept)

-- the step that is due
abbrev pub due : Point → Move
due p = due_by p.kept p.left

-- the row that the due step writes
abbrev pub row_by : List Part → List Value
row_by (NewRow t row ∷ ps) = row
row_by (RowUpdate t r row ∷ ps) = row
row_by _ = []

-- the same of a point
abbrev pub row_due : Point → List Value
row_due p = row_by p.left

-- the rows of the due reply
abbrev pub rows_by : Haul → List Part → List (List Value)
rows_by kept (Answer ∷ ps) = haul_rows kept
rows_by kept _ = []

-- the same of a point
abbrev pub rows_due : Point → List (List Value)
rows_due p = rows_by p.kept p.left

-- ---- changes

-- the code of a fault of assignments. // Db2 LUW, SQLCODE -802, -407
abbrev pub fault_code : Fault → ℤ
fault_code Overflow = minus 802
fault_code NullFault = minus 407

-- the change of a row that the scan kept: an UPDATE's row is the assigned one, or its fault
abbrev pub change_part : Statement → List Column → TableId → Rid × List Value → Part
change_part (st.Update u sets cond level) columns t k =
    elim (assigned columns sets.list k.1) [ Ok row ↦ RowUpdate t k.0 row | Err fault ↦ Refuses (fault_code fault) ]
change_part s columns t k = RowDelete t k.0

-- per kept row in scan order, X on the row and its change
abbrev pub change_parts : Statement → List Column → TableId → List (Rid × List Value) → List Part
change_parts s columns t [] = []
change_parts s columns t (k ∷ ks) = Asks (Row t k.0) X ∷ change_part s columns t k ∷ change_parts s columns t ks

-- the rows that are to be changed
abbrev pub found_rows : Haul → List (Rid × List Value)
found_rows (Found rows) = rows
found_rows _ = []

-- ---- looks

-- the row meets the condition: it is neither false nor unknown. // Db2 LUW, 'Search conditions'
abbrev pub is_true : Truth → Bool
is_true True = true
is_true _ = false

-- the row meets the condition
abbrev pub meets : Condition → List Value → Bool
meets cond row = is_true (truth row cond)

-- the row meets the statement's condition
abbrev pub meets_in : Statement → List Value → Bool
meets_in (st.Select t items cond level) row = meets cond row
meets_in (st.Update t sets cond level) row = meets cond row
meets_in (st.Delete t cond level) row = meets cond row
meets_in s row = false

-- in an index scan the row's key is the entry's key
abbrev pub has_entry_key : List Part → List Value → Bool
has_entry_key (EntryLook k key r ∷ ps) row = value_eq (value_at row k.column) key
has_entry_key _ row = true

-- a shown row is kept where it meets the condition and, in an index scan, its key is the entry's
abbrev pub is_kept : Point → Option (List Value) → Bool
is_kept p None = false
is_kept p (Some row) = has_entry_key p.left row && meets_in p.statement row

-- the row at which the due look looks
abbrev pub look_rid : List Part → Rid
look_rid (TableScan t want r ∷ ps) = record { 0 = r }
look_rid (EntryLook k key r ∷ ps) = r
look_rid _ = record { 0 = 0 }

-- the scan after a look
abbrev pub past_look : List Part → List Part
past_look (TableScan t want r ∷ ps) = TableScan t want (r + 1) ∷ ps
past_look (EntryLook k key r ∷ ps) = IndexScan k (Some (key, r)) ∷ ps
past_look ps = ps

-- a look whose Fresh lock is given back where its row is not kept
abbrev pub frees : Want → Bool
frees Steady = true
frees Alter = true
frees _ = false

-- the Free after a look with a Fresh hold whose row is not kept
abbrev pub freeing : List Part → List Part
freeing (TableScan t want r ∷ ps) = if frees want then Frees t (record { 0 = r }) ∷ [] else []
freeing (EntryLook k key r ∷ ps) = if frees k.want then Frees k.table r ∷ [] else []
freeing _ = []

-- what is kept with a shown row
abbrev pub kept_with : Point → Option (List Value) → Haul
kept_with p None = p.kept
kept_with p (Some row) = hauled p.kept (look_rid p.left) row (projected_by p.statement row)

-- the point after a look, by whether its row is kept
abbrev pub looked_by : Point → Option (List Value) → Bool → Bool → Point
looked_by p shown fresh true = record p { left = past_look p.left; kept = kept_with p shown }
looked_by p shown fresh false = record p { left = (if fresh then freeing p.left else []) ++ past_look p.left }

-- the point after a look that showed this
abbrev pub looked : Point → Option (List Value) → Bool → Point
looked p shown fresh = looked_by p shown fresh (is_kept p shown)

-- ---- what an answer makes of the point

-- all but the first part
abbrev pub behind : List Part → List Part
behind [] = []
behind (x ∷ xs) = xs

-- the scan is over: the changes of the rows that it kept come next
abbrev pub opened_out : Point → List Part → List Part
opened_out p (Changes t ∷ ps) = change_parts p.statement p.columns t (found_rows p.kept) ++ ps
opened_out p ps = ps

-- the scan stands at this entry
abbrev pub standing_at : Value → Rid → List Part → List Part
standing_at key r (IndexScan k at ∷ ps) = EntryLook k key r ∷ ps
standing_at key r ps = ps

-- a queued Lock that was asked for is done by its Claim; any other step is made anew after it
abbrev pub queued_up : List Part → List Part
queued_up (Asks name mode ∷ ps) = Claims ∷ ps
queued_up ps = Claims ∷ ps

-- nothing is left to undo: the Rollback or the reply is left
abbrev pub ending : List Part → List Part
ending [] = []
ending (Leaves code reason ∷ ps) = Leaves code reason ∷ []
ending (Replies code changed ∷ ps) = Replies code changed ∷ []
ending (x ∷ ps) = ending ps

-- a Back to a mark is followed by the Undos down to it; without the mark it is refused. // Db2 LUW, SQLCODE -880
abbrev pub backed_up : Option ℕ → List Part → List Part
backed_up (Some floor) ps = Undos floor ∷ behind ps
backed_up None ps = Refuses (minus 880) ∷ []

-- the point after what its step answered
abbrev pub told_point : Point → Told → Point
told_point p Told.Done = record p { left = behind p.left }
told_point p Told.Granted = record p { left = behind p.left }
told_point p Told.Queued = record p { left = queued_up p.left }
told_point p Told.Blocked = record p { left = Claims ∷ p.left }
told_point p Told.TimedOut = record p { left = rolling_list 68 }
told_point p (Told.Ended reason) = record p { left = rolling_list reason }
told_point p (Told.Escalates t) = record p { left = Collapses t ∷ p.left }
told_point p (Told.Refused code) = record p { left = failing_list p.floor code }
told_point p (Told.Shown shown fresh) = looked p shown fresh
told_point p Told.EndOfTable = record p { left = opened_out p (behind p.left) }
told_point p Told.Past = record p { left = opened_out p (behind p.left) }
told_point p (Told.At key r) = record p { left = standing_at key r p.left }
told_point p (Told.Undone true) = p
told_point p (Told.Undone false) = record p { left = ending p.left }
told_point p (Told.Floor mark) = record p { left = backed_up mark p.left }

-- the point after several answers
abbrev pub told_all : Point → List Told → Point
told_all p [] = p
told_all p (t ∷ ts) = told_all (told_point p t) ts
