-- The point of conduct that the inside of a task stands for, and what holds of that inside.
use Rattle.std.specs.List.{list_all}
use Rattle.std.specs.Prelude.{◌≡◌, ℕ, ◌+◌, ◌<◌, Bool, true, false, ◌&&◌, nat_lt, List, [], ◌∷◌, ◌++◌, map, length, drop, Option, Some, None, ℤ, pos, Ok, Err, Result, slice_index_or}
use Rattle.iso_conduct.specs.Parts as parts
use Rattle.iso_conduct.specs.Parts.{Part, replies}
use Rattle.iso_conduct.specs.Parts.Part.{Answer, Asks, Changes, Claims, Collapses, EntryLook, Frees, IndexScan, Leaves, NewRow, Refuses, Replies, Settles, TableScan, Undos}
use Rattle.iso_conduct.specs.Points.{Haul, Point, change_part, change_parts, fault_code}
use Rattle.iso_conduct.specs.Points.Haul.{Found, Given, Number}
use Rattle.iso_conduct.specs.declared.course.Course.{Course}
use Rattle.iso_conduct.specs.declared.course.End.{End}
use Rattle.iso_conduct.specs.declared.course.Found as kept
use Rattle.iso_conduct.specs.declared.course.Front.{Front}
use Rattle.iso_conduct.specs.declared.course.Place.{Place}
use Rattle.iso_conduct.specs.declared.course.Stage.{Stage}
use Rattle.iso_conduct.specs.declared.course.Then.{Then}
use Rattle.iso_conduct.specs.declared.course.Walk.{Walk}
use Rattle.iso_conduct.specs.declared.moves.Move.{Move}
use Rattle.iso_conduct.specs.declared.moves.Told.{Told}
use Rattle.iso_history.specs.Writes.{minus}
use Rattle.iso_predicate.specs.Assigned.{Fault, are_sound, assigned}
use Rattle.iso_predicate.specs.Truth.{is_within}
use Rattle.iso_sql.specs.declared.statement.Assignment.{Assignment}
use Rattle.iso_sql.specs.declared.statement.Items2.{Items2}
use Rattle.iso_sql.specs.declared.statement.Items2.TheVariants.{Columns}
use Rattle.iso_sql.specs.declared.statement.Statement.{Statement}
use Rattle.iso_sql.specs.declared.statement.Statement.TheVariants as st
use Rattle.iso_types.specs.Head.{all_fit, row_fits}
use Rattle.iso_types.specs.declared.head.Column.{Column}
use Rattle.iso_types.specs.declared.head.Head.{Head}
use Rattle.iso_types.specs.declared.head.TableDef.{TableDef}
use Rattle.iso_types.specs.declared.value.Name.TheVariants.{Row, Table}
use Rattle.iso_types.specs.declared.value.Rid.{Rid}
use Rattle.iso_types.specs.declared.value.TableId.{TableId}
use Rattle.iso_types.specs.declared.value.Value.{Value}
use Rattle.iso_types.specs.declared.value.Value.TheVariants.{Int}

-- an index scan
abbrev pub walk_of : Walk → parts.Walk
walk_of k = record { table = k.table; want = k.want; index = k.index; column = k.column; range = k.range; guarded = k.guarded }

-- the scan as a part
abbrev pub part_of : Walk → Place → Part
part_of k (Place.Slot r) = TableScan k.table k.want r
part_of k (Place.Behind at) = IndexScan (walk_of k) at
part_of k (Place.Entry key r) = EntryLook (walk_of k) key r

abbrev pub end_part : End → Part
end_part (End.Replies code changed) = Replies code changed
end_part (End.Leaves code reason) = Leaves code reason

-- a kept row as the point has it
abbrev pub pair_of : kept.Found → Rid × List Value
pair_of k = (k.rid, k.row)

-- the rows as the point has them
abbrev pub pairs_of : List kept.Found → List (Rid × List Value)
pairs_of ks = map pair_of ks

-- a kept row by its place
abbrev pub found_at : List kept.Found → ℕ → kept.Found
found_at ks i = slice_index_or ks i (record { rid = record { 0 = 0 }; row = [] })

-- what a scan of the statement kept; a number where it is counted
abbrev pub haul_of : Statement → Option ℕ → List (List Value) → List (Rid × List Value) → Haul
haul_of s (Some n) rows found = Number n
haul_of (st.Select t items cond level) None rows found = Given rows
haul_of s None rows found = Found found

-- the columns of the table that is updated
abbrev pub columns_in : Option TableDef → List Column
columns_in None = []
columns_in (Some d) = d.columns

-- what follows the scan
abbrev pub after_scan : TableId → Statement → List Part
after_scan t (st.Update u sets cond level) = Changes t ∷ Answer ∷ []
after_scan t (st.Delete u cond level) = Changes t ∷ Answer ∷ []
after_scan t s = Answer ∷ []

-- the row of an INSERT
abbrev pub inserted : Statement → List Value
inserted (st.Insert t row) = row
inserted s = []

-- what follows the lock of the table
abbrev pub after_lock : TableId → Statement → Part → Then → List Part
after_lock t s look Then.Scan = look ∷ after_scan t s
after_lock t s look Then.NewRow = NewRow t (inserted s) ∷ replies 1
after_lock t s look Then.NoRow = Refuses (minus 407) ∷ replies 1
after_lock t s look Then.Reply = replies 0

-- the list from a stage on
abbrev pub left_at : TableId → Statement → List Column → Part → List kept.Found → Stage → List Part
left_at t s columns look found (Stage.Lock mode then') = Asks (Table t) mode ∷ after_lock t s look then'
left_at t s columns look found Stage.Scan = look ∷ after_scan t s
left_at t s columns look found (Stage.RowLock i) = change_parts s columns t (pairs_of (drop i found)) ++ Answer ∷ []
left_at t s columns look found (Stage.RowWait i) =
    change_part s columns t (pair_of (found_at found i)) ∷ change_parts s columns t (pairs_of (drop (i + 1) found)) ++ Answer ∷ []
left_at t s columns look found (Stage.RowChange i) =
    change_part s columns t (pair_of (found_at found i)) ∷ change_parts s columns t (pairs_of (drop (i + 1) found)) ++ Answer ∷ []
left_at t s columns look found Stage.NewRow = NewRow t (inserted s) ∷ replies 1
left_at t s columns look found Stage.NoRow = Refuses (minus 407) ∷ replies 1
left_at t s columns look found (Stage.Marks name) = Part.Marks name ∷ replies 0
left_at t s columns look found (Stage.Backs name) = Part.Backs name ∷ replies 0
left_at t s columns look found Stage.NoMark = Refuses (minus 880) ∷ []
left_at t s columns look found (Stage.Sets level may_wait) = Part.Sets level may_wait ∷ replies 0
left_at t s columns look found (Stage.Undos floor end) = Undos floor ∷ end_part end ∷ []
left_at t s columns look found (Stage.Ends end) = end_part end ∷ []
left_at t s columns look found Stage.Answer = Answer ∷ []
left_at t s columns look found Stage.Settles = Settles ∷ []
left_at t s columns look found Stage.Over = []

-- what stands in front
abbrev pub with_front : TableId → Front → List Part → List Part
with_front t Front.Nothing ps = ps
with_front t Front.Claims ps = Claims ∷ ps
with_front t (Front.Collapses u) ps = Collapses u ∷ ps
with_front t (Front.ClaimsCollapses u) ps = Claims ∷ Collapses u ∷ ps
with_front t (Front.Frees r) ps = Frees t r ∷ ps

-- the list from its stage on
abbrev pub staged : Course → List Part
staged c = left_at c.table c.statement (columns_in c.updates) (part_of c.walk c.place) c.found c.stage

abbrev pub left_of : Course → List Part
left_of c = with_front c.walk.table c.front (staged c)

abbrev pub point_of : Course → Point
point_of c = record { statement = c.statement; columns = columns_in c.updates; floor = c.floor; left = left_of c; kept = haul_of c.statement c.tally c.rows (pairs_of c.found) }

-- ---- what holds of a course

abbrev pub scans : Statement → Bool
scans (st.Select t items cond level) = true
scans (st.Update t sets cond level) = true
scans (st.Delete t cond level) = true
scans s = false

abbrev pub changes : Statement → Bool
changes (st.Update t sets cond level) = true
changes (st.Delete t cond level) = true
changes s = false

abbrev pub inserts : Statement → Bool
inserts (st.Insert t row) = true
inserts s = false

-- the worked out row, or the code of its fault
abbrev pub GivesRow : Result (List Value) Fault → List Value → Option ℤ → Type 0
GivesRow (Ok row) given code = (given ≡ row) × (code ≡ None)
GivesRow (Err fault) given code = code ≡ Some (fault_code fault)

-- the change of a row is worked out
abbrev pub IsAssigned : Statement → List Column → List Value → List Value → Option ℤ → Type 0
IsAssigned (st.Update t sets cond level) columns row given code = GivesRow (assigned columns sets.list row) given code
IsAssigned s columns row given code = Unit {0}

abbrev pub IsAfterLock : Statement → Then → Type 0
IsAfterLock s Then.Scan = scans s ≡ true
IsAfterLock s Then.NewRow = inserts s ≡ true
IsAfterLock s _ = Unit {0}

-- what a stage asks of its course
abbrev pub IsSoundAt : Stage → Course → Type 0
IsSoundAt (Stage.Lock mode then') c = IsAfterLock c.statement then'
IsSoundAt Stage.Scan c = scans c.statement ≡ true
IsSoundAt (Stage.RowLock i) c = (i < length c.found) × (changes c.statement ≡ true)
IsSoundAt (Stage.RowWait i) c = (i < length c.found) × (changes c.statement ≡ true) × (c.front ≡ Front.Claims)
IsSoundAt (Stage.RowChange i) c =
    (i < length c.found) × (changes c.statement ≡ true) × IsAssigned c.statement (columns_in c.updates) (found_at c.found i).row c.assigned c.fault
IsSoundAt Stage.NewRow c = inserts c.statement ≡ true
IsSoundAt _ c = Unit {0}

-- an UPDATE knows its table, and its assignments and kept rows fit it
abbrev pub FitsUpdate : Statement → Option TableDef → List kept.Found → Type 0
FitsUpdate (st.Update t sets cond level) (Some d) found = (are_sound d.columns sets.list ≡ true) × (list_all (λ k. all_fit d.columns k.row) found ≡ true)
FitsUpdate (st.Update t sets cond level) None found = ⊥
FitsUpdate s updates found = Unit {0}

-- the row of a COUNT is there from the start, so that a reply takes no memory
abbrev pub IsCounted : Statement → Option ℕ → List (List Value) → Type 0
IsCounted s None rows = Unit {0}
IsCounted (st.Select t items cond level) (Some n) rows = rows ≡ (Int (pos 0) ∷ []) ∷ []
IsCounted s (Some n) rows = ⊥

pub record IsSound (c : Course) : Type 0 where
  pub at : IsSoundAt c.stage c
  pub few : length c.found < 4294967296
  pub update : FitsUpdate c.statement c.updates c.found
  pub counted : IsCounted c.statement c.tally c.rows

-- the change of a worked out row, by its fault
abbrev pub change_by : Statement → TableId → Rid → List Value → Option ℤ → Part
change_by (st.Update u sets cond level) t r row None = Part.RowUpdate t r row
change_by (st.Update u sets cond level) t r row (Some code) = Refuses code
change_by s t r row fault = Part.RowDelete t r

abbrev pub change_of : Course → Rid → Part
change_of c r = change_by c.statement c.table r c.assigned c.fault

-- the course's list from another stage on
abbrev pub left_with : Course → Stage → List Part
left_with c stage = left_at c.table c.statement (columns_in c.updates) (part_of c.walk c.place) c.found stage

-- the assignments of an UPDATE
abbrev pub sets_of : Statement → List Assignment
sets_of (st.Update t sets cond level) = sets.list
sets_of s = []

abbrev pub is_update : Statement → Bool
is_update (st.Update t sets cond level) = true
is_update s = false

-- a lock is due on a row
abbrev pub is_row_lock : Stage → Bool
is_row_lock (Stage.RowLock i) = true
is_row_lock stage = false

abbrev pub is_scan : Stage → Bool
is_scan Stage.Scan = true
is_scan stage = false

-- the point with this left
abbrev pub with_left : Point → List Part → Point
with_left p ps = record p { left = ps }

-- ---- shown rows

-- each column of these is in a row of this width
abbrev pub items_within : ℕ → Items2 → Bool
items_within width (Columns ks) = list_all (λ k. nat_lt k width) ks
items_within width items = true

-- the columns that the statement reads are in the row; of an UPDATE's table the row is one
abbrev pub reads_within : Statement → List Column → List Value → Bool
reads_within (st.Select t items cond level) columns row = is_within (length row) cond && items_within (length row) items
reads_within (st.Update t sets cond level) columns row = is_within (length row) cond && all_fit columns row
reads_within (st.Delete t cond level) columns row = is_within (length row) cond
reads_within s columns row = true

-- in an index scan the key's column is in a row of this width
abbrev pub keyed_within : ℕ → List Part → Bool
keyed_within width (EntryLook k key r ∷ ps) = nat_lt k.column width
keyed_within width ps = true

-- it is in the row
abbrev pub key_within : List Part → List Value → Bool
key_within ps row = keyed_within (length row) ps

-- the row is one of the statement's table
abbrev pub fits_table : Head → Statement → List Value → Bool
fits_table head (st.Select t items cond level) row = row_fits head t row
fits_table head (st.Update t sets cond level) row = row_fits head t row
fits_table head (st.Delete t cond level) row = row_fits head t row
fits_table head s row = true

-- how many rows the scan kept
abbrev pub haul_size : Haul → ℕ
haul_size (Number n) = n
haul_size (Given rows) = length rows
haul_size (Found rows) = length rows

-- the slot at which a table scan looks
abbrev pub scan_slot : List Part → ℕ
scan_slot (TableScan t want r ∷ ps) = r
scan_slot ps = 0

-- the row has the columns that are read of it
abbrev pub suits : Point → List Value → Bool
suits p row = reads_within p.statement p.columns row && key_within p.left row

-- what may be told: a shown row fits the statement, and what is counted stays below 2^32
abbrev pub MayTell : Point → Told → Type 0
MayTell p (Told.Shown shown fresh) = (scan_slot p.left + 1 < 4294967296) × (haul_size p.kept + 1 < 4294967296) × ((row : List Value) → shown ≡ Some row → suits p row ≡ true)
MayTell p t = Unit {0}

-- the lock of a row is due
abbrev pub asks_row : List Part → Bool
asks_row (Asks (Row t r) mode ∷ ps) = true
asks_row _ = false

-- the change of a row is due, or its fault
abbrev pub is_row_change : List Part → Bool
is_row_change (Part.RowUpdate t r row ∷ ps) = true
is_row_change (Refuses code ∷ ps) = true
is_row_change _ = false

-- a wait before it
abbrev pub awaits_change : List Part → Bool
awaits_change (Claims ∷ ps) = is_row_change ps
awaits_change _ = false

-- the answers that may take memory: a shown row; and of an UPDATE the lock on a row, when it is there or its wait is over
abbrev pub takes_memory : Point → Told → Bool
takes_memory p (Told.Shown shown fresh) = true
takes_memory p Told.Done = is_update p.statement && asks_row p.left
takes_memory p Told.Granted = is_update p.statement && awaits_change p.left
takes_memory p t = false

-- a kept row fits the table that an UPDATE changes
abbrev pub KeptFits : Statement → Option TableDef → List Value → Type 0
KeptFits (st.Update t sets cond level) (Some d) row = all_fit d.columns row ≡ true
KeptFits s updates row = Unit {0}

abbrev pub is_undo : Stage → Bool
is_undo (Stage.Undos floor end) = true
is_undo stage = false

abbrev pub is_back : Stage → Bool
is_back (Stage.Backs name) = true
is_back stage = false

-- the step writes a row that it is given
abbrev pub is_write : Move → Bool
is_write (Move.Insert t) = true
is_write (Move.Update t r) = true
is_write m = false
