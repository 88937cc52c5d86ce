-- The own entries of each statement, in order: what is listed for it, with levels, modes, wants and path settled.
use Rattle.std.specs.Option.{option_map_or}
use Rattle.std.specs.Prelude.{ℕ, Bool, true, false, List, [], ◌∷◌, Option, None, if◌then◌else◌, ℤ, pos, unwrap_or, slice_get}
use Rattle.iso_history.specs.Settings.{first_setting}
use Rattle.iso_history.specs.World.{Setting}
use Rattle.iso_history.specs.Writes.{minus}
use Rattle.iso_history.specs.declared.entry.Want.{Want}
use Rattle.iso_history.specs.declared.entry.Want.TheVariants.{Alter, AlterKept, Current, Dirty, Repeat, Steady}
use Rattle.iso_modes.specs.declared.Mode.{Mode}
use Rattle.iso_modes.specs.declared.Mode.TheVariants.{In, Is, Ix, S, X}
use Rattle.iso_predicate.specs.Assigned.{has_null}
use Rattle.iso_predicate.specs.Plan.{plan_of}
use Rattle.iso_predicate.specs.declared.plans.Path.{Path}
use Rattle.iso_sql.specs.Sound.{columns_of}
use Rattle.iso_sql.specs.declared.statement.Statement.{Statement}
use Rattle.iso_sql.specs.declared.statement.Statement.TheVariants as st
use Rattle.iso_types.specs.declared.head.Head.{Head}
use Rattle.iso_types.specs.declared.head.Isolation.{Isolation}
use Rattle.iso_types.specs.declared.head.Isolation.TheVariants.{Cs, Rr, Rs, Ur}
use Rattle.iso_types.specs.declared.head.Range.{Range}
use Rattle.iso_types.specs.declared.value.Conn.{Conn}
use Rattle.iso_types.specs.declared.value.IndexId.{IndexId}
use Rattle.iso_types.specs.declared.value.Name.{Name}
use Rattle.iso_types.specs.declared.value.Name.TheVariants.{Table}
use Rattle.iso_types.specs.declared.value.Rid.{Rid}
use Rattle.iso_types.specs.declared.value.TableId.{TableId}
use Rattle.iso_types.specs.declared.value.Value.{Value}

-- an index scan: its table and want, the index with the column of its keys, the range, and whether each step locks a key
pub record Walk : Type 0 where
  pub table : TableId
  pub want : Want
  pub index : IndexId
  pub column : ℕ
  pub range : Range
  pub guarded : Bool

-- what a statement has to do. A scan stands for the looks from its place on, Changes for a lock and a change of each row that
-- the scan keeps, Undos for the undoing of all records from a floor on.
--     Asks                     a lock
--     TableScan                the looks from this rid on
--     IndexScan, EntryLook     the steps from behind this entry on; the look at the entry where the scan stands
--     Frees                    the Free of a row that was not kept
--     Changes                  per kept row in scan order, X on the row and its change
--     NewRow .. RowDelete      a write
--     Refuses                  a refusal that no step finds: -407, -802, -880
--     Answer, Replies          the reply with what the scan kept; a reply without rows
--     Settles, Leaves          Commit; Rollback
--     Claims, Collapses        what comes between: the Claim of a wait, the Collapse of an escalation
pub data Part : Type 0 where
  Asks : (name : Name) → (mode : Mode) → Part
  TableScan : (table : TableId) → (want : Want) → (rid : ℕ) → Part
  IndexScan : (walk : Walk) → (at : Option (Value × Rid)) → Part
  EntryLook : (walk : Walk) → (key : Value) → (rid : Rid) → Part
  Frees : (table : TableId) → (rid : Rid) → Part
  Changes : (table : TableId) → Part
  NewRow : (table : TableId) → (row : List Value) → Part
  RowUpdate : (table : TableId) → (rid : Rid) → (row : List Value) → Part
  RowDelete : (table : TableId) → (rid : Rid) → Part
  Refuses : (code : ℤ) → Part
  Undos : (floor : ℕ) → Part
  Marks : (name : List ℕ) → Part
  Backs : (name : List ℕ) → Part
  Sets : (level : Isolation) → (may_wait : Bool) → Part
  Answer : Part
  Replies : (code : ℤ) → (changed : ℕ) → Part
  Settles : Part
  Leaves : (code : ℤ) → (reason : ℕ) → Part
  Claims : Part
  Collapses : (table : TableId) → Part

-- the level of the WITH clause, else the connection's
abbrev pub level_in : Setting → Option Isolation → Isolation
level_in set level = unwrap_or level set.level

-- a SELECT's lock on its table: IN at UR, S for an RR table scan, else IS. // Db2 LUW, 'Lock modes and access plans'
abbrev pub select_mode : Isolation → Path → Mode
select_mode Ur path = In
select_mode Rr Path.Table = S
select_mode level path = Is

-- what a SELECT's looks want; at CS as CUR_COMMIT says. // Db2 LUW, 'Currently committed semantics', 'Isolation levels'
abbrev pub select_want : Bool → Isolation → Want
select_want cur_commit Ur = Dirty
select_want cur_commit Cs = if cur_commit then Current else Want.Settled
select_want cur_commit Rs = Steady
select_want cur_commit Rr = Repeat

-- the lock of an UPDATE or DELETE on its table: X for an RR table scan, else IX; a change under UR works as under CS
abbrev pub change_mode : Isolation → Path → Mode
change_mode Rr Path.Table = X
change_mode level path = Ix

-- what the looks of an UPDATE or DELETE want
abbrev pub change_want : Isolation → Want
change_want Rr = AlterKept
change_want level = Alter

-- the steps of an index scan lock their keys at RR
abbrev pub guards_keys : Isolation → Bool
guards_keys Rr = true
guards_keys level = false

-- the column of an index's keys
abbrev pub key_column : Head → IndexId → ℕ
key_column head i = option_map_or (λ d. d.column) (slice_get head.indexes i.0) 0

-- the scan by a path, before its first entry
abbrev pub scan : Head → TableId → Want → Isolation → Path → Part
scan head t want level Path.Table = TableScan t want 0
scan head t want level (Path.Index i range) =
    IndexScan (record { table = t; want = want; index = i; column = key_column head i; range = range; guarded = guards_keys level }) None

-- SELECT: Lock on the table, scan, Reply
abbrev pub select_list : Head → TableId → Isolation → Path → List Part
select_list head t level path =
    Asks (Table t) (select_mode level path) ∷ scan head t (select_want head.config.cur_commit level) level path ∷ Answer ∷ []

-- UPDATE, DELETE: Lock on the table, scan, the changes, Reply
abbrev pub change_list : Head → TableId → Isolation → Path → List Part
change_list head t level path =
    Asks (Table t) (change_mode level path) ∷ scan head t (change_want level) level path ∷ Changes t ∷ Answer ∷ []

-- a new row, or its refusal where it has a NULL in a NOT NULL column. // Db2 LUW, SQLCODE -407
abbrev pub new_row : Head → TableId → List Value → Part
new_row head t row = if has_null (columns_of head t) row then Refuses (minus 407) else NewRow t row

-- a reply with code 0, this number of changes and no rows
abbrev pub replies : ℕ → List Part
replies changed = Replies (pos 0) changed ∷ []

-- the own entries of each statement of a connection with these settings, in order
abbrev pub listed : Head → Conn → Setting → Statement → List Part
listed head c set (st.Select t items cond level) = select_list head t (level_in set level) (plan_of head t cond)
listed head c set (st.Update t sets cond level) = change_list head t (level_in set level) (plan_of head t cond)
listed head c set (st.Delete t cond level) = change_list head t (level_in set level) (plan_of head t cond)
listed head c set (st.Insert t row) = Asks (Table t) Ix ∷ new_row head t row ∷ replies 1
listed head c set (st.LockTable t mode) = Asks (Table t) mode ∷ replies 0
listed head c set (st.Savepoint name) = Marks name ∷ replies 0
listed head c set (st.RollbackTo name) = Backs name ∷ replies 0
listed head c set st.Rollback = Undos 0 ∷ Leaves (pos 0) 0 ∷ []
listed head c set st.Commit = Settles ∷ []
listed head c set (st.SetIsolation level) = Sets (unwrap_or level (first_setting head c).level) set.may_wait ∷ replies 0
listed head c set (st.SetWait may_wait) = Sets set.level may_wait ∷ replies 0

-- after a refusal: the statement's changes are undone, then comes a reply with the code, no changes and no rows
abbrev pub failing_list : ℕ → ℤ → List Part
failing_list floor code = Undos floor ∷ Replies code 0 ∷ []

-- a unit that has to end: all its changes are undone, then it is rolled back with -911 and this reason. // Db2 LUW, SQLCODE -911
abbrev pub rolling_list : ℕ → List Part
rolling_list reason = Undos 0 ∷ Leaves (minus 911) reason ∷ []
