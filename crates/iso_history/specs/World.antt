-- All that a history makes of its head.
use Rattle.std.specs.Prelude.{ℕ, Bool, List, if◌then◌else◌, Option}
use Rattle.iso_modes.specs.declared.Mode.{Mode}
use Rattle.iso_queue.specs.Locks.{Hold}
use Rattle.iso_queue.specs.Queues.{Wait}
use Rattle.iso_record.specs.declared.record.Change.{Change}
use Rattle.iso_types.specs.Ids.{conn_eq}
use Rattle.iso_types.specs.declared.head.Isolation.{Isolation}
use Rattle.iso_types.specs.declared.value.Conn.{Conn}
use Rattle.iso_types.specs.declared.value.Rid.{Rid}
use Rattle.iso_types.specs.declared.value.TableId.{TableId}
use Rattle.iso_types.specs.declared.value.Value.{Value}

-- a version of a slot: the unit and the record that made it, its row or Absent, and whether it is pending;
-- the versions that the head gives have unit 0, which no unit has
pub record Version : Type 0 where
  pub unit : ℕ
  pub number : ℕ
  pub row : Option (List Value)
  pub pending : Bool

-- a record of the log
pub record Note : Type 0 where
  pub unit : ℕ
  pub table : TableId
  pub rid : Rid
  pub undoes : Option ℕ
  pub prev_row : Option ℕ
  pub prev_unit : Option ℕ

-- what a Set carries
pub record Setting : Type 0 where
  pub level : Isolation
  pub may_wait : Bool

-- a savepoint's name, and `count` at its Mark
pub record MarkAt : Type 0 where
  pub name : List ℕ
  pub at : ℕ

-- what the definitions ask of a connection's last own entry
pub data Last : Type 0 where
  Looked : (table : TableId) → (rid : Rid) → Last
  Awaits : (table : TableId) → (mode : Mode) → Last
  Claimed : Last
  Other : Last

-- the dispatcher: its last entry is a Purge; somebody's Stopped stands, and its own; Finish stands
pub record Pace : Type 0 where
  pub purged : Bool
  pub stopped : Bool
  pub halted : Bool
  pub finished : Bool

--     made, begun      the numbers of entries, and of units begun
--     unit, line       of a connection: its open unit; the line of its open statement
--     floor            `count` at the Dispatch of its last statement: a failed one is undone down to it
--     doom             the reason for which it has to roll back
--     tables           for each table its slots, for each slot its versions, newest first
--     changes          of each record what it did, an update with the old values of the changed columns
--     entries          for each index its pairs (key, rid), in order
--     waits            the queues of all names in one list
--     last, due        what is asked of a connection's last own entry; the Collapse that is due
pub record World : Type 0 where
  pub made : ℕ
  pub begun : ℕ
  pub unit : Conn → Option ℕ
  pub line : Conn → Option ℕ
  pub floor : Conn → ℕ
  pub setting : Conn → Setting
  pub doom : Conn → Option ℕ
  pub closing : Conn → Bool
  pub ended : Conn → Bool
  pub tables : List (List (List Version))
  pub records : List Note
  pub changes : List Change
  pub entries : List (List (Value × Rid))
  pub holds : List Hold
  pub waits : List Wait
  pub marks : Conn → List MarkAt
  pub last : Conn → Last
  pub due : Conn → Option (TableId × Mode)
  pub pace : Pace

-- the function with another value at one connection
abbrev pub at_conn : {A : Type 0} → (Conn → A) → Conn → A → Conn → A
at_conn f c v d = if conn_eq d c then v else f d
