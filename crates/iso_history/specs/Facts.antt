-- Facts that each legal history keeps, on its world.
use Rattle.std.specs.Option.{option_map_or}
use Rattle.std.specs.Prelude.{◌≡◌, ◌≤◌, ℕ, Bool, true, false, not, ◌&&◌, ◌||◌, List, is_some, is_none, Some, length, count_by, Contains}
use Rattle.std.specs.List.{list_all, list_any}
use Rattle.iso_history.specs.Entries.{entries_of}
use Rattle.iso_history.specs.Requests.{is_row_mode, is_table_mode, is_there, table_mode}
use Rattle.iso_history.specs.Courses.{OnCourse, RecordsBegun}
use Rattle.iso_history.specs.Fitted.{RowsFit}
use Rattle.iso_history.specs.Linked.{AllLinked, AllOwned}
use Rattle.iso_history.specs.Orders.{EntriesOrdered, VersionsLayered, VersionsLogged}
use Rattle.iso_history.specs.Piles.{AllPiled, LeftPends, NotesBegun}
use Rattle.iso_history.specs.Recorded.{AllRecorded}
use Rattle.iso_history.specs.Versions.{versions}
use Rattle.iso_history.specs.World.{Version, World}
use Rattle.iso_history.specs.World.Last.{Awaits}
use Rattle.iso_modes.specs.Modes.{at_least, compatible, covers, mode_eq}
use Rattle.iso_modes.specs.Terms.{is_kept}
use Rattle.iso_modes.specs.declared.Mode.{Mode}
use Rattle.iso_modes.specs.declared.Mode.TheVariants.{Ix, S, Six, X}
use Rattle.iso_queue.specs.Locks.{Hold, held, hold_on, holds_at_least, is_covered, is_hold_of, target, was_brief}
use Rattle.iso_queue.specs.Queues.{Wait, is_waiting, wait_of}
use Rattle.iso_types.specs.Head.{indexes_of, is_conn, key_in, table_of}
use Rattle.iso_types.specs.Ids.{conn_eq, pair_eq}
use Rattle.iso_types.specs.declared.head.Head.{Head}
use Rattle.iso_types.specs.declared.value.Conn.{Conn}
use Rattle.iso_types.specs.declared.value.IndexId.{IndexId}
use Rattle.iso_types.specs.declared.value.Name.{Name}
use Rattle.iso_types.specs.declared.value.Name.TheVariants.{Row, Table}
use Rattle.iso_types.specs.declared.value.Rid.{Rid}
use Rattle.iso_types.specs.declared.value.TableId.{TableId}
use Rattle.iso_types.specs.declared.value.Value.{Value}

-- no connection holds a name twice
unfoldable pub AreSingle : List Hold → Type 0
AreSingle holds = (c : Conn) (n : Name) → count_by (is_hold_of c n) holds ≤ 1

-- no connection has two waits
unfoldable pub AreAlone : List Wait → Type 0
AreAlone waits = (c : Conn) → count_by (λ x. conn_eq x.conn c) waits ≤ 1

-- two connections that hold one name hold modes that go together
unfoldable pub GoTogether : List Hold → Type 0
GoTogether holds = (c d : Conn) (n : Name) (h g : Hold) → conn_eq c d ≡ false
    → hold_on holds c n ≡ Some h → hold_on holds d n ≡ Some g → compatible h.mode g.mode ≡ true

-- who holds a row or key name holds its table in IS or more, in IX or more where the mode is U, X or NW
unfoldable pub HoldsBacked : Head → List Hold → Type 0
HoldsBacked head holds = (c : Conn) (n : Name) (t : TableId) (h : Hold) → table_of head n ≡ Some t
    → hold_on holds c n ≡ Some h → holds_at_least holds c (Table t) (table_mode h.mode) ≡ true

-- so does who awaits one
unfoldable pub WaitsBacked : Head → List Hold → List Wait → Type 0
WaitsBacked head holds waits = (c : Conn) (t : TableId) (x : Wait) → wait_of waits c ≡ Some x
    → table_of head x.name ≡ Some t → holds_at_least holds c (Table t) (table_mode x.target) ≡ true

-- each name that is held or awaited is there
unfoldable pub HoldsThere : Head → World → Type 0
HoldsThere head w = (c : Conn) (n : Name) (h : Hold) → hold_on w.holds c n ≡ Some h → is_there head w n ≡ true

-- each name that is awaited is there
unfoldable pub WaitsThere : Head → World → Type 0
WaitsThere head w = (c : Conn) (x : Wait) → wait_of w.waits c ≡ Some x → is_there head w x.name ≡ true

-- a lock on a table is kept to the unit's end
unfoldable pub TablesKept : List Hold → Type 0
TablesKept holds = (c : Conn) (t : TableId) (h : Hold) → hold_on holds c (Table t) ≡ Some h → is_kept h.term ≡ true

-- and awaited to be kept
unfoldable pub TablesAwaited : List Wait → Type 0
TablesAwaited waits = (c : Conn) (t : TableId) (x : Wait) → wait_of waits c ≡ Some x → x.name ≡ Table t → is_kept x.term ≡ true

-- the modes in which a name is held: those that it is asked for, and their joins
abbrev pub suits_held : Name → Mode → Bool
suits_held (Table t) m = is_table_mode m || mode_eq m Six
suits_held n m = is_row_mode m

-- each name is held in a mode that suits it
unfoldable pub ModesSuit : List Hold → Type 0
ModesSuit holds = (c : Conn) (n : Name) (h : Hold) → hold_on holds c n ≡ Some h → suits_held n h.mode ≡ true

-- and awaited in one
unfoldable pub TargetsSuit : List Wait → Type 0
TargetsSuit waits = (c : Conn) (x : Wait) → wait_of waits c ≡ Some x → suits_held x.name x.target ≡ true

-- each table of the head has its slots, and each index its pairs
pub record HasParts (head : Head) (w : World) : Type 0 where
  pub tables : length w.tables ≡ length head.tables
  pub entries : length w.entries ≡ length head.indexes

-- a statement of the connection is open, and it need not roll back, does not close and has not ended
pub record IsOpen (w : World) (c : Conn) : Type 0 where
  pub line : is_none (w.line c) ≡ false
  pub doom : is_some (w.doom c) ≡ false
  pub closing : w.closing c ≡ false
  pub ended : w.ended c ≡ false

-- so it is of who waits: its phase is Waiting
unfoldable pub WaitersOpen : World → Type 0
WaitersOpen w = (c : Conn) (x : Wait) → wait_of w.waits c ≡ Some x → IsOpen w c

-- the mode covers all that the connection holds on the table
abbrev pub CoversAll : Head → List Hold → Conn → TableId → Mode → Type 0
CoversAll head holds c t m = (n : Name) (h : Hold) → table_of head n ≡ Some t → hold_on holds c n ≡ Some h → covers m h.mode ≡ true

-- where a Collapse is due, the table's lock covers all that is held on it
unfoldable pub DuesCover : Head → World → Type 0
DuesCover head w = (c : Conn) (t : TableId) (m : Mode) → w.due c ≡ Some (t, m)
    → (a : Mode) × (held w.holds c (Table t) ≡ Some a) × CoversAll head w.holds c t a

-- the lock that an escalation awaits will cover all that is held on its table
unfoldable pub AwaitedCovers : Head → World → Type 0
AwaitedCovers head w = (c : Conn) (t : TableId) (m : Mode) (x : Wait) → w.last c ≡ Awaits t m → wait_of w.waits c ≡ Some x
    → (x.name ≡ Table t) × CoversAll head w.holds c t (target w.holds c (Table t) x.target)

-- the connection has a kept hold on the name in this mode or more
abbrev pub keeps_mode : List Hold → Conn → Name → Mode → Bool
keeps_mode holds c n m = option_map_or (λ h. is_kept h.term && at_least h.mode m) (hold_on holds c n) false

-- the connection keeps X on the row, or has a table lock that covers it
abbrev pub has_write_lock : Head → List Hold → Conn → TableId → Rid → Bool
has_write_lock head holds c t r = is_covered head holds c (Row t r) X || keeps_mode holds c (Row t r) X

-- open units are apart, and have been begun
pub record UnitsApart (w : World) : Type 0 where
  pub begun : (c : Conn) (u : ℕ) → w.unit c ≡ Some u → (1 ≤ u) × (u ≤ w.begun)
  pub apart : (c d : Conn) (u : ℕ) → w.unit c ≡ Some u → w.unit d ≡ Some u → conn_eq c d ≡ true

-- the maker of a pending version: its unit is open, and it holds the row for writing
pub record Maker (head : Head) (w : World) (t : TableId) (r : Rid) (v : Version) : Type 0 where
  pub conn : Conn
  pub open_unit : w.unit conn ≡ Some v.unit
  pub locks : has_write_lock head w.holds conn t r ≡ true
  pub writes : holds_at_least w.holds conn (Table t) Ix ≡ true

-- each pending version has its maker
unfoldable pub MakersHold : Head → World → Type 0
MakersHold head w = (t : TableId) (r : Rid) (v : Version) → Contains (versions w t r) v → v.pending ≡ true → Maker head w t r v

-- every version's key has its entry
unfoldable pub KeysStand : Head → World → Type 0
KeysStand head w = (i : IndexId) (t : TableId) (r : Rid) (v : Version) (row : List Value) → Contains (indexes_of head t) i
    → Contains (versions w t r) v → v.row ≡ Some row → list_any (pair_eq (key_in head i row, r)) (entries_of w i) ≡ true

-- whose statement is open, has an open unit
unfoldable pub LinesOpen : World → Type 0
LinesOpen w = (c : Conn) (k : ℕ) → w.line c ≡ Some k → is_some (w.unit c) ≡ true

-- each table has its list of slots
unfoldable pub TablesThere : Head → World → Type 0
TablesThere head w = length w.tables ≡ length head.tables

-- the name is a row's
abbrev pub is_row : Name → Bool
is_row (Row t r) = true
is_row n = false

-- X or more on a row is kept to the unit's end
unfoldable pub is_kept_write : Hold → Bool
is_kept_write h = not (is_row h.name && at_least h.mode X) || is_kept h.term

-- so is each
unfoldable pub WritesKept : List Hold → Type 0
WritesKept holds = list_all is_kept_write holds ≡ true

-- and who awaits what makes X or more on a row, will keep it
unfoldable pub WritesAwaited : List Hold → List Wait → Type 0
WritesAwaited holds waits = (c : Conn) (x : Wait) → wait_of waits c ≡ Some x → is_row x.name ≡ true
    → at_least (target holds c x.name x.target) X ≡ true → (is_kept x.term || holds_at_least holds c x.name X) ≡ true

-- the mode is S, X or Z: no lock of a row needs to stand under it, the writer's no more than the reader's
abbrev pub is_whole : Mode → Bool
is_whole m = covers m S && (not (at_least m Ix) || covers m X)

-- where a Collapse is due, the table is held in its mode, and so whole
unfoldable pub DuesHeld : World → Type 0
DuesHeld w = (c : Conn) (t : TableId) (m : Mode) → w.due c ≡ Some (t, m) → (held w.holds c (Table t) ≡ Some m) × (is_whole m ≡ true)

-- an escalation that is awaited is of the table, the target of its wait is its mode, in which the table will be held, and which is whole
unfoldable pub DuesAwaited : World → Type 0
DuesAwaited w = (c : Conn) (t : TableId) (m : Mode) (x : Wait) → w.last c ≡ Awaits t m → wait_of w.waits c ≡ Some x
    → (x.name ≡ Table t) × (x.target ≡ m) × (target w.holds c (Table t) m ≡ m) × (is_whole m ≡ true)

-- the facts of locks together: they need no others
pub record LocksSound (head : Head) (w : World) : Type 0 where
  pub single : AreSingle w.holds
  pub alone : AreAlone w.waits
  pub together : GoTogether w.holds
  pub backed : HoldsBacked head w.holds
  pub awaited : WaitsBacked head w.holds w.waits
  pub there : HoldsThere head w
  pub awaited_there : WaitsThere head w
  pub tables : TablesKept w.holds
  pub tables_awaited : TablesAwaited w.waits
  pub parts : HasParts head w
  pub open_waits : WaitersOpen w
  pub suits : ModesSuit w.holds
  pub suits_awaited : TargetsSuit w.waits
  pub dues : DuesCover head w
  pub awaited_dues : AwaitedCovers head w

-- the facts of locks, units and versions together
pub record IsSound (head : Head) (w : World) : Type 0 where
  pub locks : LocksSound head w
  pub open locks use *
  pub units : UnitsApart w
  pub makers : MakersHold head w
  pub keys : KeysStand head w
  pub opened : LinesOpen w
  pub wide : TablesThere head w
  pub writes : WritesKept w.holds
  pub awaited_writes : WritesAwaited w.holds w.waits
  pub whole_dues : DuesHeld w
  pub awaited_whole : DuesAwaited w
  pub piled : AllPiled w
  pub pending : LeftPends w
  pub noted : NotesBegun w
  pub course : OnCourse w
  pub begun_records : RecordsBegun w.begun w.records
  pub ordered : EntriesOrdered w
  pub layered : VersionsLayered w
  pub logged : VersionsLogged w
  pub linked : AllLinked w.records
  pub owned : AllOwned w.records

-- what rests besides on that the head's rows fit their tables: each pending version has its record, and each version's row fits
pub record LogSound (head : Head) (w : World) : Type 0 where
  pub recorded : AllRecorded w.records w.changes w.tables
  pub fitted : RowsFit head w.tables

-- nobody but the head's connections holds or awaits a name
unfoldable pub OfHead : Head → World → Type 0
OfHead head w = (c : Conn) → is_conn head c ≡ false
    → (count_by (λ h. conn_eq h.conn c) w.holds ≡ 0) × (count_by (λ x. conn_eq x.conn c) w.waits ≡ 0)

-- no wait is covered by its connection's table lock
unfoldable pub WaitsUncovered : Head → World → Type 0
WaitsUncovered head w = (c : Conn) (x : Wait) → wait_of w.waits c ≡ Some x → is_covered head w.holds c x.name x.target ≡ false

-- who waits has no Brief hold
unfoldable pub WaitersKeep : World → Type 0
WaitersKeep w = (c : Conn) (n : Name) → is_waiting w.waits c ≡ true → was_brief w.holds c n ≡ false

-- the statement of who waits is open
unfoldable pub WaitersBusy : World → Type 0
WaitersBusy w = (c : Conn) → is_waiting w.waits c ≡ true → is_none (w.line c) ≡ false

-- what the steps of locks ask of the world
pub record LockFacts (head : Head) (w : World) : Type 0 where
  pub single : AreSingle w.holds
  pub alone : AreAlone w.waits
  pub of_head : OfHead head w
  pub uncovered : WaitsUncovered head w
  pub plain : WaitersKeep w
  pub busy : WaitersBusy w
