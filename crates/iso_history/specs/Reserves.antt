-- By how much an entry raises and lowers the sum of all reserves, and of all needs.
use Rattle.std.specs.Prelude.{ℕ, ◌+◌, ◌*◌, ◌≤◌, true, length, is_some, if◌then◌else◌}
use Rattle.iso_history.specs.Courses.{RecordsBegun, OnCourse}
use Rattle.iso_history.specs.Phases.{is_phase, phase}
use Rattle.iso_history.specs.Records.{count, debt, left_of, oldest}
use Rattle.iso_history.specs.Stops.{dispatcher_reserve, history_limit, is_never_refused, needs}
use Rattle.iso_history.specs.World.{World}
use Rattle.iso_history.specs.declared.entry.Act.{Act}
use Rattle.iso_history.specs.declared.entry.Act.TheVariants.{Close, Commit, Delete, Dispatch, Expire, Finish, Insert, Lock, Look, Next, Rollback, Stopped, Undo, Update, Victim}
use Rattle.iso_history.specs.declared.entry.Got.{Got}
use Rattle.iso_history.specs.declared.entry.Stand.{Stand}
use Rattle.iso_history.specs.declared.entry.Who.{Who}
use Rattle.iso_history.specs.declared.entry.Who.TheVariants.{Agent, Dispatcher}
use Rattle.iso_types.specs.declared.desk.Phase.TheVariants.{Running}
use Rattle.iso_types.specs.declared.head.Head.{Head}
use Rattle.iso_types.specs.declared.value.Conn.{Conn}

-- a change raises its maker's reserve by its undo
abbrev pub raised_by_agent : Act → ℕ
raised_by_agent (Insert t r row) = 1
raised_by_agent (Update t r row) = 1
raised_by_agent (Delete t r) = 1
raised_by_agent _ = 0

-- a Dispatch raises that of a connection without a unit, and so does its Close
abbrev pub raised_by_dispatcher : World → Act → ℕ
raised_by_dispatcher w (Dispatch line c) = if is_some (w.unit c) then 0 else 2
raised_by_dispatcher w (Close c) = if is_some (w.unit c) then 0 else 1
raised_by_dispatcher w _ = 0

-- by how much the entry raises the reserves
abbrev pub reserves_more : World → Who → Act → ℕ
reserves_more w Dispatcher a = raised_by_dispatcher w a
reserves_more w (Agent c) a = raised_by_agent a

-- what an agent's entry takes off its reserve
abbrev pub lowered_by_agent : World → Conn → Act → ℕ
lowered_by_agent w c (Lock name mode term why Got.TimedOut) = 1
lowered_by_agent w c (Look t r want Got.TimedOut) = 1
lowered_by_agent w c (Next i range at guarded (Stand.TimedOut name)) = 1
lowered_by_agent w c (Undo n) = 1
lowered_by_agent w c Commit = length (left_of w c) + 2
lowered_by_agent w c (Rollback code reason) = if is_phase (phase w c) Running then 2 else 1
lowered_by_agent w c Act.Ended = 3
lowered_by_agent w c (Stopped cause) = 1
lowered_by_agent w c _ = 0

-- what the dispatcher's entry takes off a connection's reserve or its own
abbrev pub lowered_by_dispatcher : World → Act → ℕ
lowered_by_dispatcher w (Expire line c true) = 1
lowered_by_dispatcher w (Victim cycle) = 1
lowered_by_dispatcher w (Close c) = if is_some (w.unit c) then 1 else 0
lowered_by_dispatcher w (Stopped cause) = 1
lowered_by_dispatcher w Finish = dispatcher_reserve w.pace
lowered_by_dispatcher w _ = 0

-- by how much the entry lowers the reserves
abbrev pub reserves_less : World → Who → Act → ℕ
reserves_less w Dispatcher a = lowered_by_dispatcher w a
reserves_less w (Agent c) a = lowered_by_agent w c a

-- by how much the entry raises the needs: as the reserves, but a Close raises none
abbrev pub needs_more : World → Who → Act → ℕ
needs_more w Dispatcher (Close c) = 0
needs_more w who a = reserves_more w who a

-- by how much the entry lowers the needs: as the reserves, but for those of a connection that closes or stops
abbrev pub needs_less : World → Who → Act → ℕ
needs_less w Dispatcher (Close c) = if is_some (w.unit c) then 3 else 1
needs_less w (Agent c) (Stopped cause) = 3
needs_less w (Agent c) Act.Ended = 1
needs_less w who a = reserves_less w who a

-- the number of entries and all needs stay within the limit
unfoldable pub FitsLimit : Head → World → Type 0
FitsLimit head w = w.made + needs head w ≤ history_limit

-- how much room in the history a step makes, beyond the needs: the entry and what it adds to the needs
abbrev pub room_of : Act → ℕ
room_of (Dispatch line c) = 3
room_of (Insert t r row) = 2
room_of (Update t r row) = 2
room_of (Delete t r) = 2
room_of a = if is_never_refused a then 0 else 1

-- by how much an entry raises the debt, and lowers it
abbrev pub debt_more : Act → ℕ
debt_more a = raised_by_agent a

-- an Undo takes one off, a Commit what its unit has left
abbrev pub debt_less : World → Who → Act → ℕ
debt_less w (Agent c) (Undo n) = 1
debt_less w (Agent c) Commit = length (left_of w c)
debt_less w who a = 0

-- how many records an entry adds to the log
abbrev pub records_of : Act → ℕ
records_of (Insert t r row) = 1
records_of (Update t r row) = 1
records_of (Delete t r) = 1
records_of (Undo n) = 1
records_of _ = 0

-- how much room in the log a step makes, beyond the debt: a change's own record and its undo
abbrev pub log_room_of : Act → ℕ
log_room_of a = 2 * raised_by_agent a

-- the history's spare room covers all needs, and the log's the debt
pub record HasRoom (head : Head) (w : World) (spare log_spare : ℕ) : Type 0 where
  pub for_needs : needs head w ≤ spare
  pub for_debt : debt head w ≤ log_spare

-- the log from the oldest record of an open unit on, and its undos, stay within LOGMAX
unfoldable pub FitsLog : Head → World → Type 0
FitsLog head w = count w + debt head w ≤ oldest head w + head.config.logmax

-- the debt is at most the number of records, and that is at most the number of entries
pub record IsCounted (head : Head) (w : World) : Type 0 where
  pub owed : debt head w ≤ count w
  pub recorded : count w ≤ w.made

-- the history's limit and the log's, with the facts that they rest on
pub record IsWithin (head : Head) (w : World) : Type 0 where
  pub course : OnCourse w
  pub notes : RecordsBegun w.begun w.records
  pub fits : FitsLimit head w
  pub fits_log : FitsLog head w
  pub counted : IsCounted head w
