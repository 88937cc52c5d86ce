-- Which entry may stand on a world, as far as the head and the history say, and Ground.
use Rattle.std.specs.Option.{option_map_or}
use Rattle.std.specs.Prelude.{◌≡◌, ℕ, Bool, false, not, ◌&&◌, List, [], ◌∷◌, ℤ, pos, is_some, is_none, IsTrue, Some, None}
use Rattle.iso_history.specs.After.{after, start}
use Rattle.iso_history.specs.Entries.{least_purgeable}
use Rattle.iso_history.specs.Looks.{look, may_look}
use Rattle.iso_history.specs.Marks.{mark_of}
use Rattle.iso_history.specs.Nexts.{may_next, next}
use Rattle.iso_history.specs.Phases.{is_active, is_phase, phase, waits_grantable}
use Rattle.iso_history.specs.Quiet.{all_ended, cycle_in, is_busy, is_quiet, least_idle, may_take}
use Rattle.iso_history.specs.Records.{last_left, left_of}
use Rattle.iso_history.specs.Requests.{escalation, is_pressed, may_ask, request}
use Rattle.iso_history.specs.Requests.Outcome.{Gives}
use Rattle.iso_history.specs.Stops.{is_full, may_halt, may_stop}
use Rattle.iso_history.specs.Units.{unit_of}
use Rattle.iso_history.specs.Versions.{next_rid, slots}
use Rattle.iso_history.specs.World.{World}
use Rattle.iso_history.specs.World.Last.{Looked}
use Rattle.iso_history.specs.Writes.{deletes, inserts, is_block, is_refusal, may_change, may_write, minus, updates}
use Rattle.iso_history.specs.Writes.Written.{Done}
use Rattle.iso_history.specs.declared.entry.Act.{Act}
use Rattle.iso_history.specs.declared.entry.Act.TheVariants.{Back, Busy, Claim, Close, Collapse, Commit, Delete, Dispatch, Expire, Finish, Free, Insert, Lock, Look, Mark, Next, Purge, Refused, Reply, Rollback, ScanEnd, Set, Snapshot, Stopped, Undo, Update, Victim}
use Rattle.iso_history.specs.declared.entry.Entry.{Entry}
use Rattle.iso_history.specs.declared.entry.Got.{Got}
use Rattle.iso_history.specs.declared.entry.Who.{Who}
use Rattle.iso_history.specs.declared.entry.Who.TheVariants.{Agent, Dispatcher}
use Rattle.iso_history.specs.declared.entry.Why.{Why}
use Rattle.iso_history.specs.declared.entry.Why.TheVariants.{Asked, Blocked, Escalation}
use Rattle.iso_modes.specs.Terms.{is_fresh}
use Rattle.iso_modes.specs.declared.Mode.{Mode}
use Rattle.iso_modes.specs.declared.Term.{Term}
use Rattle.iso_modes.specs.declared.Term.TheVariants.{Brief, Kept}
use Rattle.iso_queue.specs.Locks.{hold_on}
use Rattle.iso_queue.specs.Snapshots.{snapshot}
use Rattle.iso_types.specs.Head.{is_conn, is_table, row_fits}
use Rattle.iso_types.specs.declared.desk.Phase.{Phase}
use Rattle.iso_types.specs.declared.desk.Phase.TheVariants.{Closing, Idle, Rolling, Running}
use Rattle.iso_types.specs.declared.head.Head.{Head}
use Rattle.iso_types.specs.declared.value.Conn.{Conn}
use Rattle.iso_types.specs.declared.value.Name.{Name}
use Rattle.iso_types.specs.declared.value.Name.TheVariants.{Row, Table}

-- the connection is running, and no Collapse is due
abbrev pub Runs : World → Conn → Type 0
Runs w c = (phase w c ≡ Running) × (w.due c ≡ None)

-- the connection has a Fresh hold on the name
abbrev pub is_fresh_on : World → Conn → Name → Bool
is_fresh_on w c n = option_map_or (λ h. is_fresh h.term) (hold_on w.holds c n) false

-- an escalation: on the prey, in its mode
abbrev pub EscalationStands : Head → World → Conn → Name → Mode → Got → Type 0
EscalationStands head w c (Table t) m got =
    IsTrue (is_pressed head w c) × (escalation head w c ≡ Some (t, m)) × (request head w c (Table t) m ≡ Gives got)
EscalationStands head w c n m got = ⊥

-- a Lock, by its why: asked for, an escalation, or for a blocked write
abbrev pub LockStands : Head → World → Conn → Name → Mode → Term → Why → Got → Type 0
LockStands head w c n m term Asked got =
    (term ≡ Kept) × IsTrue (may_ask head w c n m) × (request head w c n m ≡ Gives got)
LockStands head w c n m term Escalation got = (term ≡ Kept) × EscalationStands head w c n m got
LockStands head w c n m term Blocked got =
    (term ≡ Brief) × IsTrue (may_ask head w c n m) × IsTrue (is_block head w c n m) × (request head w c n m ≡ Gives got)

-- a Rollback answers the statement ROLLBACK, or ends a unit that is doomed
abbrev pub RollbackStands : World → Conn → ℤ → ℕ → Phase → Type 0
RollbackStands w c code reason Running = (w.due c ≡ None) × (code ≡ pos 0) × (reason ≡ 0)
RollbackStands w c code reason Rolling = (code ≡ minus 911) × (w.doom c ≡ Some reason)
RollbackStands w c code reason _ = ⊥

-- running without a due Collapse, rolling, or closing
abbrev pub may_undo : World → Conn → Bool
may_undo w c = is_active w c && is_none (w.due c)

-- an agent's entry
abbrev pub ByAgent : Head → World → Conn → Act → Type 0
ByAgent head w c (Lock n m term why got) = Runs w c × LockStands head w c n m term why got
ByAgent head w c Claim = IsTrue (waits_grantable w c)
ByAgent head w c (Look t r want got) =
    Runs w c × IsTrue (may_look head w c t r want) × (look head w c t r want ≡ Gives got)
ByAgent head w c (ScanEnd t n) = Runs w c × IsTrue (is_table head t) × (n ≡ slots w t)
ByAgent head w c (Next i range at guarded got) =
    Runs w c × IsTrue (may_next head w c i range at guarded) × (next head w c i range at guarded ≡ Some got)
ByAgent head w c (Free t r) = Runs w c × (w.last c ≡ Looked t r) × IsTrue (is_fresh_on w c (Row t r))
ByAgent head w c (Collapse t m) = (phase w c ≡ Running) × (w.due c ≡ Some (t, m))
ByAgent head w c (Insert t r row) =
    Runs w c × IsTrue (may_write w c t) × IsTrue (row_fits head t row) × (r ≡ next_rid w t)
    × (inserts head w c t row ≡ Done)
ByAgent head w c (Update t r row) =
    Runs w c × IsTrue (may_change head w c t r) × IsTrue (row_fits head t row) × (updates head w c t r row ≡ Done)
ByAgent head w c (Delete t r) = Runs w c × IsTrue (may_change head w c t r) × (deletes head w c ≡ Done)
ByAgent head w c (Refused code) = Runs w c × IsTrue (is_refusal head w c code)
ByAgent head w c (Undo n) = IsTrue (may_undo w c) × (last_left w (unit_of w c) ≡ Some n)
ByAgent head w c (Mark name) = Runs w c
ByAgent head w c (Back name) = Runs w c × IsTrue (is_some (mark_of (w.marks c) name))
ByAgent head w c (Set level may_wait) = Runs w c
ByAgent head w c Commit = Runs w c
ByAgent head w c (Rollback code reason) = RollbackStands w c code reason (phase w c) × (left_of w c ≡ [])
ByAgent head w c (Reply code changed rows) = Runs w c
ByAgent head w c Act.Ended = (phase w c ≡ Closing) × (left_of w c ≡ [])
ByAgent head w c (Stopped cause) = IsTrue (may_stop head w c cause)
ByAgent head w c _ = ⊥

-- the dispatcher's entry
abbrev pub ByDispatcher : Head → World → Act → Type 0
ByDispatcher head w (Dispatch line c) = IsTrue (is_conn head c) × (phase w c ≡ Idle) × IsTrue (may_take head w)
ByDispatcher head w (Busy line c) = IsTrue (is_conn head c) × IsTrue (is_busy head w c) × IsTrue (may_take head w)
ByDispatcher head w (Expire line c ended) =
    IsTrue (is_conn head c) × IsTrue (is_quiet head w) × IsTrue (may_take head w)
    × (ended ≡ is_phase (phase w c) Phase.Waiting)
ByDispatcher head w (Snapshot line locks) =
    IsTrue (is_quiet head w) × IsTrue (may_take head w) × (locks ≡ snapshot head w.holds w.waits)
ByDispatcher head w (Victim members) = cycle_in head w ≡ Some members
ByDispatcher head w (Purge i key r) =
    IsTrue (not w.pace.stopped) × IsTrue (not w.pace.purged) × (least_purgeable head w ≡ Some (i, (key, r)))
ByDispatcher head w (Close c) = IsTrue (is_quiet head w) × (least_idle head w ≡ Some c)
ByDispatcher head w (Stopped cause) = IsTrue (may_halt head w cause)
ByDispatcher head w Finish = IsTrue (all_ended head w)
ByDispatcher head w _ = ⊥

-- an entry by its maker
abbrev pub By : Head → World → Who → Act → Type 0
By head w Dispatcher a = ByDispatcher head w a
By head w (Agent c) a = IsTrue (is_conn head c) × ByAgent head w c a

-- the entry may stand: Finish is last, no full step is made, and its maker may make it
abbrev pub Allowed : Head → World → Entry → Type 0
Allowed head w e = IsTrue (not w.pace.finished) × IsTrue (not (is_full head w e)) × By head w e.who e.act

-- each entry is allowed on its prefix
unfoldable pub GroundFrom : Head → World → List Entry → Type 0
GroundFrom head w [] = Unit {0}
GroundFrom head w (e ∷ es) = Allowed head w e × GroundFrom head (after head w e) es

-- each entry is allowed on its prefix, from the head on
unfoldable pub Ground : Head → List Entry → Type 0
Ground head es = GroundFrom head (start head) es
