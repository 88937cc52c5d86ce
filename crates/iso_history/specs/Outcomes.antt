-- The entry that each step of a connection records on a prefix: its outcome, and what comes at the lock limit, at a blocked
-- write, at a full table and at the history limit.
use Rattle.std.specs.Prelude.{ℕ, Bool, Option, Some, None, if◌then◌else◌, nat_lt}
use Rattle.std.specs.Option.{option_map_or}
use Rattle.iso_history.specs.Looks.{look}
use Rattle.iso_history.specs.Makers.{by_agent}
use Rattle.iso_history.specs.Phases.{is_phase, phase}
use Rattle.iso_history.specs.Quiet.{is_busy}
use Rattle.iso_history.specs.Records.{last_left}
use Rattle.iso_history.specs.Requests.{Outcome, escalation, request}
use Rattle.iso_history.specs.Requests.Outcome.{Gives, Limit}
use Rattle.iso_history.specs.Stops.{is_full}
use Rattle.iso_history.specs.Units.{unit_of}
use Rattle.iso_history.specs.Versions.{slots}
use Rattle.iso_history.specs.World.{World}
use Rattle.iso_history.specs.Writes.{Written, minus}
use Rattle.iso_history.specs.Writes.Written.{AtLimit, Blocks, Done, IsFull}
use Rattle.iso_history.specs.Writes.Written.{Refuses}
use Rattle.iso_history.specs.declared.entry.Act.{Act}
use Rattle.iso_history.specs.declared.entry.Act.TheVariants.{Busy, Collapse, Dispatch, Lock, Look, Next, Refused, ScanEnd, Stopped}
use Rattle.iso_history.specs.declared.entry.Cause.{Cause}
use Rattle.iso_history.specs.declared.entry.Cause.TheVariants.{History}
use Rattle.iso_history.specs.declared.entry.Stand.{Stand}
use Rattle.iso_history.specs.declared.entry.Want.{Want}
use Rattle.iso_history.specs.declared.entry.Why.TheVariants.{Asked, Blocked, Escalation}
use Rattle.iso_modes.specs.declared.Mode.{Mode}
use Rattle.iso_modes.specs.declared.Mode.TheVariants.{X}
use Rattle.iso_modes.specs.declared.Term.TheVariants.{Brief, Kept}
use Rattle.iso_types.specs.declared.desk.Phase.TheVariants.{Idle}
use Rattle.iso_types.specs.declared.head.Head.{Head}
use Rattle.iso_types.specs.declared.head.Range.{Range}
use Rattle.iso_types.specs.declared.value.Conn.{Conn}
use Rattle.iso_types.specs.declared.value.IndexId.{IndexId}
use Rattle.iso_types.specs.declared.value.Name.{Name}
use Rattle.iso_types.specs.declared.value.Name.TheVariants.{Table}
use Rattle.iso_types.specs.declared.value.Rid.{Rid}
use Rattle.iso_types.specs.declared.value.TableId.{TableId}
use Rattle.iso_types.specs.declared.value.Value.{Value}

-- an escalation on this table, by the outcome of its request; its table is held, so it is never at the limit itself
abbrev pub escalated_by : TableId → Mode → Outcome → Act
escalated_by t m (Gives got) = Lock (Table t) m Kept Escalation got
escalated_by t m Limit = Refused (minus 912)

-- the escalation on the prey, or -912 where there is no prey. // Db2 LUW, 'Lock escalation', SQLCODE -912
abbrev pub limited_by : Head → World → Conn → Option (TableId × Mode) → Act
limited_by head w c None = Refused (minus 912)
limited_by head w c (Some p) = escalated_by p.0 p.1 (request head w c (Table p.0) p.1)

-- what a step at the lock limit records
abbrev pub at_limit : Head → World → Conn → Act
at_limit head w c = limited_by head w c (escalation head w c)

-- a Lock that a statement asks for, by the outcome of its request
abbrev pub asked_by : Head → World → Conn → Name → Mode → Outcome → Act
asked_by head w c n m (Gives got) = Lock n m Kept Asked got
asked_by head w c n m Limit = at_limit head w c

-- the Lock of a blocked write, likewise
abbrev pub blocked_by : Head → World → Conn → Name → Mode → Outcome → Act
blocked_by head w c n m (Gives got) = Lock n m Brief Blocked got
blocked_by head w c n m Limit = at_limit head w c

-- a look, likewise
abbrev pub look_by : Head → World → Conn → TableId → Rid → Want → Outcome → Act
look_by head w c t r want (Gives got) = Look t r want got
look_by head w c t r want Limit = at_limit head w c

-- a look, or the end of the scan where the rid is the slot count
abbrev pub look_act : Head → World → Conn → TableId → Rid → Want → Act
look_act head w c t r want =
    if nat_lt r.0 (slots w t) then look_by head w c t r want (look head w c t r want) else ScanEnd t (slots w t)

-- a step of an index scan, by where it stands
abbrev pub next_by : Head → World → Conn → IndexId → Range → Option (Value × Rid) → Bool → Option Stand → Act
next_by head w c i range at guarded (Some stand) = Next i range at guarded stand
next_by head w c i range at guarded None = at_limit head w c

-- a write, by what comes of it
abbrev pub written_by : Head → World → Conn → Act → Written → Act
written_by head w c act Done = act
written_by head w c act IsFull = Stopped Cause.Table
written_by head w c act (Refuses code) = Refused code
written_by head w c act (Blocks n m) = blocked_by head w c n m (request head w c n m)
written_by head w c act AtLimit = at_limit head w c

-- the greatest record of the connection's unit that is not undone
abbrev pub last_record : World → Conn → Option ℕ
last_record w c = last_left w (unit_of w c)

-- the mode of the Collapse that is due
abbrev pub due_mode : World → Conn → Mode
due_mode w c = option_map_or (λ d. d.1) (w.due c) X

-- a Stopped in place of an entry that is full
abbrev pub unless_full : Head → World → Conn → Act → Act
unless_full head w c a = if is_full head w (by_agent c a) then Stopped History else a

-- a statement line is dispatched to an idle connection, and answered Busy where it waits with an edge and lies on no cycle
abbrev pub statement_step : Head → World → ℕ → Conn → Option Act
statement_step head w n c =
    if is_phase (phase w c) Idle then Some (Dispatch n c) else if is_busy head w c then Some (Busy n c) else None
