-- What an entry does to the waits.
use Rattle.std.specs.Option.{option_map_or}
use Rattle.std.specs.Prelude.{true, List}
use Rattle.iso_history.specs.Phases.{victim}
use Rattle.iso_history.specs.World.{World}
use Rattle.iso_history.specs.declared.entry.Act.{Act}
use Rattle.iso_history.specs.declared.entry.Act.TheVariants.{Claim, Commit, Expire, Lock, Look, Next, Rollback, Stopped, Victim}
use Rattle.iso_history.specs.declared.entry.Got.{Got}
use Rattle.iso_history.specs.declared.entry.Stand.{Stand}
use Rattle.iso_history.specs.declared.entry.Want.{Want}
use Rattle.iso_history.specs.declared.entry.Want.TheVariants.{Alter, AlterKept, Repeat, Steady}
use Rattle.iso_history.specs.declared.entry.Who.{Who}
use Rattle.iso_history.specs.declared.entry.Who.TheVariants.{Agent, Dispatcher}
use Rattle.iso_modes.specs.declared.Mode.TheVariants.{S}
use Rattle.iso_modes.specs.declared.Term.{Term}
use Rattle.iso_modes.specs.declared.Term.TheVariants.{Brief, Fresh, Kept}
use Rattle.iso_queue.specs.Locks.{target}
use Rattle.iso_queue.specs.Queues.{Wait, queued, unqueued}
use Rattle.iso_types.specs.declared.value.Conn.{Conn}
use Rattle.iso_types.specs.declared.value.Name.TheVariants.{Row}

-- the term of a wait of a look: the one that would be placed, Brief for Current and Settled
abbrev pub wait_term : Want → Term
wait_term Steady = Fresh
wait_term Repeat = Kept
wait_term Alter = Fresh
wait_term AlterKept = Kept
wait_term _ = Brief

-- what an entry does to the waits: a wait is added, or the wait of a connection goes
pub data Joining : Type 0 where
  Passes : Joining
  Joins : (wait : Wait) → Joining
  Quits : (conn : Conn) → Joining

-- what queues is added; Claim, the unit's end and Stopped end the wait
abbrev pub joining_of_agent : World → Conn → Act → Joining
joining_of_agent w c (Lock name mode term why (Got.Queued m)) =
    Joins (record { name = name; conn = c; target = m; term = term })
joining_of_agent w c (Look t r want (Got.Queued m)) =
    Joins (record { name = Row t r; conn = c; target = m; term = wait_term want })
joining_of_agent w c (Next i range at guarded (Stand.Queued n)) =
    Joins (record { name = n; conn = c; target = target w.holds c n S; term = Kept })
joining_of_agent w c Claim = Quits c
joining_of_agent w c Commit = Quits c
joining_of_agent w c (Rollback code reason) = Quits c
joining_of_agent w c Act.Ended = Quits c
joining_of_agent w c (Stopped cause) = Quits c
joining_of_agent w c _ = Passes

-- a Victim ends the victim's wait, an Expire the wait that it names
abbrev pub joining_of_dispatcher : World → Act → Joining
joining_of_dispatcher w (Victim cycle) = option_map_or Quits (victim w cycle) Passes
joining_of_dispatcher w (Expire line c true) = Quits c
joining_of_dispatcher w _ = Passes

-- what an entry does to the waits
abbrev pub joining_of : World → Who → Act → Joining
joining_of w Dispatcher a = joining_of_dispatcher w a
joining_of w (Agent c) a = joining_of_agent w c a

-- the waits after that
abbrev pub waits_by : World → Joining → List Wait
waits_by w Passes = w.waits
waits_by w (Joins x) = queued w.holds x w.waits
waits_by w (Quits c) = unqueued c w.waits
