-- The phase of each connection: running, waiting, rolling back, closing, ended, or idle.
use Rattle.std.specs.List.{list_all}
use Rattle.std.specs.Option.{option_map_or}
use Rattle.std.specs.Prelude.{ℕ, Bool, true, false, ◌&&◌, ◌||◌, List, is_some, is_none, nat_le, ◌==◌, Some, None, find, Option}
use Rattle.iso_history.specs.Units.{unit_of}
use Rattle.iso_history.specs.World.{World, at_conn}
use Rattle.iso_history.specs.declared.entry.Act.{Act}
use Rattle.iso_history.specs.declared.entry.Act.TheVariants.{Close, Expire, Lock, Look, Next, Rollback, Stopped, Victim}
use Rattle.iso_history.specs.declared.entry.Got.{Got}
use Rattle.iso_history.specs.declared.entry.Stand.{Stand}
use Rattle.iso_history.specs.declared.entry.Who.{Who}
use Rattle.iso_history.specs.declared.entry.Who.TheVariants.{Agent, Dispatcher}
use Rattle.iso_queue.specs.Queues.{is_grantable, is_waiting}
use Rattle.iso_types.specs.declared.desk.Phase.{Phase}
use Rattle.iso_types.specs.declared.desk.Phase.TheVariants.{Closing, Idle, Rolling, Running}
use Rattle.iso_types.specs.declared.value.Conn.{Conn}

-- the member of a cycle with the greatest unit number
abbrev pub victim : World → List Conn → Option Conn
victim w cycle = find (λ c. list_all (λ d. nat_le (unit_of w d) (unit_of w c)) cycle) cycle

-- what an entry does to a connection's fate: it has to roll back, with this reason; it has rolled back
pub data Doom : Type 0 where
  Spares : Doom
  Dooms : (conn : Conn) → (reason : ℕ) → Doom
  Lifts : (conn : Conn) → Doom

-- a request that timed out dooms its connection, a Rollback lifts the doom
abbrev pub doom_of_agent : Conn → Act → Doom
doom_of_agent c (Lock name mode term why Got.TimedOut) = Dooms c 68
doom_of_agent c (Look table rid want Got.TimedOut) = Dooms c 68
doom_of_agent c (Next index range past guarded (Stand.TimedOut name)) = Dooms c 68
doom_of_agent c (Rollback code reason) = Lifts c
doom_of_agent c _ = Spares

-- a Victim dooms the victim, an Expire the connection whose wait it ends
abbrev pub doom_of_dispatcher : World → Act → Doom
doom_of_dispatcher w (Victim cycle) = option_map_or (λ c. Dooms c 2) (victim w cycle) Spares
doom_of_dispatcher w (Expire line c true) = Dooms c 68
doom_of_dispatcher w _ = Spares

-- what an entry does to dooms
abbrev pub doom_of : World → Who → Act → Doom
doom_of w Dispatcher a = doom_of_dispatcher w a
doom_of w (Agent c) a = doom_of_agent c a

-- the reasons for which connections have to roll back
abbrev pub doom_by : (Conn → Option ℕ) → Doom → Conn → Option ℕ
doom_by f Spares = f
doom_by f (Dooms c reason) = at_conn f c (Some reason)
doom_by f (Lifts c) = at_conn f c None

-- closing: after Close of it or Stopped by it
abbrev pub closing_by : (Conn → Bool) → Who → Act → Conn → Bool
closing_by f Dispatcher (Close c) = at_conn f c true
closing_by f Dispatcher _ = f
closing_by f (Agent c) (Stopped cause) = at_conn f c true
closing_by f (Agent c) _ = f

-- ended: after its Ended
abbrev pub ended_by : (Conn → Bool) → Who → Act → Conn → Bool
ended_by f (Agent c) Act.Ended = at_conn f c true
ended_by f _ _ = f

-- the first of these that fits: it has ended, it closes, it is doomed, it waits, no statement of it is open
abbrev pub phase_of : Bool → Bool → Bool → Bool → Bool → Phase
phase_of true closing doomed waiting shut = Phase.Ended
phase_of false true doomed waiting shut = Closing
phase_of false false true waiting shut = Rolling
phase_of false false false true shut = Phase.Waiting
phase_of false false false false true = Idle
phase_of false false false false false = Running

-- the phase of a connection
abbrev pub phase : World → Conn → Phase
phase w c = phase_of (w.ended c) (w.closing c) (is_some (w.doom c)) (is_waiting w.waits c) (is_none (w.line c))

-- the place of a phase
abbrev pub phase_number : Phase → ℕ
phase_number Idle = 0
phase_number Running = 1
phase_number Phase.Waiting = 2
phase_number Rolling = 3
phase_number Closing = 4
phase_number Phase.Ended = 5

-- the phases are the same
abbrev pub is_phase : Phase → Phase → Bool
is_phase a b = phase_number a == phase_number b

-- running, rolling or closing
abbrev pub is_active : World → Conn → Bool
is_active w c = is_phase (phase w c) Running || is_phase (phase w c) Rolling || is_phase (phase w c) Closing

-- the connection waits and is grantable
abbrev pub waits_grantable : World → Conn → Bool
waits_grantable w c = is_phase (phase w c) Phase.Waiting && is_grantable w.holds w.waits c
