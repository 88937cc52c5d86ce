-- The reserves that the history's limit keeps, the steps that are full, and the stops.
use Rattle.std.specs.List.{list_any}
use Rattle.std.specs.Prelude.{ℕ, ◌+◌, Bool, true, false, not, ◌&&◌, ◌||◌, length, is_some, if◌then◌else◌, nat_lt, nat_le, sum_by}
use Rattle.iso_history.specs.After.{after}
use Rattle.iso_history.specs.Phases.{is_phase, phase, waits_grantable}
use Rattle.iso_history.specs.Records.{left_of}
use Rattle.iso_history.specs.Versions.{slots}
use Rattle.iso_history.specs.World.{Pace, World}
use Rattle.iso_history.specs.declared.entry.Act.{Act}
use Rattle.iso_history.specs.declared.entry.Act.TheVariants.{Close, Commit, Expire, Finish, Rollback, Stopped, Undo, Victim}
use Rattle.iso_history.specs.declared.entry.Cause.{Cause}
use Rattle.iso_history.specs.declared.entry.Cause.TheVariants.{History, Memory}
use Rattle.iso_history.specs.declared.entry.Entry.{Entry}
use Rattle.iso_types.specs.Head.{conns, tables}
use Rattle.iso_types.specs.declared.desk.Phase.{Phase}
use Rattle.iso_types.specs.declared.desk.Phase.TheVariants.{Closing, Idle, Rolling, Running}
use Rattle.iso_types.specs.declared.head.Head.{Head}
use Rattle.iso_types.specs.declared.value.Conn.{Conn}

-- the history holds at most so many entries
abbrev pub history_limit : ℕ
history_limit = 2000000

-- by phase, whether a unit is open, and the number of its records that are not undone
abbrev pub reserve_in : Phase → Bool → ℕ → ℕ
reserve_in Phase.Ended has_unit u = 0
reserve_in Idle false u = 2
reserve_in Rolling has_unit u = u + 3
reserve_in Closing has_unit u = u + 3
reserve_in _ has_unit u = u + 4

-- the reserve of a connection, and of the dispatcher
abbrev pub reserve : World → Conn → ℕ
reserve w c = reserve_in (phase w c) (is_some (w.unit c)) (length (left_of w c))

-- 2 before its own Stopped, 1 after it, 0 after Finish
abbrev pub dispatcher_reserve : Pace → ℕ
dispatcher_reserve p = if p.finished then 0 else if p.halted then 1 else 2

-- the sum of all reserves
abbrev pub reserves : Head → World → ℕ
reserves head w = sum_by (reserve w) (conns head) + dispatcher_reserve w.pace

-- the reserve, but u + 1 for a connection that closes or stops
abbrev pub need : World → Conn → ℕ
need w c = if is_phase (phase w c) Closing then length (left_of w c) + 1 else reserve w c

-- the sum of all needs
abbrev pub needs : Head → World → ℕ
needs head w = sum_by (need w) (conns head) + dispatcher_reserve w.pace

-- the acts that are never refused for the history's limit
abbrev pub is_never_refused : Act → Bool
is_never_refused (Victim cycle) = true
is_never_refused (Expire line c ended) = ended
is_never_refused (Undo n) = true
is_never_refused Commit = true
is_never_refused (Rollback code reason) = true
is_never_refused (Close c) = true
is_never_refused (Stopped cause) = true
is_never_refused Act.Ended = true
is_never_refused Finish = true
is_never_refused _ = false

-- the number of entries after the step, plus all reserves after it, passes the limit
abbrev pub is_full : Head → World → Entry → Bool
is_full head w e = not (is_never_refused e.act) && nat_lt history_limit (w.made + 1 + reserves head (after head w e))

-- some step may be full: one that adds this to the reserves
abbrev pub may_be_full : Head → World → ℕ → Bool
may_be_full head w more = nat_lt history_limit (w.made + 1 + reserves head w + more)

-- an agent's Stopped, as far as the head and the history say
abbrev pub may_stop : Head → World → Conn → Cause → Bool
may_stop head w c Memory = is_phase (phase w c) Running || waits_grantable w c
may_stop head w c History = (is_phase (phase w c) Running || waits_grantable w c) && may_be_full head w 1
may_stop head w c Cause.Table = is_phase (phase w c) Running && list_any (λ t. nat_le 65536 (slots w t)) (tables head)

-- the dispatcher's Stopped, likewise
abbrev pub may_halt : Head → World → Cause → Bool
may_halt head w Memory = not w.pace.stopped
may_halt head w History = not w.pace.stopped && may_be_full head w 2
may_halt head w Cause.Table = false
