-- The open unit of work of each connection, and how many units have begun.
use Rattle.std.specs.List.{list_any}
use Rattle.std.specs.Option.{option_map_or}
use Rattle.std.specs.Prelude.{ℕ, ◌+◌, Bool, false, is_some, if◌then◌else◌, ◌==◌, Some, None, Option, unwrap_or}
use Rattle.iso_history.specs.World.{World, at_conn}
use Rattle.iso_history.specs.declared.entry.Act.{Act}
use Rattle.iso_history.specs.declared.entry.Act.TheVariants.{Commit, Dispatch, Rollback}
use Rattle.iso_history.specs.declared.entry.Who.{Who}
use Rattle.iso_history.specs.declared.entry.Who.TheVariants.{Agent, Dispatcher}
use Rattle.iso_types.specs.Head.{conns}
use Rattle.iso_types.specs.declared.head.Head.{Head}
use Rattle.iso_types.specs.declared.value.Conn.{Conn}

-- what an entry does to units: a Dispatch may begin one; Commit, Rollback and Ended end one
pub data Turn : Type 0 where
  Stays : Turn
  Begins : (conn : Conn) → Turn
  Ends : (conn : Conn) → Turn

-- Commit, Rollback and Ended end the unit
abbrev pub turn_of_agent : Conn → Act → Turn
turn_of_agent c Commit = Ends c
turn_of_agent c (Rollback code reason) = Ends c
turn_of_agent c Act.Ended = Ends c
turn_of_agent c _ = Stays

-- a Dispatch may begin one
abbrev pub turn_of_dispatcher : Act → Turn
turn_of_dispatcher (Dispatch line c) = Begins c
turn_of_dispatcher _ = Stays

-- what an entry does to units
abbrev pub turn_of : Who → Act → Turn
turn_of Dispatcher a = turn_of_dispatcher a
turn_of (Agent c) a = turn_of_agent c a

-- a Dispatch to a connection without an open unit begins the next unit
abbrev pub unit_by : World → Turn → Conn → Option ℕ
unit_by w Stays = w.unit
unit_by w (Begins c) = at_conn w.unit c (Some (unwrap_or (w.unit c) (w.begun + 1)))
unit_by w (Ends c) = at_conn w.unit c None

-- the number of units begun
abbrev pub begun_by : World → Turn → ℕ
begun_by w (Begins c) = if is_some (w.unit c) then w.begun else w.begun + 1
begun_by w _ = w.begun

-- the number of the connection's open unit; no unit has the number 0
abbrev pub unit_of : World → Conn → ℕ
unit_of w c = unwrap_or (w.unit c) 0

-- the number of the open unit of the entry's maker
abbrev pub unit_of_maker : World → Who → ℕ
unit_of_maker w Dispatcher = 0
unit_of_maker w (Agent c) = unit_of w c

-- some connection's open unit has this number
abbrev pub is_open : Head → World → ℕ → Bool
is_open head w u = list_any (λ c. option_map_or (λ v. v == u) (w.unit c) false) (conns head)
