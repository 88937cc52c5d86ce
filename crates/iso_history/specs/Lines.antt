-- The line of each connection's open statement, and where the log stood at its start.
use Rattle.std.specs.Prelude.{ℕ, Some, None, Option}
use Rattle.iso_history.specs.World.{at_conn}
use Rattle.iso_history.specs.declared.entry.Act.{Act}
use Rattle.iso_history.specs.declared.entry.Act.TheVariants.{Commit, Dispatch, Reply, Rollback}
use Rattle.iso_history.specs.declared.entry.Who.{Who}
use Rattle.iso_history.specs.declared.entry.Who.TheVariants.{Agent, Dispatcher}
use Rattle.iso_types.specs.declared.value.Conn.{Conn}

-- what an entry does to open statements: a statement is open from its Dispatch to the next Reply, Commit, Rollback or Ended
pub data Stage : Type 0 where
  Goes : Stage
  Opens : (conn : Conn) → (line : ℕ) → Stage
  Shuts : (conn : Conn) → Stage

-- Reply, Commit, Rollback and Ended shut it
abbrev pub stage_of_agent : Conn → Act → Stage
stage_of_agent c (Reply code changed rows) = Shuts c
stage_of_agent c Commit = Shuts c
stage_of_agent c (Rollback code reason) = Shuts c
stage_of_agent c Act.Ended = Shuts c
stage_of_agent c _ = Goes

-- a Dispatch opens it
abbrev pub stage_of_dispatcher : Act → Stage
stage_of_dispatcher (Dispatch line c) = Opens c line
stage_of_dispatcher _ = Goes

-- what an entry does to open statements
abbrev pub stage_of : Who → Act → Stage
stage_of Dispatcher a = stage_of_dispatcher a
stage_of (Agent c) a = stage_of_agent c a

-- the line of each open statement
abbrev pub line_by : (Conn → Option ℕ) → Stage → Conn → Option ℕ
line_by f Goes = f
line_by f (Opens c line) = at_conn f c (Some line)
line_by f (Shuts c) = at_conn f c None

-- `count` at the Dispatch of each connection's last statement
abbrev pub floor_by : (Conn → ℕ) → Stage → ℕ → Conn → ℕ
floor_by f Goes count = f
floor_by f (Opens c line) count = at_conn f c count
floor_by f (Shuts c) count = f
