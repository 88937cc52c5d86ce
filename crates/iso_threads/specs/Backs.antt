-- Passes that threads bring back, with the agents that were not driven.
use Rattle.std.specs.Prelude.{◌≡◌, ℕ, ◌+◌, ◌<◌, List, [], ◌∷◌, length, Option, Some, None}
use Rattle.atomic_table.specs.Seated.{TableId}
use Rattle.iso_agent.specs.Fits.{IsRested}
use Rattle.iso_agent.specs.Passes.{IsPassOf}
use Rattle.iso_agent.specs.declared.agent.Agent.{Agent}
use Rattle.iso_conduct.specs.Conduct.{Conduct}
use Rattle.iso_history.specs.declared.entry.Entry.{Entry}
use Rattle.iso_latch.specs.Told.{seen_of}
use Rattle.iso_script.specs.declared.script.Script.{Script}
use Rattle.iso_threads.specs.declared.backs.Back.{Back}
use Rattle.iso_threads.specs.declared.backs.Driven.{Driven}
use Rattle.iso_types.specs.declared.value.Conn.{Conn}
use Rattle.std.specs.declared.thread.PromisedHandle.{PromisedHandle}

-- the connection has kept to its statements; an agent that was not driven is between two turns
abbrev pub IsAgentOf : Script → Conn → List Entry → Option Agent → Type 0
IsAgentOf script c es None = Conduct script.head script.lines es c
IsAgentOf script c es (Some a) = (a.conn ≡ c) × IsRested script es c a.task a.kept

-- the pass of a connection of the script's, with its agent
pub record IsBack (id : TableId) (script : Script) (b : Back) : Type 0 where
  pub pass : IsPassOf id script b.conn b.pass
  pub within : b.conn.0 < length script.head.conns
  pub agent : IsAgentOf script b.conn (seen_of b.pass.seat) b.agent

abbrev pub AllBack : TableId → Script → List Back → Type 0
AllBack id script [] = Unit {0}
AllBack id script (b ∷ bs) = IsBack id script b × AllBack id script bs

-- the voices of these passes
abbrev pub voices : List Back → List ℕ
voices [] = []
voices (b ∷ bs) = (b.conn.0 + 1) ∷ voices bs

-- the pass of the same connection at the same latch, later
abbrev pub CameBack : Back → Script → Back → Type 0
CameBack b script r = (r.conn ≡ b.conn) × IsBack b.pass.seat.table_id script r

-- each thread was given a pass of this latch, and this script
abbrev pub AllPromised : TableId → Script → List (PromisedHandle Back Driven) → Type 0
AllPromised id script [] = Unit {0}
AllPromised id script (h ∷ hs) =
    ((h.promise.back.value.pass.seat.table_id ≡ id) × (h.promise.script.value ≡ script)) × AllPromised id script hs

-- the voices of the passes that threads were given
abbrev pub promised : List (PromisedHandle Back Driven) → List ℕ
promised [] = []
promised (h ∷ hs) = (h.promise.back.value.conn.0 + 1) ∷ promised hs
