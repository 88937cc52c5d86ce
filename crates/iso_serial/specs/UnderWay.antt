-- The agents of a run between two turns.
use Rattle.std.specs.Prelude.{◌≡◌, ℕ, ◌<◌, List, length, slice_index_or, None}
use Rattle.iso_agent.specs.Fits.{IsRested}
use Rattle.iso_agent.specs.declared.agent.Agent.{Agent}
use Rattle.iso_agent.specs.declared.agent.Kept.TheVariants.{Nothing}
use Rattle.iso_history.specs.declared.entry.Entry.{Entry}
use Rattle.iso_script.specs.declared.script.Script.{Script}

-- the agent at a place
abbrev pub agent_at : List Agent → ℕ → Agent
agent_at agents at = slice_index_or agents at (record { conn = record { 0 = 0 }; task = None; kept = Nothing })

-- the agent at each place is that of the connection of that number, and is between two of its turns
pub record AreRested (script : Script) (es : List Entry) (agents : List Agent) : Type 0 where
  pub count : length agents ≡ length script.head.conns
  pub conns : (i : ℕ) → i < length agents → (agent_at agents i).conn.0 ≡ i
  pub rested : (i : ℕ) → i < length agents
      → IsRested script es (agent_at agents i).conn (agent_at agents i).task (agent_at agents i).kept

-- they have made nothing yet
pub record AreNew (agents : List Agent) : Type 0 where
  pub conns : (i : ℕ) → i < length agents → (agent_at agents i).conn.0 ≡ i
  pub tasks : (i : ℕ) → i < length agents → (agent_at agents i).task ≡ None
  pub kept : (i : ℕ) → i < length agents → (agent_at agents i).kept ≡ Nothing
