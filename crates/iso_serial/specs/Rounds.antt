-- The turns of a run on one thread: who stands where in the circle, what a turn makes, and where the run stands after it.
use Rattle.std.specs.Prelude.{◌≡◌, ℕ, zero, suc, Bool, true, false, List, [], ◌∷◌, ◌++◌, map, drop, find, take, Option, Some, None}
use Rattle.iso_conduct.specs.Pacing.{lines_left}
use Rattle.iso_conduct.specs.Schedule.{Leads, Scheduled, Turns, can_act, turns_after}
use Rattle.iso_conduct.specs.Schedule.Turns.{Round}
use Rattle.iso_history.specs.After.{world}
use Rattle.iso_history.specs.declared.entry.Act.{Act}
use Rattle.iso_history.specs.declared.entry.Entry.{Entry}
use Rattle.iso_history.specs.declared.entry.Who.{Who}
use Rattle.iso_history.specs.declared.entry.Who.TheVariants.{Agent, Dispatcher}
use Rattle.iso_script.specs.declared.script.Script.{Script}
use Rattle.iso_types.specs.Head.{conns}
use Rattle.iso_types.specs.declared.head.Head.{Head}

-- the agent of the connection of this number
abbrev pub agent : ℕ → Who
agent c = Agent (record { 0 = c })

-- the actor with this voice: the dispatcher has 0, connection c has c + 1
abbrev pub actor : ℕ → Who
actor zero = Dispatcher
actor (suc c) = agent c

-- the agents, as they stand in the circle
abbrev pub agents_of : Head → List Who
agents_of head = map Agent (conns head)

-- those from a place up to another
abbrev pub agents_between : Head → ℕ → ℕ → List Who
agents_between head from to = drop from (take to (agents_of head))

-- who could act on a history
abbrev pub could_act : Script → List Entry → Who → Bool
could_act script es = can_act script.head (world script.head es) (lines_left script.lines es)

-- one entry more, this actor's; the dispatcher's is its first step
pub record HasMade (script : Script) (old new : List Entry) (who : Who) : Type 0 where
  pub act : Act
  pub history : new ≡ old ++ (record { who = who; act = act }) ∷ []
  pub leads : Leads script.head (world script.head old) (lines_left script.lines old) who act

-- the actor could act, and has made an entry; or it could not, and nothing was made
abbrev pub HasTried : Script → List Entry → List Entry → Who → Bool → Type 0
HasTried script old new who true = HasMade script old new who × (could_act script old who ≡ true)
HasTried script old new who false = (new ≡ old) × (could_act script old who ≡ false)

-- the first of these that could act, the agent of this connection, has made an entry; or none could, and nothing was made
abbrev pub HasAsked : Script → List Entry → List Entry → List Who → Option ℕ → Type 0
HasAsked script old new whos (Some c) = HasMade script old new (agent c) × (find (could_act script old) whos ≡ Some (agent c))
HasAsked script old new whos None = (new ≡ old) × (find (could_act script old) whos ≡ None)

-- the turns that are reached after these entries
abbrev pub turns_from : Turns → List Entry → Turns
turns_from ts [] = ts
turns_from ts (e ∷ es) = turns_from (turns_after ts e.who) es

-- the history is that of the run so far, and its last entry is this actor's
pub record IsAfter (script : Script) (es : List Entry) (who : Who) : Type 0 where
  pub scheduled : Scheduled script.head script.lines None es
  pub turns : turns_from (Round None) es ≡ Round (Some who)
