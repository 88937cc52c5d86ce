-- What a turn of an agent has done.
use Rattle.std.specs.Prelude.{◌≡◌, Bool, true, false, List, [], ◌∷◌, ◌++◌, Option}
use Rattle.iso_agent.specs.Fits.{CanSettle, Fits}
use Rattle.iso_agent.specs.declared.agent.Kept.{Kept}
use Rattle.iso_agent.specs.declared.agent.Turned.{Turned}
use Rattle.iso_agent.specs.declared.agent.Turned.TheVariants.{Ended, Ran}
use Rattle.iso_conduct.specs.Conduct.{Conduct}
use Rattle.iso_conduct.specs.Points.{Point}
use Rattle.iso_history.specs.Makers.{by_agent}
use Rattle.iso_history.specs.declared.entry.Act.{Act}
use Rattle.iso_history.specs.declared.entry.Entry.{Entry}
use Rattle.iso_script.specs.declared.script.Line.{Line}
use Rattle.iso_types.specs.declared.head.Head.{Head}
use Rattle.iso_types.specs.declared.value.Conn.{Conn}

-- it made an entry
abbrev pub is_ran : Turned → Bool
is_ran Ran = true
is_ran _ = false

-- the connection has ended
abbrev pub is_over : Turned → Bool
is_over Ended = true
is_over _ = false

-- one entry more by this connection where it ran; else the same history
abbrev pub HasTurned : List Entry → List Entry → Conn → Turned → Type 0
HasTurned old new c Ran = (act : Act) × (new ≡ old ++ by_agent c act ∷ [])
HasTurned old new c _ = new ≡ old

-- what a turn that made an entry leaves: the connection has kept to its statements, the agent fits the history, and what is kept
-- can be told
pub record Leaves (head : Head) (lines : List Line) (es : List Entry) (c : Conn) (task : Option Point) (kept : Kept) : Type 0 where
  pub conduct : Conduct head lines es c
  pub fits : Fits head lines es c task kept
  pub settle : CanSettle task kept
