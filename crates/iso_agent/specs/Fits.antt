-- An agent fits a history: its task, once told what is kept, is at the point that the own entries of its connection have reached.
use Rattle.std.specs.Option.{option_map}
use Rattle.std.specs.Prelude.{◌≡◌, Bool, true, false, ◌||◌, List, [], ◌∷◌, Option, Some, None}
use Rattle.iso_agent.specs.declared.agent.Kept.{Kept}
use Rattle.iso_agent.specs.declared.agent.Kept.TheVariants.{Answer, Nothing, Rebuild, Stop}
use Rattle.iso_conduct.specs.Answers.{answers}
use Rattle.iso_conduct.specs.Conduct.{Conduct, point}
use Rattle.iso_conduct.specs.Courses.{MayTell, takes_memory}
use Rattle.iso_conduct.specs.Points.{Point, due, told_all, told_point}
use Rattle.iso_conduct.specs.declared.moves.Told.{Told}
use Rattle.iso_history.specs.After.{world}
use Rattle.iso_history.specs.Phases.{phase}
use Rattle.iso_history.specs.declared.entry.Entry.{Entry}
use Rattle.iso_rebuild.specs.Chains.{HasChain, IsRebuilt}
use Rattle.iso_rebuild.specs.declared.past.Past.{Past}
use Rattle.iso_script.specs.declared.script.Line.{Line}
use Rattle.iso_script.specs.declared.script.Script.{Script}
use Rattle.iso_types.specs.declared.desk.Phase.TheVariants.{Running}
use Rattle.iso_types.specs.declared.head.Head.{Head}
use Rattle.iso_types.specs.declared.value.Conn.{Conn}
use Rattle.iso_types.specs.declared.value.Value.{Value}

-- ---- what is kept

-- an answer, and then that the step queues where it does
abbrev pub told_list : Told → Bool → List Told
told_list told false = told ∷ []
told_list told true = told ∷ Told.Queued ∷ []

-- a look without a Fresh hold showed this
abbrev pub shows : Option (List Value) → List Told
shows row = Told.Shown row false ∷ []

-- what is kept tells this: answers, or what a look's pin is rebuilt to; a stop tells nothing
abbrev pub Tells : Kept → List Told → Type 0
Tells Nothing ts = ts ≡ []
Tells (Answer told queued) ts = ts ≡ told_list told queued
Tells (Rebuild past) ts =
    (shown : Option (List Value)) × ((row : Option (List Value)) → IsRebuilt past row → row ≡ shown) × (ts ≡ shows shown)
Tells Stop ts = ⊥

-- nothing is left to be told
abbrev pub is_settled : Kept → Bool
is_settled Nothing = true
is_settled Stop = true
is_settled _ = false

-- memory may be wanting for one of these answers
abbrev pub wants : Point → List Told → Bool
wants p [] = false
wants p (t ∷ ts) = takes_memory p t || wants (told_point p t) ts

-- the same of a task, where there is one
abbrev pub wants_in : Option Point → List Told → Bool
wants_in None ts = false
wants_in (Some p) ts = wants p ts

-- memory may be wanting for what is kept, or was
abbrev pub may_want : Option Point → Kept → Bool
may_want task Nothing = false
may_want task (Answer told queued) = wants_in task (told_list told queued)
may_want task (Rebuild past) = true
may_want task Stop = true

-- ---- an agent at a history

-- the task after these answers
abbrev pub told_to : Option Point → List Told → Option Point
told_to task ts = option_map (λ p. told_all p ts) task

-- the task, once told what is kept, is at this point; where a stop is kept nothing is said of it
abbrev pub Reaches : Option Point → Kept → Option Point → Type 0
Reaches task Nothing o = task ≡ o
Reaches task (Answer told queued) o = told_to task (told_list told queued) ≡ o
Reaches task (Rebuild past) o = (row : Option (List Value)) → IsRebuilt past row → told_to task (shows row) ≡ o
Reaches task Stop o = Unit {0}

-- it is at the point of its connection's own entries; and the connection runs where memory may be wanting or was, so that the agent
-- may stop
pub record Fits (head : Head) (lines : List Line) (es : List Entry) (c : Conn) (task : Option Point) (kept : Kept) : Type 0 where
  pub reaches : Reaches task kept (point head lines es c)
  pub runs : may_want task kept ≡ true → phase (world head es) c ≡ Running

-- an agent between two turns: nothing is left to be told, and its connection has kept to its statements
pub record IsRested (script : Script) (es : List Entry) (c : Conn) (task : Option Point) (kept : Kept) : Type 0 where
  pub fits : Fits script.head script.lines es c task kept
  pub settled : is_settled kept ≡ true
  pub conduct : Conduct script.head script.lines es c

-- ---- telling what is kept

-- each of these is an answer of the step that is due once those before it are told, and may be told
abbrev pub CanTell : Point → List Told → Type 0
CanTell p [] = Unit {0}
CanTell p (t ∷ ts) = (answers (due p) t ≡ true) × MayTell p t × CanTell (told_point p t) ts

-- there is a task, and it can be told these
abbrev pub CanTellTo : Option Point → List Told → Type 0
CanTellTo None ts = ⊥
CanTellTo (Some p) ts = CanTell p ts

-- what is kept can be told: there is a task, and what is pinned can be rebuilt
abbrev pub CanSettle : Option Point → Kept → Type 0
CanSettle task Nothing = Unit {0}
CanSettle task (Answer told queued) = CanTellTo task (told_list told queued)
CanSettle task (Rebuild past) = HasChain past × ((row : Option (List Value)) → IsRebuilt past row → CanTellTo task (shows row))
CanSettle task Stop = Unit {0}

-- the task was told these; or memory was wanting for one of them, and a stop is kept
abbrev pub HasTold : Option Point → List Told → Option Point → Kept → Type 0
HasTold task ts after Nothing = after ≡ told_to task ts
HasTold task ts after Stop = wants_in task ts ≡ true
HasTold task ts after last = ⊥

-- of a pinned slot it was told what the pin is rebuilt to
abbrev pub HasRebuilt : Option Point → Past → Option Point → Kept → Type 0
HasRebuilt task past after Nothing = (row : Option (List Value)) × IsRebuilt past row × (after ≡ told_to task (shows row))
HasRebuilt task past after Stop = Unit {0}
HasRebuilt task past after last = ⊥

-- the task was told what was kept; or memory was wanting for it, and a stop is kept
abbrev pub HasSettled : Option Point → Kept → Option Point → Kept → Type 0
HasSettled task Nothing after last = (after ≡ task) × (last ≡ Nothing)
HasSettled task (Answer told queued) after last = HasTold task (told_list told queued) after last
HasSettled task (Rebuild past) after last = HasRebuilt task past after last
HasSettled task Stop after last = last ≡ Stop
