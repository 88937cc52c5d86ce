-- What a turn of the dispatcher makes, at the world and the lines that it comes to.
use Rattle.std.specs.Option.{option_map_or}
use Rattle.std.specs.Prelude.{◌≡◌, Bool, true, false, List, [], ◌∷◌, ◌++◌, Option, Some, None, is_some, Result, Err, IfOk, OnOk, OnErr}
use Rattle.iso_conduct.specs.Pacing.{MayHalt, MayPace, lines_after_act, purge_or_line}
use Rattle.iso_conduct.specs.Schedule.{IsFirst, dispatcher_step, ending_step}
use Rattle.iso_director.specs.declared.director.Led.{Led}
use Rattle.iso_director.specs.declared.director.Led.TheVariants.{Ended, Ran, Rests}
use Rattle.iso_director.specs.declared.taking.Taken.{Taken}
use Rattle.iso_director.specs.declared.taking.Taken.TheVariants as taking
use Rattle.iso_history.specs.Entries.{least_purgeable}
use Rattle.iso_history.specs.Makers.{by_dispatcher}
use Rattle.iso_history.specs.Paces.{is_purge}
use Rattle.iso_history.specs.Stops.{is_full}
use Rattle.iso_history.specs.World.{World}
use Rattle.iso_history.specs.declared.entry.Act.{Act}
use Rattle.iso_history.specs.declared.entry.Act.TheVariants.{Busy, Close, Dispatch, Expire, Finish, Snapshot, Stopped}
use Rattle.iso_history.specs.declared.entry.Cause.{Cause}
use Rattle.iso_history.specs.declared.entry.Entry.{Entry}
use Rattle.iso_pace.specs.Answers.{is_taken, taken}
use Rattle.iso_pace.specs.declared.lines.Paced.{Paced}
use Rattle.iso_script.specs.declared.script.Line.{Line}
use Rattle.iso_types.specs.declared.head.Head.{Head}
use Rattle.iso_types.specs.declared.items.StepFault.{StepFault}
use Rattle.iso_types.specs.declared.items.StepFault.TheVariants.{HistoryFull}

-- what a step that faults lacks
abbrev pub lacked : StepFault → Cause
lacked StepFault.Memory = Cause.Memory
lacked HistoryFull = Cause.History

-- a step was tried: it made its entry where there is one; a fault comes only where there is one, and the history's limit only
-- where it is full
pub record HasTried (head : Head) (w : World) (step : Option Act) (old new : List Entry) (r : Result Paced StepFault) : Type 0 where
  pub answer : IfOk r (λ a. is_taken a ≡ is_some step)
  pub ok : OnOk r (new ≡ old ++ taken step)
  pub full : r ≡ Err HistoryFull → option_map_or (λ a. is_full head w (by_dispatcher a)) step false ≡ true
  pub due : OnErr r (is_some step ≡ true)

-- the step that is due at a line: the purge of a pair before it, or its own
abbrev pub due_step : Head → World → Line → Option Act
due_step head w l = purge_or_line head w l w.pace.purged (least_purgeable head w)

-- it takes a line
abbrev pub takes_line : Act → Bool
takes_line (Dispatch n c) = true
takes_line (Busy n c) = true
takes_line (Expire n c ended) = true
takes_line (Snapshot n locks) = true
takes_line _ = false

-- the step's entry, by which a line is taken or a pair goes; a stop in its place; or nothing where there is no step
abbrev pub HasLineTaken : Head → World → Option Act → List Entry → List Entry → Taken → Type 0
HasLineTaken head w step old new taking.Line =
    (a : Act) × (step ≡ Some a) × (takes_line a ≡ true) × (is_full head w (by_dispatcher a) ≡ false) × (new ≡ old ++ by_dispatcher a ∷ [])
HasLineTaken head w step old new taking.Pair =
    (a : Act) × (step ≡ Some a) × (is_purge a ≡ true) × (is_full head w (by_dispatcher a) ≡ false) × (new ≡ old ++ by_dispatcher a ∷ [])
HasLineTaken head w step old new taking.Stop = (cause : Cause) × MayHalt head w step cause × (new ≡ old ++ by_dispatcher (Stopped cause) ∷ [])
HasLineTaken head w step old new taking.Nothing = (step ≡ None) × (new ≡ old)

-- an act with which a run ends
abbrev pub is_end : Act → Bool
is_end (Close c) = true
is_end Finish = true
is_end _ = false

-- a connection is closed or the history over, or nothing is to be closed yet
abbrev pub HasEnded : Head → World → List Entry → List Entry → Led → Type 0
HasEnded head w old new Ran = (a : Act) × (ending_step head w ≡ Some a) × (is_end a ≡ true) × (new ≡ old ++ by_dispatcher a ∷ [])
HasEnded head w old new Rests = (ending_step head w ≡ None) × (new ≡ old)
HasEnded head w old new Ended = ⊥

-- the act is the first step, keeps to the order of the lines, and leaves the rest
pub record IsTurn (head : Head) (w : World) (ls rest : List Line) (a : Act) : Type 0 where
  pub first : IsFirst head w ls a
  pub paces : MayPace head w ls a
  pub left : lines_after_act ls a ≡ rest

-- what a turn makes where the history is not over
abbrev pub HasMade : Head → World → List Line → List Line → List Entry → List Entry → Led → Type 0
HasMade head w ls rest old new Ran = (a : Act) × (new ≡ old ++ by_dispatcher a ∷ []) × IsTurn head w ls rest a
HasMade head w ls rest old new Rests = (dispatcher_step head w ls ≡ None) × (rest ≡ ls) × (new ≡ old)
HasMade head w ls rest old new Ended = ⊥
