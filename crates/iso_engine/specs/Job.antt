-- The words of the command line, and what a run of the program answers and writes.
use Rattle.std.specs.Prelude.{◌≡◌, ℕ, ◌≤◌, ◌⊎◌, ◌↔◌, List, [], ◌++◌, length, None, Bool, true, if◌then◌else◌, Option, Some, codes, ⊤}
use Rattle.std.specs.Fmt.{decimal}
use Rattle.std.specs.Io.KnownBytes.{Appends, Consumes, IsAtEnd}
use Rattle.iso_conduct.specs.Legal.{AreGuarded, IsFinished, IsLegal}
use Rattle.iso_conduct.specs.Whole.{IsWhole}
use Rattle.iso_engine.specs.Stopping.{has_limit_stop, has_memory_stop, status_of}
use Rattle.iso_engine.specs.declared.job.Aim.{Aim}
use Rattle.iso_engine.specs.declared.job.Aim.TheVariants.{Count, Run}
use Rattle.iso_engine.specs.declared.job.Course.{Course}
use Rattle.iso_engine.specs.declared.job.Way.{Way}
use Rattle.iso_history.specs.declared.entry.Entry.{Entry}
use Rattle.iso_words.specs.declared.parts.Job.{Job}
use Rattle.iso_io.specs.Moves.{AppendsPart}
use Rattle.iso_generate.specs.Generated.{generated}
use Rattle.iso_render.specs.Outputs.{count_text, output_text}
use Rattle.iso_render.specs.declared.outputs.Output.{Output}
use Rattle.iso_render.specs.declared.outputs.Output.TheVariants.{Summary, Traced, Transcript}
use Rattle.iso_script.specs.Reading.{bad, place_at, reads, word_of}
use Rattle.iso_script.specs.declared.fault.LineCause.{LineCause}
use Rattle.iso_script.specs.declared.script.Script.{Script}
use Rattle.iso_serial.specs.Seeds.{IsScheduled}

-- what other words are answered
abbrev pub usage : List ℕ
usage = codes "USAGE\n"

-- what a script is refused with at its first bad line, for this cause
abbrev pub refusal_at : ℕ → LineCause → List ℕ
refusal_at n why = codes "LINE " ++ decimal n ++ codes " " ++ word_of why ++ codes " AT " ++ decimal (place_at why) ++ codes "\n"

-- what a script of too many bytes is refused with
abbrev pub too_long : List ℕ
too_long = codes "LINE 0 TOO LONG\n"

-- the text that refuses bytes with a bad line: this line is the first one
abbrev pub IsBadWith : List ℕ → List ℕ → Type 0
IsBadWith bytes text = (n : ℕ) × (why : LineCause) × bad bytes n why × (text ≡ refusal_at n why)

-- the text that refuses the bytes that were taken: there are too many, or none is left and they have a bad line
abbrev pub RefusedWith : List ℕ → Option (List ℕ) → List ℕ → Type 0
RefusedWith bytes left text =
    ((length bytes ≡ 1048577) × (text ≡ too_long)) ⊎ (IsAtEnd left × (length bytes ≤ 1048576) × IsBadWith bytes text)

-- the text that refuses all the bytes of a source: there are too many, or they have a bad line
abbrev pub Refuses : List ℕ → List ℕ → Type 0
Refuses all text = ((1048577 ≤ length all) × (text ≡ too_long)) ⊎ ((length all ≤ 1048576) × IsBadWith all text)

-- the order of the entries: on threads that in which the agents' steps came, whichever it was; on one thread that of the serial
-- schedule, with this seed or without one
abbrev pub IsDriven : Way → Script → List Entry → Type 0
IsDriven Way.Threaded script history = ⊤
IsDriven (Way.Serial seed) script history = IsScheduled script.head script.lines seed history

-- a run that began: its history is legal, guarded in all five ways, and ends with Finish, and its entries came in the order of its way
pub record IsRunOf (how : Way) (script : Script) (history : List Entry) : Type 0 where
  pub legal : IsLegal script history
  pub guarded : AreGuarded script history
  pub finished : IsFinished history
  pub driven : IsDriven how script history

-- what such a run has written: the whole transcript, with the status that its stops give; a part of it, where the sink failed; or
-- nothing, where there was no memory for it
abbrev pub TellsRun : List ℕ → List Entry → ℕ → Option (List ℕ) → Option (List ℕ) → Type 0
TellsRun text history status old new =
    ((status ≡ status_of history) × Appends old new text) ⊎ (((status ≡ 4) × AppendsPart old new text) ⊎ ((status ≡ 5) × Appends old new []))

-- what a run of the script leaves: the history and what is written of it; or nothing, where memory was wanting before its first entry
abbrev pub IsTold : Course → Script → ℕ → List Entry → Option (List ℕ) → Option (List ℕ) → Type 0
IsTold course script status history old new =
    (IsRunOf course.way script history × TellsRun (output_text course.output script history) history status old new) ⊎ ((history ≡ []) × (status ≡ 5) × Appends old new [])

-- a text is written without a run: whole with status 0, in part where the sink failed, or not at all where there was no memory for it
abbrev pub IsSaid : List ℕ → ℕ → List Entry → Option (List ℕ) → Option (List ℕ) → Type 0
IsSaid text status history old new =
    (history ≡ []) × (((status ≡ 0) × Appends old new text) ⊎ (((status ≡ 4) × AppendsPart old new text) ⊎ ((status ≡ 5) × Appends old new [])))

-- a script is only read: the number of its lines is written
abbrev pub IsCounted : Script → ℕ → List Entry → Option (List ℕ) → Option (List ℕ) → Type 0
IsCounted script status history old new = IsSaid (count_text script) status history old new

-- the output of the jobs `run` and `serial`
abbrev pub output_of : Bool → Output
output_of trace = if trace then Traced else Transcript

-- how the jobs `run` and `serial` run a script
abbrev pub course_of : Way → Bool → Course
course_of how trace = record { way = how; output = output_of trace }

-- how the job `mix` runs one: on one thread, without a seed for its schedule
abbrev pub mixing : Course
mixing = record { way = Way.Serial None; output = Summary }

-- what the job `mix` leaves: the script that the seed makes was run, and its summary written; or memory was wanting before its first entry
abbrev pub IsMixed : ℕ → ℕ → ℕ → List Entry → Option (List ℕ) → Option (List ℕ) → Type 0
IsMixed seed count status history old new =
    ((script : Script) × reads (generated seed count) script × IsTold mixing script status history old new)
    ⊎ ((history ≡ []) × (status ≡ 5) × Appends old new [])

-- what is made of a script that was read
abbrev pub Telling : Type 1
Telling = Script → ℕ → List Entry → Option (List ℕ) → Option (List ℕ) → Type 0

-- the script was refused
abbrev pub IsRefused : List ℕ → Option (List ℕ) → ℕ → List Entry → Option (List ℕ) → Option (List ℕ) → Type 0
IsRefused bytes left status history old new =
    (status ≡ 2) × (text : List ℕ) × RefusedWith bytes left text × (history ≡ []) × AppendsPart old new text

-- the source failed, or there was no memory for the script: nothing is written, and no run began
abbrev pub IsUnread : ℕ → List Entry → Option (List ℕ) → Option (List ℕ) → Type 0
IsUnread status history old new = ((status ≡ 3) ⊎ (status ≡ 5)) × (history ≡ []) × Appends old new []

-- what is made of it by the aim of the job
abbrev pub told_by : Aim → Telling
told_by (Run course) = IsTold course
told_by Count = IsCounted

-- the aim of a job that reads a script
abbrev pub aim_of : Option Job → Option Aim
aim_of (Some (Job.Run trace)) = Some (Run (course_of Way.Threaded trace))
aim_of (Some (Job.Serial seed trace)) = Some (Run (course_of (Way.Serial seed) trace))
aim_of (Some Job.Check) = Some Count
aim_of _ = None

-- the source was read to its end, and the script was run, or counted
abbrev pub IsRun : Telling → List ℕ → Option (List ℕ) → ℕ → List Entry → Option (List ℕ) → Option (List ℕ) → Type 0
IsRun Told bytes left status history old new =
    IsAtEnd left × (length bytes ≤ 1048576) × (script : Script) × reads bytes script × Told script status history old new

-- one of the three, of the bytes that were taken and of those that are left
abbrev pub IsOutcome : Telling → List ℕ → Option (List ℕ) → ℕ → List Entry → Option (List ℕ) → Option (List ℕ) → Type 0
IsOutcome Told bytes left status history old new =
    IsRefused bytes left status history old new ⊎ (IsUnread status history old new ⊎ IsRun Told bytes left status history old new)

-- the bytes were judged as a script: its run began, or the answer is that of a script that was run
abbrev pub IsJudged : ℕ → List Entry → Type 0
IsJudged status history = (history ≡ [] → ⊥) ⊎ ((status ≡ 0) ⊎ ((status ≡ 4) ⊎ (status ≡ 6)))

-- what is said of all the bytes that a source told, not only of those that were taken. `ended`: where they were judged, none is
-- left. `headline`: whatever script they read as, where its run began, its history is legal, and the bytes written are its
-- transcript. `refused`, `exact`: they are refused only where they are to be, with that text, and always there, but where the
-- source failed or memory was wanting
pub record IsAnswered (course : Course) (all : List ℕ) (left : Option (List ℕ)) (status : ℕ) (history : List Entry) (old new : Option (List ℕ)) : Type 0 where
  pub ended : IsJudged status history → left ≡ Some []
  pub headline : (script : Script) → reads all script → (history ≡ [] → ⊥) → IsTold course script status history old new
  pub refused : status ≡ 2 → (text : List ℕ) × Refuses all text × AppendsPart old new text
  pub exact : (text : List ℕ) → Refuses all text → (status ≡ 2) ⊎ ((status ≡ 3) ⊎ (status ≡ 5))

-- all that is to be written of a run is written, and then every line is answered and the status is 0; or somebody stopped at a
-- limit, and it is 6
abbrev pub IsRunWhole : Course → Script → ℕ → List Entry → Option (List ℕ) → Option (List ℕ) → Type 0
IsRunWhole course script status history old new =
    Appends old new (output_text course.output script history)
    × (((status ≡ 0) × IsWhole script history) ⊎ ((status ≡ 6) × (has_limit_stop history ≡ true)))

-- a text is written whole, with status 0
abbrev pub IsSaidWhole : List ℕ → ℕ → Option (List ℕ) → Option (List ℕ) → Type 0
IsSaidWhole text status old new = (status ≡ 0) × Appends old new text

-- the source was read to its end, and all that the aim asks for is written
abbrev pub IsComplete : Aim → Script → ℕ → List Entry → Option (List ℕ) → Option (List ℕ) → Option (List ℕ) → Type 0
IsComplete (Run course) script status history left old new = (left ≡ Some []) × IsRunWhole course script status history old new
IsComplete Count script status history left old new = (left ≡ Some []) × IsSaidWhole (count_text script) status old new

-- bytes that are no more than a script may have, and read as this script
abbrev pub IsScript : List ℕ → Script → Type 0
IsScript bytes script = (length bytes ≤ 1048576) × reads bytes script

-- a bad line is told, or memory was wanting
abbrev pub IsRefusal : ℕ → LineCause → ℕ → List Entry → Option (List ℕ) → Option (List ℕ) → Type 0
IsRefusal n why status history old new =
    ((status ≡ 2) × (history ≡ []) × AppendsPart old new (refusal_at n why)) ⊎ ((status ≡ 5) × (history ≡ []) × Appends old new [])

-- all of the text is written, or the sink has failed
abbrev pub IsWritten : Type 0 → Option (List ℕ) → Option (List ℕ) → List ℕ → Type 0
IsWritten failed old new text = Appends old new text ⊎ failed

-- the text that refuses the bytes is written whole, or the sink has failed
abbrev pub TellsRefusal : List ℕ → Option (List ℕ) → Type 0 → Option (List ℕ) → Option (List ℕ) → Type 0
TellsRefusal bytes left failed old new = (text : List ℕ) × RefusedWith bytes left text × IsWritten failed old new text

-- ---- the order of statuses

-- what a call of the program met. `unnamed`: words that name no job; `unread`: a read that failed; `refused`: a script that is refused;
-- `unwritten`: a write that failed; `starved`: want of memory; `limited`: a stop at a limit, of the history or of a table
pub record Met : Type 0 where
  pub unnamed : Bool
  pub unread : Bool
  pub refused : Bool
  pub unwritten : Bool
  pub starved : Bool
  pub limited : Bool

-- the status of the first of these that was met; 0 where none was
abbrev pub first_of : Met → ℕ
first_of m =
    if m.unnamed then 1
    else if m.unread then 3
    else if m.refused then 2
    else if m.unwritten then 4
    else if m.starved then 5
    else if m.limited then 6
    else 0

-- the job reads a script, and the bytes that were taken of the source are refused
abbrev pub WasRefused : Option Job → Option (List ℕ) → Option (List ℕ) → Type 0
WasRefused job source left = (aim : Aim) × (aim_of job ≡ Some aim) × (bytes : List ℕ) × Consumes source left bytes × (text : List ℕ) × RefusedWith bytes left text

-- the job reads a script, and all the bytes that the source told are to be refused
abbrev pub IsToRefuse : Option Job → Option (List ℕ) → Type 0
IsToRefuse job source = (aim : Aim) × (aim_of job ≡ Some aim) × (all : List ℕ) × (source ≡ Some all) × (text : List ℕ) × Refuses all text

-- what was met came about. A failed read or write needs a stream that failed; want of memory has no other sign than a Stopped for it.
-- What is to be refused is refused, but where the source failed or memory was wanting
pub record HasMet (job : Option Job) (source left : Option (List ℕ)) (SourceFailed SinkFailed : Type 0) (history : List Entry) (m : Met) : Type 0 where
  pub unnamed : (m.unnamed ≡ true) ↔ (job ≡ None)
  pub unread : m.unread ≡ true → SourceFailed
  pub refused : m.refused ≡ true → WasRefused job source left
  pub refuses : IsToRefuse job source → (m.unread ≡ true) ⊎ ((m.refused ≡ true) ⊎ (m.starved ≡ true))
  pub unwritten : m.unwritten ≡ true → SinkFailed
  pub starved : has_memory_stop history ≡ true → m.starved ≡ true
  pub limited : m.limited ≡ has_limit_stop history

-- the status is that of the first thing that the call met
abbrev pub IsInOrder : Option Job → Option (List ℕ) → Option (List ℕ) → Type 0 → Type 0 → List Entry → ℕ → Type 0
IsInOrder job source left SourceFailed SinkFailed history status = (m : Met) × HasMet job source left SourceFailed SinkFailed history m × (status ≡ first_of m)
