-- What the steps of the dispatcher answer.
use Rattle.std.specs.Option.{option_map_or}
use Rattle.std.specs.Prelude.{◌≡◌, Bool, ℕ, true, false, ◌||◌, List, [], ◌∷◌, if◌then◌else◌, is_none, Option, Some, None}
use Rattle.iso_history.specs.Entries.{least_purgeable}
use Rattle.iso_history.specs.Makers.{by_dispatcher}
use Rattle.iso_history.specs.Outcomes.{statement_step}
use Rattle.iso_history.specs.declared.entry.Act.{Act}
use Rattle.iso_history.specs.declared.entry.Act.TheVariants.{Close, Finish, Victim}
use Rattle.iso_history.specs.declared.entry.Entry.{Entry}
use Rattle.iso_pace.specs.declared.closing.Closing.{Closing}
use Rattle.iso_pace.specs.declared.closing.Closing.TheVariants.{Finished, One}
use Rattle.iso_history.specs.Phases.{is_phase, phase, victim}
use Rattle.iso_history.specs.Quiet.{all_ended, cycle_in, is_quiet, least_idle}
use Rattle.iso_history.specs.World.{World}
use Rattle.iso_pace.specs.declared.lines.Paced.{Paced}
use Rattle.iso_pace.specs.declared.lines.Paced.TheVariants.{Busy, Done, NoEffect, NotQuiet, Stopping}
use Rattle.iso_types.specs.declared.desk.Phase.{Phase}
use Rattle.iso_types.specs.declared.head.Head.{Head}
use Rattle.iso_types.specs.declared.value.Conn.{Conn}

-- a Stopped stands, or no pair is purgeable, or the dispatcher's last entry is a Purge
abbrev pub MayTakeLine : Head → World → Type 0
MayTakeLine head w = (w.pace.stopped || (w.pace.purged || is_none (least_purgeable head w))) ≡ true

-- the line was taken: it has its entry
abbrev pub is_taken : Paced → Bool
is_taken Done = true
is_taken Busy = true
is_taken NoEffect = true
is_taken NotQuiet = false
is_taken Stopping = false

-- a line EXPIRE: none is taken after a Stopped, and none but in quiet; it ends a wait or has no effect
abbrev pub expired : Head → World → Conn → Paced
expired head w c =
    if w.pace.stopped then Stopping
    else if is_quiet head w then (if is_phase (phase w c) Phase.Waiting then Done else NoEffect)
    else NotQuiet

-- a line SNAPSHOT, likewise
abbrev pub shown : Head → World → Paced
shown head w = if w.pace.stopped then Stopping else if is_quiet head w then Done else NotQuiet

-- closing: the end where all have ended; nothing where not all is quiet; else the least idle connection
abbrev pub closed : Head → World → Closing
closed head w =
    if all_ended head w then Finished
    else if is_quiet head w then option_map_or One (least_idle head w) Closing.NotQuiet
    else Closing.NotQuiet

-- what is recorded then
abbrev pub closing : Closing → List Entry
closing (One c) = by_dispatcher (Close c) ∷ []
closing Closing.NotQuiet = []
closing Finished = by_dispatcher Finish ∷ []

-- the end of a deadlock: the victim of the chosen cycle, and none where there is no cycle
abbrev pub detected : Head → World → Option Conn
detected head w = option_map_or (victim w) (cycle_in head w) None

-- what is recorded then
abbrev pub detecting : Option (List Conn) → List Entry
detecting None = []
detecting (Some cycle) = by_dispatcher (Victim cycle) ∷ []

-- the step that takes a statement's line: none after a Stopped; one without `&` is taken only in quiet
abbrev pub line_step : Head → World → ℕ → Conn → Bool → Option Act
line_step head w line c free =
    if w.pace.stopped then None else if free || is_quiet head w then statement_step head w line c else None

-- what is answered then
abbrev pub answered : Option Act → Paced
answered None = NotQuiet
answered (Some (Act.Busy line c)) = Busy
answered (Some _) = Done

-- a statement's line
abbrev pub dispatched : Head → World → ℕ → Conn → Bool → Paced
dispatched head w line c free = if w.pace.stopped then Stopping else answered (line_step head w line c free)

-- what is recorded then
abbrev pub taken : Option Act → List Entry
taken None = []
taken (Some a) = by_dispatcher a ∷ []
