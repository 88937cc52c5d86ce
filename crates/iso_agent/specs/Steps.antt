-- What comes of the step that is due, and what is kept of its entry.
use Rattle.std.specs.Prelude.{◌≡◌, Bool, true, false, ◌&&◌, List, [], ◌∷◌, ◌++◌, IsTrue, Option, Some, None, if◌then◌else◌, nat_lt}
use Rattle.iso_agent.specs.Fits.{Tells}
use Rattle.iso_agent.specs.declared.agent.Kept.{Kept}
use Rattle.iso_agent.specs.declared.agent.Kept.TheVariants.{Answer, Rebuild}
use Rattle.iso_agent.specs.declared.stepped.Stepped.{Stepped}
use Rattle.iso_agent.specs.declared.stepped.Stepped.TheVariants.{Goes, Over, Stops}
use Rattle.iso_conduct.specs.Conduct.{ends, heard}
use Rattle.iso_conduct.specs.Outcomes.{act_of}
use Rattle.iso_conduct.specs.Points.{Point, due, row_due, rows_due}
use Rattle.iso_conduct.specs.declared.moves.Move.{Move}
use Rattle.iso_conduct.specs.declared.moves.Told.{Told}
use Rattle.iso_history.specs.After.{world}
use Rattle.iso_history.specs.Looks.{look}
use Rattle.iso_history.specs.Makers.{by_agent}
use Rattle.iso_history.specs.Requests.{Outcome}
use Rattle.iso_history.specs.Requests.Outcome.{Gives}
use Rattle.iso_history.specs.Stops.{is_full, may_stop}
use Rattle.iso_history.specs.Versions.{slots}
use Rattle.iso_history.specs.World.{World}
use Rattle.iso_history.specs.declared.entry.Act.{Act}
use Rattle.iso_history.specs.declared.entry.Act.TheVariants.{Stopped}
use Rattle.iso_history.specs.declared.entry.Cause.{Cause}
use Rattle.iso_history.specs.declared.entry.Cause.TheVariants.{History, Memory}
use Rattle.iso_history.specs.declared.entry.Entry.{Entry}
use Rattle.iso_history.specs.declared.entry.Got.{Got}
use Rattle.iso_history.specs.declared.entry.Want.{Want}
use Rattle.iso_locks.specs.declared.locking.Answer.{Answer as LockAnswer}
use Rattle.iso_reads.specs.Answers.{is_beside}
use Rattle.iso_reads.specs.declared.outcomes.Looked.{Looked}
use Rattle.iso_reads.specs.declared.stepping.Stepped.{Stepped as NextStepped}
use Rattle.iso_rebuild.specs.Chains.{HasChain}
use Rattle.iso_types.specs.declared.head.Head.{Head}
use Rattle.iso_types.specs.declared.items.StepFault.{StepFault}
use Rattle.iso_types.specs.declared.value.Conn.{Conn}
use Rattle.iso_writes.specs.declared.coming.Written.{Written}

-- ---- what is kept of an answer

-- one answer
abbrev pub keeps : Told → Kept
keeps t = Answer t false

-- an escalation, which queues where the connection waits now
abbrev pub escalating : Told → Bool → Kept
escalating t waits = Answer t waits

-- of a lock that was asked for, by whether the connection waits now
abbrev pub kept_of_lock : LockAnswer → Bool → Kept
kept_of_lock LockAnswer.Done waits = keeps Told.Done
kept_of_lock LockAnswer.Queued waits = keeps Told.Queued
kept_of_lock LockAnswer.TimedOut waits = keeps Told.TimedOut
kept_of_lock (LockAnswer.Escalates t) waits = escalating (Told.Escalates t) waits
kept_of_lock (LockAnswer.Refused code) waits = keeps (Told.Refused code)

-- a look of this want can leave a Fresh hold on its row: it locks the row, or comes next after a claim
abbrev pub leaves_fresh : Want → Bool → Bool
leaves_fresh Want.Dirty claimed = claimed
leaves_fresh Want.Current claimed = claimed
leaves_fresh Want.Settled claimed = claimed
leaves_fresh _ claimed = true

-- of a look, by whether the connection has a Fresh hold on its row now, and waits now
abbrev pub kept_of_look : Looked → Bool → Bool → Kept
kept_of_look (Looked.Shown row) fresh waits = keeps (Told.Shown row fresh)
kept_of_look (Looked.Pinned past) fresh waits = Rebuild past
kept_of_look Looked.EndOfTable fresh waits = keeps Told.EndOfTable
kept_of_look Looked.Queued fresh waits = keeps Told.Queued
kept_of_look Looked.TimedOut fresh waits = keeps Told.TimedOut
kept_of_look (Looked.Escalates t) fresh waits = escalating (Told.Escalates t) waits
kept_of_look (Looked.Refused code) fresh waits = keeps (Told.Refused code)

-- of a step of an index scan, by whether the connection waits now
abbrev pub kept_of_next : NextStepped → Bool → Kept
kept_of_next (NextStepped.At key rid) waits = keeps (Told.At key rid)
kept_of_next NextStepped.Past waits = keeps Told.Past
kept_of_next NextStepped.Queued waits = keeps Told.Queued
kept_of_next NextStepped.TimedOut waits = keeps Told.TimedOut
kept_of_next (NextStepped.Escalates t) waits = escalating (Told.Escalates t) waits
kept_of_next (NextStepped.Refused code) waits = keeps (Told.Refused code)

-- of a write; where the table is full the statement stops
abbrev pub stepped_of_write : Written → Bool → Stepped
stepped_of_write Written.Done waits = Goes (keeps Told.Done)
stepped_of_write (Written.Blocked name) waits = Goes (keeps Told.Blocked)
stepped_of_write Written.TimedOut waits = Goes (keeps Told.TimedOut)
stepped_of_write (Written.Escalates t) waits = Goes (escalating (Told.Escalates t) waits)
stepped_of_write (Written.Refused code) waits = Goes (keeps (Told.Refused code))
stepped_of_write Written.Full waits = Stops Cause.Table

-- what a step lacks
abbrev pub cause_of : StepFault → Cause
cause_of StepFault.Memory = Memory
cause_of StepFault.HistoryFull = History

-- ---- what a step has done

-- what is pinned can be rebuilt
abbrev pub HasPin : Kept → Type 0
HasPin (Rebuild past) = HasChain past
HasPin kept = Unit {0}

-- why nothing was appended: memory was wanting for a step that may be stopped, the entry would be full, or it is a stop itself
abbrev pub IsWanting : Head → World → Conn → Act → Cause → Type 0
IsWanting head w c a Memory = IsTrue (may_stop head w c Memory)
IsWanting head w c a History = is_full head w (by_agent c a) ≡ true
IsWanting head w c a Cause.Table = a ≡ Stopped Cause.Table

-- the step's entry a was made, and goes on with what is kept of it, or ends the statement; or nothing was appended
abbrev pub HasStepped : Head → List Entry → List Entry → Conn → Act → Stepped → Type 0
HasStepped head es new c a (Goes kept) =
    (new ≡ es ++ by_agent c a ∷ []) × (ends a ≡ false) × Tells kept (heard (world head es) (world head new) c a) × HasPin kept
HasStepped head es new c a Over = (new ≡ es ++ by_agent c a ∷ []) × (ends a ≡ true)
HasStepped head es new c a (Stops cause) = (new ≡ es) × IsWanting head (world head es) c a cause

-- the statement goes on
abbrev pub goes_on : Stepped → Bool
goes_on (Goes kept) = true
goes_on _ = false

-- the entry of the step that is due
abbrev pub act_due : Head → World → Conn → Point → Act
act_due head w c p = act_of head w c (row_due p) (rows_due p) (due p)

-- ---- a pinned look

-- the outcome is a grant
abbrev pub is_granted : Outcome → Bool
is_granted (Gives Got.Granted) = true
is_granted _ = false

-- the step that is due pins a slot: it is a look, it is granted, and another unit has changed the row
abbrev pub pins : Head → World → Conn → Move → Bool
pins head w c (Move.Look t r want) = nat_lt r.0 (slots w t) && (is_granted (look head w c t r want) && is_beside w c t r want)
pins head w c m = false

-- what is kept is the pin of a slot: its records, of which no row is made yet
abbrev pub is_pin : Kept → Bool
is_pin (Rebuild past) = true
is_pin kept = false

-- a pin is kept, or nothing was appended
abbrev pub keeps_pin : Stepped → Bool
keeps_pin (Goes kept) = is_pin kept
keeps_pin Over = false
keeps_pin (Stops cause) = true

-- what an entry leaves of the task whose step was due: none, where the statement is over or was stopped; or that task, told nothing
-- of the entry, and the pin where the entry was a pinned look
abbrev pub IsUntold : Head → World → Conn → Option Point → Option Point → Kept → Type 0
IsUntold head w c o None kept = Unit {0}
IsUntold head w c o (Some p) kept = (o ≡ Some p) × (pins head w c (due p) ≡ true → is_pin kept ≡ true)
