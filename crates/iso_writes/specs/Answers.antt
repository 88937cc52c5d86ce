-- What a write comes to before its entry, and what its step answers and appends.
use Rattle.std.specs.Prelude.{Bool, true, false, List, [], ◌∷◌}
use Rattle.iso_history.specs.Makers.{by_agent}
use Rattle.iso_history.specs.Outcomes.{written_by}
use Rattle.iso_history.specs.World.{World}
use Rattle.iso_history.specs.Writes.{Written as Outcome, minus}
use Rattle.iso_history.specs.Writes.Written.{AtLimit, Blocks, Done as IsDone, IsFull, Refuses}
use Rattle.iso_history.specs.declared.entry.Act.{Act}
use Rattle.iso_history.specs.declared.entry.Act.TheVariants.{Lock, Refused as Refusal, Stopped}
use Rattle.iso_history.specs.declared.entry.Entry.{Entry}
use Rattle.iso_history.specs.declared.entry.Got.{Got}
use Rattle.iso_history.specs.declared.entry.Why.{Why}
use Rattle.iso_history.specs.declared.entry.Why.TheVariants.{Escalation}
use Rattle.iso_locks.specs.declared.locking.Answer.{Answer}
use Rattle.iso_types.specs.declared.head.Head.{Head}
use Rattle.iso_types.specs.declared.value.Conn.{Conn}
use Rattle.iso_types.specs.declared.value.Name.{Name}
use Rattle.iso_types.specs.declared.value.Name.TheVariants.{Table}
use Rattle.iso_writes.specs.declared.coming.Coming.{Coming}
use Rattle.iso_writes.specs.declared.coming.Written.{Written}
use Rattle.iso_writes.specs.declared.coming.Written.TheVariants.{Blocked, Done, Escalates, Full, Refused, TimedOut}

-- the outcome that was judged
abbrev pub coming_as : Coming → Outcome
coming_as Coming.Done = IsDone
coming_as Coming.Full = IsFull
coming_as Coming.AtLimit = AtLimit
coming_as Coming.PastLog = Refuses (minus 964)
coming_as Coming.Taken = Refuses (minus 803)
coming_as (Coming.Blocked n m) = Blocks n m

-- the outcome of a change that nothing but the log can keep from being made
abbrev pub past_or_done : Bool → Outcome
past_or_done true = Refuses (minus 964)
past_or_done false = IsDone

-- what comes at the lock limit
abbrev pub comes_at_limit : Answer → Bool
comes_at_limit Answer.Done = false
comes_at_limit Answer.Queued = false
comes_at_limit _ = true

-- the answer at the lock limit: a table's lock was asked for instead, or it timed out, or there is no such table
abbrev pub limited : Answer → Written
limited (Answer.Escalates t) = Escalates t
limited (Answer.Refused code) = Refused code
limited _ = TimedOut

-- the answer to a Lock: that it timed out, the table of an escalation, or the name that blocks
abbrev pub answer_of_lock : Got → Why → Name → Written
answer_of_lock Got.TimedOut why n = TimedOut
answer_of_lock got Escalation (Table t) = Escalates t
answer_of_lock got why n = Blocked n

-- what a write answers, by its act: the code of a Refused, and that a change is done
abbrev pub answer_of : Act → Written
answer_of (Lock n m t why got) = answer_of_lock got why n
answer_of (Refusal code) = Refused code
answer_of (Stopped cause) = Full
answer_of _ = Done

-- what an insertion appends: its entry; where the table has all its slots nothing, since its statement then stops
abbrev pub appended : Head → World → Conn → Act → Outcome → List Entry
appended head w c a IsFull = []
appended head w c a o = by_agent c (written_by head w c a o) ∷ []
