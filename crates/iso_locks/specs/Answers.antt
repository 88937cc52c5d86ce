-- What a step of locks answers, by the act that it recorded.
use Rattle.iso_history.specs.declared.entry.Act.{Act}
use Rattle.iso_history.specs.declared.entry.Act.TheVariants.{Lock, Refused as Refusal}
use Rattle.iso_history.specs.declared.entry.Got.{Got}
use Rattle.iso_history.specs.declared.entry.Why.{Why}
use Rattle.iso_history.specs.declared.entry.Why.TheVariants.{Escalation}
use Rattle.iso_types.specs.declared.value.Name.{Name}
use Rattle.iso_types.specs.declared.value.Name.TheVariants.{Table}
use Rattle.iso_locks.specs.declared.locking.Answer.{Answer}
use Rattle.iso_locks.specs.declared.locking.Answer.TheVariants.{Done, Escalates, Queued, Refused, TimedOut}

-- to a Lock: that it timed out; for an escalation its table, also where it queues; else whether it queues
abbrev pub answer_of_lock : Got → Why → Name → Answer
answer_of_lock Got.TimedOut why n = TimedOut
answer_of_lock got Escalation (Table t) = Escalates t
answer_of_lock (Got.Queued to) why n = Queued
answer_of_lock Got.Granted why n = Done

-- to a Refused its code; to all else that it is done
abbrev pub answer_of : Act → Answer
answer_of (Lock n m t why got) = answer_of_lock got why n
answer_of (Refusal code) = Refused code
answer_of _ = Done
