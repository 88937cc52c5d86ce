-- What a request comes to.
use Rattle.iso_history.specs.Requests.{Outcome}
use Rattle.iso_history.specs.Requests.Outcome.{Gives, Limit}
use Rattle.iso_history.specs.declared.entry.Got.{Got}
use Rattle.iso_state.specs.declared.locks.Judged.{Judged}
use Rattle.iso_state.specs.declared.locks.Judged.TheVariants.{AtLimit, Granted, Queues, TimesOut}

-- the outcome that was judged
abbrev pub judged_as : Judged → Outcome
judged_as Granted = Gives Got.Granted
judged_as (Queues target) = Gives (Got.Queued target)
judged_as TimesOut = Gives Got.TimedOut
judged_as AtLimit = Limit
