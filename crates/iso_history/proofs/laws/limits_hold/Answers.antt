use Rattle.iso_history.proofs.laws.limits_hold.Goals as goal
use Rattle.iso_history.proofs.facts.Shares.{shares-world}
use Rattle.iso_history.proofs.limits.Within.{limit-holds, log_limit-holds}

pub returns-clause-entries : goal.returns-clause-entries
returns-clause-entries c = limit-holds

pub returns-clause-records : goal.returns-clause-records
returns-clause-records c = log_limit-holds

pub returns-clause-locks : goal.returns-clause-locks
returns-clause-locks c = shares-world
