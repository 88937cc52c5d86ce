use Rattle.iso_history.proofs.laws.worlds_are_sound.Goals as goal
use Rattle.iso_history.proofs.whole.Journal.{first-fitted, log_sound-world}
use Rattle.iso_history.proofs.whole.Locks.{lock_facts}
use Rattle.iso_history.proofs.whole.Sound.{sound-world}

pub returns-clause-sound : goal.returns-clause-sound
returns-clause-sound c = sound-world

pub returns-clause-logs : goal.returns-clause-logs
returns-clause-logs c = λ head es rows. log_sound-world head es (first-fitted head rows)

pub returns-clause-locks : goal.returns-clause-locks
returns-clause-locks c = lock_facts
