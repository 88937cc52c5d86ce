use Rattle.iso_conduct.proofs.Lasts.{may_one}
use Rattle.iso_history.specs.Phases.{phase}
use Rattle.iso_conduct.proofs.laws.one_entry_is_next.Goals as goal

pub returns : goal.returns
returns c = λ head lines w k o a b na nb m n. may_one (phase w k) head lines w k o a b na nb m n
