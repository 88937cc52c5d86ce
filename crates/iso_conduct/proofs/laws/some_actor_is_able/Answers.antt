use Rattle.iso_conduct.proofs.Progress.{bounded, some-able}
use Rattle.iso_conduct.proofs.laws.some_actor_is_able.Goals as goal

pub returns-clause-able : goal.returns-clause-able
returns-clause-able c = some-able

pub returns-clause-bounded : goal.returns-clause-bounded
returns-clause-bounded c = bounded
