use Rattle.iso_ends.proofs.StaleAfter.{none_stale-after}
use Rattle.iso_ends.proofs.staleness.pairs_stay_fresh.Goals as goal

pub returns : goal.returns
returns g head w e al there n free = none_stale-after head w e al there n free
