use Rattle.iso_ends.proofs.StaleWalks.{fresh-none, none-any}
use Rattle.iso_ends.proofs.staleness.no_fresh_pair_is_purged.Goals as goal

pub returns : goal.returns
returns g head w none = (none-any head w none, fresh-none head w (none-any head w none))
