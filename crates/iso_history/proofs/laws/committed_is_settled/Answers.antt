use Rattle.iso_history.proofs.laws.committed_is_settled.Goals as goal
use Rattle.iso_history.proofs.whole.Guarded.{settled-committed}

pub returns : goal.returns
returns c = settled-committed
