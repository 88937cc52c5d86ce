use Rattle.iso_history.proofs.laws.undo_takes_the_last.Goals as goal
use Rattle.iso_history.proofs.whole.Guarded.{undo-last}

pub returns : goal.returns
returns c = undo-last
