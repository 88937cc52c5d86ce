use Rattle.iso_history.proofs.laws.looks_are_alone.Goals as goal
use Rattle.iso_history.proofs.whole.Looking.{look-alone, settled-alone}
use Rattle.iso_history.proofs.whole.Sound.{sound-world}

pub returns-clause-locked : goal.returns-clause-locked
returns-clause-locked c = λ head es conn t r want g. look-alone head _ (sound-world head es g) conn t r want

pub returns-clause-settled : goal.returns-clause-settled
returns-clause-settled c = λ head es conn t r g. settled-alone head _ (sound-world head es g) conn t r
