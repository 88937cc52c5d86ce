use Rattle.iso_chain.proofs.Kept.{kept-world}
use Rattle.iso_chain.proofs.laws.histories_are_kept.Goals as goal

pub returns : goal.returns
returns c = kept-world
