use Rattle.iso_conduct.proofs.MadeStands.{made-stands}
use Rattle.iso_conduct.proofs.laws.made_stands.Goals as goal

pub returns : goal.returns
returns c = made-stands
