use Rattle.iso_director.proofs.UntiedAlong.{acyclic-after}
use Rattle.iso_director.proofs.untied.stays_acyclic.Goals as goal

pub returns : goal.returns
returns g head w e al open_ free none = acyclic-after head w e al open_ free none
