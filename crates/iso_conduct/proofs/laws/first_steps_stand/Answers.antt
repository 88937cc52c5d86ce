use Rattle.iso_conduct.proofs.Leads.{first-stands}
use Rattle.iso_conduct.proofs.laws.first_steps_stand.Goals as goal

pub returns : goal.returns
returns c = first-stands
