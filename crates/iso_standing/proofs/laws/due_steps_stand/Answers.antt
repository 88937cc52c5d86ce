use Rattle.iso_conduct.proofs.MadeStands.{made-stands}
use Rattle.iso_standing.proofs.Making.{goes-on-may}
use Rattle.iso_standing.proofs.laws.due_steps_stand.Goals as goal

pub returns : goal.returns
returns c script es d p sound g k is_one able going is = made-stands script es d p sound g is_one going (goes-on-may script es d p sound g k able is)
