use Rattle.iso_standing.proofs.Making.{goes-on-may}
use Rattle.iso_standing.proofs.laws.due_steps_may_be_made.Goals as goal

pub returns : goal.returns
returns c script es d p sound g k is_one able is = goes-on-may script es d p sound g k able is
