use Rattle.iso_script.proofs.KeptLaws.{none_counted}
use Rattle.iso_script.proofs.progress.no_rows.Goals as goal

pub returns : goal.returns
returns c = none_counted
