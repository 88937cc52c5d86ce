use Rattle.iso_script.proofs.KeyLaws.{none_held}
use Rattle.iso_script.proofs.progress.no_keys.Goals as goal

pub returns : goal.returns
returns c = none_held c.new.result.keys c.new.ensures.empty
