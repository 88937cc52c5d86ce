use Rattle.iso_conduct.proofs.Chained.{all-guarded}
use Rattle.iso_conduct.proofs.laws.legal_histories_are_guarded.Goals as goal

pub returns : goal.returns
returns c = all-guarded
