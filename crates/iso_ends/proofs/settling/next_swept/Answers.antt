use Rattle.std.proofs.Common.{true}
use Rattle.iso_ends.proofs.DoubtSets.{some-found}
use Rattle.iso_key.specs.Pages.{entries}
use Rattle.iso_types.specs.Ids.{pair_lt}
use Rattle.iso_ends.proofs.settling.next_swept.Goals as goal

pub returns-in-Some : goal.returns-in-Some
returns-in-Some c = some-found (pair_lt c.in-Some.at) (entries c.args.doubt.now.pairs) c.next_after.result c.next_after.ensures

pub returns-in-None : goal.returns-in-None
returns-in-None c = some-found (λ _. true) (entries c.args.doubt.now.pairs) c.first_from.result c.first_from.ensures
