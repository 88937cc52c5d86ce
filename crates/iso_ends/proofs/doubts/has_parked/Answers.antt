use Rattle.std.proofs.Common.{◌∙◌, sym}
use Rattle.iso_ends.proofs.DoubtFinds.{first-none}
use Rattle.iso_key.specs.Pages.{entries}
use Rattle.iso_ends.proofs.doubts.has_parked.Goals as goal

pub returns : goal.returns
returns c e = first-none (entries c.args.doubt.now.parked) c.first_from.result c.first_from.ensures (sym c.is_some.ensures ∙ e)
