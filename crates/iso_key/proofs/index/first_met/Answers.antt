use Rattle.std.proofs.Common.{ap, ◌∙◌}
use Rattle.std.specs.Prelude.{find}
use Rattle.iso_key.proofs.Keys.{from-low}
use Rattle.iso_key.specs.Cuts.{passes}
use Rattle.iso_key.specs.Pages.{entries}
use Rattle.iso_key.proofs.index.first_met.Goals as goal

pub returns : goal.returns
returns c = c.first_behind.ensures ∙ ap (λ z. find (passes z) (entries c.args.pages.now)) c.low.ensures ∙ from-low c.args.low.now (entries c.args.pages.now)
