use Rattle.std.proofs.Common.{◌∙◌, ap, drop}
use Rattle.iso_key.proofs.Splits.{take-rest}
use Rattle.iso_key.proofs.page.Page.halves.Goals as goal

pub returns-clause-second : goal.returns-clause-second
returns-clause-second c = c.in_ok-second.ensures ∙ take-rest c.deref.result.now 64 ∙ ap (λ l. drop 64 l) (c.deref.ensures.value ∙ c.in_ok-entries.ensures)
