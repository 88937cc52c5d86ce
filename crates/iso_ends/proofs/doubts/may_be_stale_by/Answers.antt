use Rattle.std.proofs.Common.{◌∙◌, sym}
use Rattle.iso_ends.proofs.doubts.may_be_stale_by.Goals as goal

pub returns-clause-fresh : goal.returns-clause-fresh
returns-clause-fresh c e = sym c.is_stale_in_all.ensures ∙ e
