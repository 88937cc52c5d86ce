use Rattle.std.proofs.Common.{sym, ◌∙◌}
use Rattle.iso_key.proofs.Compared.{below-equal, below-greater, below-less}
use Rattle.iso_key.proofs.cut.is_below.Goals as goal

pub returns-in-Less : goal.returns-in-Less
returns-in-Less c = below-less _ _ _ _ (sym c.compare_keys.ensures ∙ c.in-Less.is)

pub returns-in-Equal : goal.returns-in-Equal
returns-in-Equal c = below-equal _ _ _ _ (sym c.compare_keys.ensures ∙ c.in-Equal.is)

pub returns-in-Greater : goal.returns-in-Greater
returns-in-Greater c = below-greater _ _ _ _ (sym c.compare_keys.ensures ∙ c.in-Greater.is)
