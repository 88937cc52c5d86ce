use Rattle.std.proofs.Common.{◌∙◌}
use Rattle.iso_script.proofs.KeyLaws.{value_found}
use Rattle.iso_script.proofs.keys.has_value.Goals as goal

pub returns : goal.returns
returns c = c.contains.ensures ∙ value_found c.args.keys.now.keys c.args.table c.args.column c.args.value.now
