use Rattle.std.proofs.Common.{◌∙◌}
use Rattle.iso_words.proofs.Digits.{read}
use Rattle.iso_words.proofs.parts.number.Goals as goal

pub returns : goal.returns
returns c = c.read_number.ensures ∙ read c.args.text.now
