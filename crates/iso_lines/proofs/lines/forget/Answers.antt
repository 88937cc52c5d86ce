use Rattle.std.proofs.Common.{◌∙◌, ap, arith}
use Rattle.std.specs.Map.{keys_of}
use Rattle.iso_lines.proofs.Whole.{last_out}
use Rattle.iso_lines.proofs.lines.forget.Goals as goal

pub returns-clause-fewer : goal.returns-clause-fewer
returns-clause-fewer c = omega (arith, c.swap_remove.ensures.len)

pub returns-clause-last : goal.returns-clause-last
returns-clause-last c = λ ns is. ap keys_of c.swap_remove.ensures.entries ∙ last_out c.args.name.now c.args.index.now.entries ns c.len.ensures.unique is
