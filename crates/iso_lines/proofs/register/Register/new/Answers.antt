use Rattle.iso_lines.proofs.Released.{seated-none}
use Rattle.iso_lines.proofs.register.Register.new.Goals as goal

pub invariant_of-result : goal.invariant_of-result
invariant_of-result c = seated-none c.args.tables c.new-lines.result c.in_ok-desks.desks.items c.in_ok-desks.ensures.size c.in_ok-desks.ensures.idle c.new-lines.ensures.lines
