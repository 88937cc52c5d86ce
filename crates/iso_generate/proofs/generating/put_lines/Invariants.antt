use Rattle.std.proofs.Common.{◌≡◌, ◌++◌}
use Rattle.iso_generate.specs.Generated.{lines}
use Rattle.iso_generate.proofs.generating.put_lines.Given as goal

abbrev pub invariant-loop-left : goal.invariant-loop-left
invariant-loop-left l = l.out.items ++ lines l.left l.words ≡ l.fn.out.items ++ lines l.count l.fn.words

abbrev pub decreases-loop-left : goal.decreases-loop-left
decreases-loop-left l = l.left
