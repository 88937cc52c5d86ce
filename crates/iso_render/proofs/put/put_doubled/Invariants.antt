use Rattle.std.proofs.Common.{◌≡◌, ◌++◌, drop}
use Rattle.iso_render.specs.Texts.{doubled}
use Rattle.iso_render.proofs.put.put_doubled.Given as goal

abbrev pub invariant-loop-b : goal.invariant-loop-b
invariant-loop-b l = l.out.items ++ doubled (drop l.b-index l.text) ≡ l.fn.out.items ++ doubled l.text
