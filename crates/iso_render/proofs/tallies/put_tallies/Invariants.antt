use Rattle.std.proofs.Common.{◌≡◌, ◌++◌, drop}
use Rattle.iso_render.specs.Summary.{code_lines}
use Rattle.iso_render.proofs.tallies.put_tallies.Given as goal

abbrev pub invariant-loop-tally : goal.invariant-loop-tally
invariant-loop-tally l = l.out.items ++ code_lines (drop l.tally-index l.tallies) ≡ l.fn.out.items ++ code_lines l.tallies
