use Rattle.std.proofs.Common.{◌≡◌, ◌++◌, drop}
use Rattle.iso_render.specs.Texts.{later_values, row_text}
use Rattle.iso_render.proofs.put.put_row.Given as goal

abbrev pub invariant-loop-value : goal.invariant-loop-value
invariant-loop-value l = l.out.items ++ later_values (drop l.value-index l.others) ≡ l.fn.out.items ++ row_text l.row
