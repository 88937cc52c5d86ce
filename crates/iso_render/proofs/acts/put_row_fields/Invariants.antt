use Rattle.std.proofs.Common.{◌≡◌, ◌++◌, drop}
use Rattle.std.specs.Prelude.{map}
use Rattle.iso_render.specs.Fields.{spaced, whole_row}
use Rattle.iso_render.proofs.acts.put_row_fields.Given as goal

abbrev pub invariant-loop-row : goal.invariant-loop-row
invariant-loop-row l =
    l.out.items ++ spaced (map whole_row (drop l.row-index l.rows)) ≡ l.fn.out.items ++ spaced (map whole_row l.rows)
