use Rattle.std.proofs.Common.{◌≡◌, map, take}
use Rattle.iso_sql.specs.Rows.{stored_value}
use Rattle.iso_sql.proofs.rows.stored_row.Given as goal

abbrev pub invariant-loop-literal : goal.invariant-loop-literal
invariant-loop-literal l = l.values ≡ map (stored_value l.line) (take l.literal-index l.literals)
