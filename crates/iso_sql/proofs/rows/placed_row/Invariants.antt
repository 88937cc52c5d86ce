use Rattle.std.proofs.Common.{◌≡◌, map}
use Rattle.std.specs.List.{range_with_len}
use Rattle.iso_sql.specs.Rows.{placed_value}
use Rattle.iso_sql.proofs.rows.placed_row.Given as goal

abbrev pub invariant-loop-place : goal.invariant-loop-place
invariant-loop-place l = l.values ≡ map (placed_value l.line l.places l.literals) (range_with_len 0 l.place)
