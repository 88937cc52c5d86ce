use Rattle.std.proofs.Common.{◌≡◌, map, take}
use Rattle.iso_predicate.specs.Truth.{value_at}
use Rattle.iso_conduct.proofs.telling.projected.Given as goal

abbrev pub invariant-loop-column : goal.invariant-loop-column
invariant-loop-column l = l.values.items ≡ map (value_at l.row) (take l.column-index l.columns)
