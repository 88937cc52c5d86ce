use Rattle.std.proofs.Common.{◌≡◌, length}
use Rattle.std.specs.Prelude.{find}
use Rattle.iso_sql.specs.Names.{is_column_at, names_of}
use Rattle.iso_sql.proofs.scope.first_column.Given as goal

abbrev pub invariant-loop-places : goal.invariant-loop-places
invariant-loop-places l = find (is_column_at (names_of l.scope) l.token) l.places ≡ find (is_column_at (names_of l.scope) l.token) l.initial.places

abbrev pub decreases-loop-places : goal.decreases-loop-places
decreases-loop-places l = length l.places
