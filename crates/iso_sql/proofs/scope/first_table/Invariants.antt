use Rattle.std.proofs.Common.{◌≡◌, length}
use Rattle.std.specs.Prelude.{find}
use Rattle.iso_sql.specs.Names.{is_table_at}
use Rattle.iso_sql.proofs.scope.first_table.Given as goal

abbrev pub invariant-loop-places : goal.invariant-loop-places
invariant-loop-places l = find (is_table_at l.head l.line l.token) l.places ≡ find (is_table_at l.head l.line l.token) l.initial.places

abbrev pub decreases-loop-places : goal.decreases-loop-places
decreases-loop-places l = length l.places
