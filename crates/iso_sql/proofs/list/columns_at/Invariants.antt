use Rattle.std.proofs.Common.{◌≡◌, ◌++◌, length}
use Rattle.iso_sql.specs.Names.{names_of}
use Rattle.iso_sql.specs.Actions.{columns_at}
use Rattle.iso_sql.proofs.list.columns_at.Given as goal

abbrev pub invariant-loop-places : goal.invariant-loop-places
invariant-loop-places l = l.found ++ columns_at (names_of l.scope) l.places ≡ columns_at (names_of l.scope) l.initial.places

abbrev pub decreases-loop-places : goal.decreases-loop-places
decreases-loop-places l = length l.places
