use Rattle.std.proofs.Common.{◌≡◌, [], length}
use Rattle.iso_sql.specs.Names.{names_of}
use Rattle.iso_sql.specs.Actions.{listed}
use Rattle.iso_sql.proofs.list.places_of.Given as goal

abbrev pub invariant-loop-columns : goal.invariant-loop-columns
invariant-loop-columns l = listed (names_of l.scope) l.places l.columns ≡ listed (names_of l.scope) [] l.initial.columns

abbrev pub decreases-loop-columns : goal.decreases-loop-columns
decreases-loop-columns l = length l.columns
