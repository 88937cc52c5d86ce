use Rattle.std.proofs.Common.{◌≡◌, length}
use Rattle.iso_sql.specs.Rows.{placed_value}
use Rattle.iso_sql.proofs.rows.placed_value.Given as goal

abbrev pub invariant-loop-places : goal.invariant-loop-places
invariant-loop-places l = placed_value l.line l.places l.literals l.place ≡ placed_value l.line l.initial.places l.initial.literals l.place

abbrev pub decreases-loop-places : goal.decreases-loop-places
decreases-loop-places l = length l.places
