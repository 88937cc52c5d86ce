use Rattle.std.proofs.Common.{◌≡◌, length}
use Rattle.iso_sql.specs.Rows.{stored_fault}
use Rattle.iso_sql.proofs.rows.stored_fault.Given as goal

abbrev pub invariant-loop-columns : goal.invariant-loop-columns
invariant-loop-columns l = stored_fault l.strict l.line l.columns l.literals l.close ≡ stored_fault l.strict l.line l.initial.columns l.initial.literals l.close

abbrev pub decreases-loop-columns : goal.decreases-loop-columns
decreases-loop-columns l = length l.columns
