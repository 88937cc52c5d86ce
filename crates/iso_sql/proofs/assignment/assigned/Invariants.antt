use Rattle.std.proofs.Common.{◌≡◌, [], length}
use Rattle.iso_sql.specs.Names.{names_of}
use Rattle.iso_sql.specs.Actions.{assigned}
use Rattle.iso_sql.proofs.assignment.assigned.Given as goal

abbrev pub invariant-loop-targets : goal.invariant-loop-targets
invariant-loop-targets l = assigned (names_of l.scope) l.made l.targets ≡ assigned (names_of l.scope) [] l.initial.targets

abbrev pub decreases-loop-targets : goal.decreases-loop-targets
decreases-loop-targets l = length l.targets
