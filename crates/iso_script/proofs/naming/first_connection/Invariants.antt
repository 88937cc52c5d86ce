use Rattle.std.proofs.Common.{◌≡◌, length}
use Rattle.std.specs.Prelude.{find}
use Rattle.iso_script.specs.Naming.{is_connection}
use Rattle.iso_script.proofs.naming.first_connection.Given as goal

abbrev pub invariant-loop-places : goal.invariant-loop-places
invariant-loop-places l = find (is_connection l.head l.line l.token) l.places ≡ find (is_connection l.head l.line l.token) l.initial.places

abbrev pub decreases-loop-places : goal.decreases-loop-places
decreases-loop-places l = length l.places
