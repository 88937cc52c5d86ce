use Rattle.std.proofs.Common.{◌≡◌, length}
use Rattle.iso_script.specs.Keyed.{has_twice}
use Rattle.iso_script.proofs.KeyLaws.{comes_twice}
use Rattle.iso_script.proofs.keyed.has_twice.Given as goal

abbrev pub invariant-loop-rows : goal.invariant-loop-rows
invariant-loop-rows l = comes_twice l.seen.keys l.table l.column l.rows ≡ has_twice l.table l.column l.initial.rows

abbrev pub decreases-loop-rows : goal.decreases-loop-rows
decreases-loop-rows l = length l.rows
