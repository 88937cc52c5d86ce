use Rattle.std.proofs.Common.{◌≡◌, ◌≤◌, ◌+◌, length}
use Rattle.iso_script.specs.Keyed.{own_indexes}
use Rattle.iso_script.proofs.keyed.own_indexes.Given as goal

abbrev pub invariant-loop-indexes : goal.invariant-loop-indexes
invariant-loop-indexes l = record {
  count : l.count + length (own_indexes l.table l.indexes) ≡ length (own_indexes l.table l.initial.indexes);
  short : l.count + length l.indexes ≤ length l.initial.indexes;
}

abbrev pub decreases-loop-indexes : goal.decreases-loop-indexes
decreases-loop-indexes l = length l.indexes
