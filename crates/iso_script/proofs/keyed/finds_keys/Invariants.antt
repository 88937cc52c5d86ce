use Rattle.std.proofs.Common.{◌≡◌, length}
use Rattle.std.specs.List.{list_any}
use Rattle.iso_script.specs.Kept.{finds_key}
use Rattle.iso_script.proofs.keyed.finds_keys.Given as goal

abbrev pub invariant-loop-indexes : goal.invariant-loop-indexes
invariant-loop-indexes l = list_any (finds_key l.keys.keys l.table l.row) l.indexes ≡ list_any (finds_key l.keys.keys l.table l.row) l.initial.indexes

abbrev pub decreases-loop-indexes : goal.decreases-loop-indexes
decreases-loop-indexes l = length l.indexes
