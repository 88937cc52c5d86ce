use Rattle.std.proofs.Common.{◌≡◌, ◌≤◌, drop, length, map}
use Rattle.iso_key.specs.Pages.{entries}
use Rattle.iso_state.specs.Firsts.{keyed}
use Rattle.iso_state.proofs.keys.first_index.Given as goal

abbrev pub invariant-loop-left : goal.invariant-loop-left
invariant-loop-left l = record {
  within : l.left ≤ length l.table.items;
  placed : entries l.index ≡ keyed l.column l.left (drop l.left (map (λ s. s.row) l.table.items));
}

abbrev pub decreases-loop-left : goal.decreases-loop-left
decreases-loop-left l = l.left
