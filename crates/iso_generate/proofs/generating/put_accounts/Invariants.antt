use Rattle.std.proofs.Common.{◌≡◌, ◌≤◌, ◌+◌, ◌*◌, ◌++◌}
use Rattle.iso_generate.specs.Generated.{accounts}
use Rattle.iso_generate.proofs.generating.put_accounts.Given as goal

abbrev pub invariant-loop-left : goal.invariant-loop-left
invariant-loop-left l = record {
  few : l.left ≤ l.count;
  small : l.id + 10 * l.left ≤ l.first + 10 * l.count;
  text : l.out.items ++ accounts l.left l.id ≡ l.fn.out.items ++ accounts l.count l.first;
}

abbrev pub decreases-loop-left : goal.decreases-loop-left
decreases-loop-left l = l.left
