use Rattle.std.proofs.Common.{◌≡◌, ◌≤◌, ◌-◌, length, true}
use Rattle.iso_render.specs.Opened.{are_below}
use Rattle.iso_render.proofs.opened.pass.Given as goal

abbrev pub invariant-loop-passed : goal.invariant-loop-passed
invariant-loop-passed l = record {
  within : l.passed.at ≤ length l.lines;
  below : are_below l.lines l.passed.at l.number ≡ true;
  same : l.passed.below ≡ l.number;
}

abbrev pub decreases-loop-passed : goal.decreases-loop-passed
decreases-loop-passed l = length l.lines - l.passed.at
