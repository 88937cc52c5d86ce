use Rattle.std.proofs.Common.{◌-◌}
use Rattle.iso_key.specs.Cuts.{starts_behind}
use Rattle.iso_key.specs.Splits.{IsBetween}
use Rattle.iso_key.proofs.index.pages_before.Given as goal

abbrev pub invariant-loop-low : goal.invariant-loop-low
invariant-loop-low l = IsBetween (starts_behind l.cut) l.pages l.low l.high

abbrev pub decreases-loop-low : goal.decreases-loop-low
decreases-loop-low l = l.high - l.low
