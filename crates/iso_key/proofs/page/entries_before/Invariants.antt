use Rattle.std.proofs.Common.{◌-◌}
use Rattle.iso_key.specs.Cuts.{passes}
use Rattle.iso_key.specs.Splits.{IsBetween}
use Rattle.iso_key.proofs.page.entries_before.Given as goal

abbrev pub invariant-loop-low : goal.invariant-loop-low
invariant-loop-low l = IsBetween (passes l.cut) l.page l.low l.high

abbrev pub decreases-loop-low : goal.decreases-loop-low
decreases-loop-low l = l.high - l.low
