use Rattle.std.proofs.Common.{◌≡◌, ◌≤◌, ◌-◌, ◌++◌, drop, length, take}
use Rattle.iso_render.specs.Summary.{noted}
use Rattle.iso_render.proofs.tallies.place.Given as goal

abbrev pub invariant-loop-at : goal.invariant-loop-at
invariant-loop-at l = record {
  within : l.at ≤ length l.tallies;
  lower : noted l.answer l.tallies ≡ take l.at l.tallies ++ noted l.answer (drop l.at l.tallies);
}

abbrev pub decreases-loop-at : goal.decreases-loop-at
decreases-loop-at l = length l.tallies - l.at
