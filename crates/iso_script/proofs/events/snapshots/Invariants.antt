use Rattle.std.proofs.Common.{◌≡◌, ◌≤◌, ◌+◌, length}
use Rattle.iso_script.specs.Events.{snapshots}
use Rattle.iso_script.proofs.events.snapshots.Given as goal

abbrev pub invariant-loop-lines : goal.invariant-loop-lines
invariant-loop-lines l = record {
  count : l.count + length (snapshots l.lines) ≡ length (snapshots l.initial.lines);
  short : l.count + length l.lines ≤ length l.initial.lines;
}

abbrev pub decreases-loop-lines : goal.decreases-loop-lines
decreases-loop-lines l = length l.lines
