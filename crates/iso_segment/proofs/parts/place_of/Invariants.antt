use Rattle.std.proofs.Common.{◌<◌, ◌≤◌, ◌-◌, length}
use Rattle.iso_segment.proofs.parts.place_of.Given as goal
use Rattle.iso_segment.specs.Parts.{first_at}

abbrev pub invariant-loop-high : goal.invariant-loop-high
invariant-loop-high g l =
    (l.low < l.high) × (l.high ≤ length l.segments) × (first_at l.segments l.low l.next ≤ l.number) × (l.number < first_at l.segments l.high l.next)

abbrev pub decreases-loop-high : goal.decreases-loop-high
decreases-loop-high g l = l.high - l.low
