use Rattle.std.proofs.Common.{◌≡◌, take}
use Rattle.iso_segment.proofs.parts.holders.Given as goal

abbrev pub invariant-loop-segment : goal.invariant-loop-segment
invariant-loop-segment g l = l.others.items ≡ take l.segment-index l.segments
