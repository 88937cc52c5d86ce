use Rattle.std.proofs.Common.{◌≡◌, ◌<◌, ◌^◌}
use Rattle.iso_queue.specs.Lines.{has_edge_to, bits_of}
use Rattle.iso_queue.proofs.lists.edge_bits.Given as goal

abbrev pub invariant-loop-other : goal.invariant-loop-other
invariant-loop-other l = record {
  bits : l.bits ≡ bits_of (has_edge_to l.holders l.waiters l.wait) l.other;
  small : l.bits < 2 ^ l.other;
}
