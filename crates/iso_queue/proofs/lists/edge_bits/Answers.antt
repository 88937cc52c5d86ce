use Rattle.std.proofs.Common.{arith, refl}
use Rattle.iso_queue.specs.Lines.{bits_of}
use Rattle.iso_queue.proofs.Steps.{bits_more}
use Rattle.iso_queue.proofs.lists.edge_bits.Goals as goal

pub loop-other-init : goal.loop-other-init
unfolding bits_of
loop-other-init c = record { bits = refl; small = omega arith }

pub loop-other-preserved : goal.loop-other-preserved
loop-other-preserved c = record {
  bits = rw (bits_more, ← c.is_stuck_on.ensures, ← c.loop-other.invariant.bits) c.with_bit-bits.ensures.value;
  small = c.with_bit-bits.ensures.small;
}
