use Rattle.std.proofs.Common.{refl, arith}
use Rattle.iso_types.proofs.Zeros.{drop-written, length-written}
use Rattle.iso_types.proofs.text.Text.new.Goals as goal

pub invariant_of-result : goal.invariant_of-result
invariant_of-result c = rw c.copy_from_slice.ensures.after (
  omega arith,
  drop-written _ _ refl,
  length-written _ _ refl c.if-len-gt32.false,
)
