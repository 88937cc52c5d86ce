use Rattle.std.proofs.Common.{refl}
use Rattle.std.proofs.lemmas.Nat.Bits.{shr_and_one}
use Rattle.iso_types.specs.Edges.{has_edge}
use Rattle.iso_types.proofs.edges.Edges.has.Goals as goal

pub returns : goal.returns
unfolding has_edge
returns c = rw shr_and_one refl
