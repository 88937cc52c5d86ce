use Rattle.std.proofs.Common.{refl}
use Rattle.iso_ends.proofs.DoubtsKept.{kept-none}
use Rattle.iso_ends.proofs.doubts.Doubts.new.Goals as goal

pub returns : goal.returns
returns c head es = kept-none head es _ c.new.ensures refl
