use Rattle.std.proofs.Common.{arith, length-drop}
use Rattle.std.proofs.lemmas.List.{take_rest}
use Rattle.iso_io.proofs.Joined.{Appends-piece}
use Rattle.iso_io.proofs.script.write_whole.Goals as goal

pub pieces-preserved : goal.pieces-preserved
pieces-preserved g c = record {
  within = grind (arith, length-drop, c.in-Ok.ensures.bound);
  appended = Appends-piece _ _ _ _ c.pieces.at c.in-Ok.n c.pieces.invariant.appended (rw take_rest at c.in-Ok.ensures.bytes);
  counted = omega arith;
}
