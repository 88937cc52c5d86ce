use Rattle.std.proofs.Common.{◌≡◌, drop, length}
use Rattle.iso_record.specs.Undone.{restored}
use Rattle.iso_record.proofs.record.restore.Given as goal

abbrev pub invariant-loop-old : goal.invariant-loop-old
invariant-loop-old l = record {
  rest : restored (drop l.old-index l.olds) l.row ≡ restored l.olds l.initial.row;
  width : length l.row ≡ length l.initial.row;
}
