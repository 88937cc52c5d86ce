use Rattle.std.proofs.Common.{◌≡◌, ◌+◌, length}
use Rattle.iso_latch.specs.Told.{own_of, voices_of}
use Rattle.iso_latch.proofs.tests.many.Given as goal

abbrev pub invariant-loop-number : goal.invariant-loop-number
invariant-loop-number g l = record {
  of : l.pass.seat.table_id ≡ l.initial.pass.seat.table_id;
  voices : voices_of l.pass.seat ≡ voices_of l.initial.pass.seat;
  own : length (own_of l.pass.seat) ≡ length (own_of l.initial.pass.seat) + l.number;
}
