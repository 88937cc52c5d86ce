use Rattle.std.proofs.Common.{◌≡◌, ℕ, ◌<◌, ◌≤◌, true, length}
use Rattle.iso_latch.specs.Dealt.{Dealt, Fresh}
use Rattle.iso_latch.specs.Seen.{has}
use Rattle.iso_latch.specs.Told.{seen_of, voices_of, head_of}
use Rattle.iso_latch.proofs.pass.Latch.deal.Given as goal

abbrev pub invariant-loop-i : goal.invariant-loop-i
invariant-loop-i g l = record {
  of : l.pass.seat.table_id ≡ l.initial.pass.seat.table_id;
  head : head_of l.pass.seat ≡ head_of l.initial.pass.seat;
  seen : seen_of l.pass.seat ≡ seen_of l.initial.pass.seat;
  count : length l.passes.items ≡ l.i;
  dealt : Dealt l.initial.pass.seat.table_id l.passes.items;
  fresh : Fresh l.initial.pass.seat l.passes.items;
  first : has 0 (voices_of l.pass.seat) ≡ true;
  others : (x : ℕ) → l.i < x → x ≤ l.fn.count → has x (voices_of l.pass.seat) ≡ true;
}
