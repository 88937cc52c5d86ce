use lib.ListN.{get_elem?}
use Rattle.std.proofs.Common.{◌≡◌, ℕ, ◌<◌, ◌≤◌, true, length}
use Rattle.iso_latch.specs.Dealt.{Dealt, ContinuesFrom}
use Rattle.iso_latch.specs.Seen.{has, Continues}
use Rattle.iso_latch.specs.Told.{seen_of, voices_of, head_of}
use Rattle.iso_latch.proofs.pass.Latch.gather.Given as goal

abbrev pub invariant-loop-one : goal.invariant-loop-one
invariant-loop-one g l = record {
  of : (l.pass.seat.table_id ≡ l.initial.pass.seat.table_id) × (head_of l.pass.seat ≡ head_of l.initial.pass.seat);
  fewer : length l.passes.items ≤ length l.initial.passes.items;
  dealt : Dealt l.initial.pass.seat.table_id l.passes.items;
  kept : (x : ℕ) → has x (voices_of l.initial.pass.seat) ≡ true → has x (voices_of l.pass.seat) ≡ true;
  first : Continues (voices_of l.initial.pass.seat) (seen_of l.initial.pass.seat) (seen_of l.pass.seat);
  same : (k : ℕ) → k < length l.passes.items → get_elem? l.passes.items k ≡ get_elem? l.initial.passes.items k;
  met : ContinuesFrom (length l.passes.items) l.initial.passes.items (seen_of l.pass.seat);
  others : (x : ℕ) → length l.passes.items < x → x ≤ length l.initial.passes.items → has x (voices_of l.pass.seat) ≡ true;
}

abbrev pub decreases-loop-one : goal.decreases-loop-one
decreases-loop-one g l = length l.passes.items
