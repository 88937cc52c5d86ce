use Rattle.std.proofs.Common.{◌≡◌, ◌+◌, ℕ, ◌||◌, vec_len, vec_capacity}
use Rattle.iso_latch.specs.Seen.{has}
use Rattle.iso_threads.specs.Backs.{AllBack, voices}
use Rattle.iso_threads.proofs.backs.turn_all.Given as goal

abbrev pub invariant-loop-back : goal.invariant-loop-back
invariant-loop-back g l = record {
  left : AllBack l.fn.latch.table.shared.table_id l.fn.script l.here.items;
  done : AllBack l.fn.latch.table.shared.table_id l.fn.script l.there.items;
  count : vec_len l.here + vec_len l.there ≡ vec_len l.fn.here;
  room : (vec_capacity l.here ≡ vec_capacity l.fn.here) × (vec_capacity l.there ≡ vec_capacity l.fn.there);
  voices : (x : ℕ) → (has x (voices l.here.items) || has x (voices l.there.items)) ≡ has x (voices l.fn.here.items);
}

abbrev pub decreases-loop-back : goal.decreases-loop-back
decreases-loop-back g l = vec_len l.here
