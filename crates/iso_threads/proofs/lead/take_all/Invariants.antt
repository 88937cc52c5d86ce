use Rattle.std.proofs.Common.{◌≡◌, ℕ, ◌||◌, vec_len}
use Rattle.iso_latch.specs.Seen.{has}
use Rattle.iso_latch.specs.Told.{seen_of, voices_of}
use Rattle.iso_threads.specs.Backs.{AllBack, voices}
use Rattle.iso_threads.specs.Kept.{AllKeep, Begins}
use Rattle.iso_threads.specs.Passes.{IsHostPass}
use Rattle.iso_threads.proofs.lead.take_all.Given as goal

abbrev pub invariant-loop-back : goal.invariant-loop-back
invariant-loop-back l = record {
  pass : IsHostPass l.fn.latch.table.shared.table_id l.fn.script l.pass;
  keep : AllKeep l.fn.script (voices_of l.pass.seat) (seen_of l.pass.seat);
  all : AllBack l.fn.latch.table.shared.table_id l.fn.script l.here.items;
  begins : Begins (seen_of l.fn.pass.seat) (seen_of l.pass.seat);
  voices : (x : ℕ) → (has x (voices_of l.pass.seat) || has x (voices l.here.items)) ≡
      (has x (voices_of l.fn.pass.seat) || has x (voices l.fn.here.items));
}

abbrev pub decreases-loop-back : goal.decreases-loop-back
decreases-loop-back l = vec_len l.here
