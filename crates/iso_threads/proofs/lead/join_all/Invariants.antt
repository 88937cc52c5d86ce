use Rattle.std.proofs.Common.{◌≡◌, ℕ, ◌||◌, vec_len}
use Rattle.iso_latch.specs.Seen.{has}
use Rattle.iso_latch.specs.Told.{seen_of, voices_of}
use Rattle.iso_threads.specs.Backs.{AllPromised, promised}
use Rattle.iso_threads.specs.Kept.{AllKeep, Begins}
use Rattle.iso_threads.specs.Passes.{IsHostPass}
use Rattle.iso_threads.proofs.lead.join_all.Given as goal

abbrev pub invariant-loop-child : goal.invariant-loop-child
invariant-loop-child g l = record {
  pass : IsHostPass l.fn.latch.table.shared.table_id l.fn.script l.pass;
  keep : AllKeep l.fn.script (voices_of l.pass.seat) (seen_of l.pass.seat);
  all : AllPromised l.fn.latch.table.shared.table_id l.fn.script l.children.items;
  begins : Begins (seen_of l.fn.pass.seat) (seen_of l.pass.seat);
  voices : (x : ℕ) → (has x (voices_of l.pass.seat) || has x (promised l.children.items)) ≡
      (has x (voices_of l.fn.pass.seat) || has x (promised l.fn.children.items));
}

abbrev pub decreases-loop-child : goal.decreases-loop-child
decreases-loop-child g l = vec_len l.children
