use Rattle.std.proofs.Common.{◌≡◌, ◌≤◌, ℕ, [], vec_len, vec_capacity}
use Rattle.iso_latch.specs.Seen.{has}
use Rattle.iso_latch.specs.Told.{seen_of, voices_of}
use Rattle.iso_threads.specs.Backs.{AllBack, voices}
use Rattle.iso_director.specs.Director.{HasTaken}
use Rattle.iso_threads.specs.Kept.{AllKeep}
use Rattle.iso_threads.specs.Passes.{IsHostPass}
use Rattle.iso_threads.proofs.lead.lead.Given as goal

abbrev pub invariant-loop : goal.invariant-loop
invariant-loop g l = record {
  pass : IsHostPass l.fn.latch.table.shared.table_id l.fn.script l.pass;
  keep : AllKeep l.fn.script (voices_of l.pass.seat) (seen_of l.pass.seat);
  taken : HasTaken l.fn.script (seen_of l.pass.seat) l.director;
  all : AllBack l.fn.latch.table.shared.table_id l.fn.script l.here.items;
  empty : l.there.items ≡ [];
  room : (vec_len l.here ≤ vec_capacity l.here) × (vec_len l.here ≤ vec_capacity l.there);
  voices : (x : ℕ) → has x (voices l.here.items) ≡ has x (voices l.fn.here.items);
}
