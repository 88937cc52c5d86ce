use Rattle.std.proofs.Common.{◌≡◌, ◌++◌, true, take, drop}
use Rattle.iso_queue.specs.Lines.{is_holder, queued}
use Rattle.iso_queue.proofs.lists.place_in_queue.Given as goal

abbrev pub invariant-loop-at : goal.invariant-loop-at
invariant-loop-at l = record {
  holds : is_holder l.holders l.fn.wait.conn ≡ true;
  left : queued l.holders l.fn.wait l.waiters ≡ take l.at l.waiters ++ queued l.holders l.fn.wait (drop l.at l.waiters);
}
