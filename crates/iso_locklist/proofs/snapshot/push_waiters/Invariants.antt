use Rattle.std.proofs.Common.{◌≡◌, ◌++◌, map, take}
use Rattle.iso_locklist.specs.Places.{place}
use Rattle.iso_locklist.specs.Snapshots.{waiter_line}
use Rattle.iso_locklist.proofs.snapshot.push_waiters.Given as goal

abbrev pub invariant-loop-waiter : goal.invariant-loop-waiter
invariant-loop-waiter l = l.lines ≡ l.initial.lines ++ map (waiter_line (place l.name l.queue)) (take l.waiter-index l.waiter-items)
