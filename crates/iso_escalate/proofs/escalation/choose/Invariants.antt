use Rattle.std.proofs.Common.{List}
use Rattle.iso_escalate.proofs.Most.{IsMost}
use Rattle.iso_locklist.specs.Holding.{HasTables, LocksAre}
use Rattle.iso_locklist.specs.Lists.{IsSingleIn}
use Rattle.iso_queue.specs.Limits.{weight}
use Rattle.iso_queue.specs.Locks.{Hold}
use Rattle.iso_queue.specs.Queues.{Wait}
use Rattle.iso_escalate.proofs.escalation.choose.Given as goal

abbrev pub invariant-loop-at : goal.invariant-loop-at
invariant-loop-at l = (hs : List Hold) (xs : List Wait) → HasTables l.head l.locks → LocksAre hs xs l.locks → IsSingleIn hs xs l.conn
    → IsMost (weight l.head hs l.conn) l.at l.most l.prey
