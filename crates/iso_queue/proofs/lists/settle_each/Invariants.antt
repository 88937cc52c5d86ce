use Rattle.std.proofs.Common.{◌≡◌, ◌++◌, take, drop, map}
use Rattle.iso_queue.specs.Lines.{settled_hold}
use Rattle.iso_queue.proofs.lists.settle_each.Given as goal

abbrev pub invariant-loop-at : goal.invariant-loop-at
invariant-loop-at l =
    l.holders ≡ map (settled_hold l.conn l.spared) (take l.at l.initial.holders) ++ drop l.at l.initial.holders
