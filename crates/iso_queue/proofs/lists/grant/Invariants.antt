use Rattle.std.proofs.Common.{◌≡◌, ◌++◌, take, drop}
use Rattle.iso_queue.specs.Lines.{granted}
use Rattle.iso_queue.proofs.lists.grant.Given as goal

abbrev pub invariant-loop-at : goal.invariant-loop-at
invariant-loop-at l = record {
  same : l.holders ≡ l.initial.holders;
  left : granted l.holders.items l.new ≡ take l.at l.holders.items ++ granted (drop l.at l.holders.items) l.new;
}
