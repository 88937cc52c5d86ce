use Rattle.std.proofs.Common.{take}
use Rattle.iso_history.specs.After.{world}
use Rattle.iso_trials.specs.Owned.{IsOwn}
use Rattle.iso_trials.proofs.owns.own_of.Given as goal

abbrev pub invariant-loop-at : goal.invariant-loop-at
invariant-loop-at l = IsOwn (world l.parts.head (take l.at l.parts.history.items)) l.conn l.own
