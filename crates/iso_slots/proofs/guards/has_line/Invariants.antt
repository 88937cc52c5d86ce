use Rattle.iso_chain.specs.Lines.{HasLine}
use Rattle.iso_chain.specs.Views.{bare}
use Rattle.iso_slots.proofs.guards.has_line.Given as goal
use Rattle.iso_rebuild.proofs.Rebuilds.{depth}

abbrev pub invariant-loop-at : goal.invariant-loop-at
invariant-loop-at l = HasLine l.log.records (bare l.tables) l.at → HasLine l.log.records (bare l.tables) l.fn.last

abbrev pub decreases-loop-at : goal.decreases-loop-at
decreases-loop-at l = depth l.at
