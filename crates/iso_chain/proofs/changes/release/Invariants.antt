use Rattle.std.proofs.Common.{ℕ, List}
use Rattle.iso_chain.specs.Lines.{IsLine}
use Rattle.iso_chain.specs.Views.{bare}
use Rattle.iso_chain.specs.Writes.{released}
use Rattle.iso_chain.proofs.Lines.{GoesOn}
use Rattle.iso_chain.proofs.changes.release.Given as goal
use Rattle.iso_rebuild.proofs.Rebuilds.{depth}

abbrev pub invariant-loop-at : goal.invariant-loop-at
invariant-loop-at l = (ns : List ℕ) → IsLine l.log.records l.fn.last ns
    → GoesOn l.log.records l.at (bare l.tables) (released l.log.records ns (bare l.initial.tables))

abbrev pub decreases-loop-at : goal.decreases-loop-at
decreases-loop-at l = depth l.at
