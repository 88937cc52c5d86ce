use Rattle.std.proofs.Common.{◌≡◌, length}
use Rattle.iso_rebuild.specs.Chains.{HasChain}
use Rattle.iso_rebuild.proofs.Links.{IsLinked}
use Rattle.iso_rebuild.proofs.Rebuilds.{depth}
use Rattle.iso_rebuild.proofs.tests.has_chain.Given as goal

abbrev pub invariant-loop-at : goal.invariant-loop-at
invariant-loop-at l = IsLinked l.past.pin l.width l.at → HasChain l.past

abbrev pub decreases-loop-at : goal.decreases-loop-at
decreases-loop-at l = depth l.at
