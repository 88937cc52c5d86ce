use Rattle.std.proofs.Common.{◌≡◌, ◌<◌, ℕ, false}
use Rattle.iso_state.specs.Stands.{world_of}
use Rattle.iso_ends.proofs.StaleWalks.{stale_in}
use Rattle.iso_ends.specs.Doubts.{AreDoubts}
use Rattle.iso_ends.proofs.doubts.may_be_stale.Given as goal

abbrev pub invariant-loop-at : goal.invariant-loop-at
invariant-loop-at l = AreDoubts l.parts.head l.parts.history.items l.sets × ((k : ℕ) → k < l.at → stale_in l.parts.head (world_of l.parts) k ≡ false)
