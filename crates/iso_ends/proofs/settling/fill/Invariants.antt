use Rattle.std.proofs.Common.{◌≡◌, true, length}
use Rattle.std.specs.Prelude.{IfSome}
use Rattle.iso_ends.proofs.PurgeWalks.{behind}
use Rattle.iso_ends.specs.Doubts.{known_of}
use Rattle.iso_ends.specs.Filling.{IsFilled}
use Rattle.iso_history.specs.Orders.{has_pair}
use Rattle.iso_key.specs.Pages.{entries}
use Rattle.iso_state.specs.Stands.{world_of}
use Rattle.iso_ends.proofs.settling.fill.Given as goal

abbrev pub invariant-loop-next : goal.invariant-loop-next
invariant-loop-next l =
    IsFilled l.parts.head (world_of l.parts) l.index (known_of l.doubt) (behind l.next (entries l.keys))
    × IfSome l.next (λ p. has_pair (entries l.keys) p ≡ true)

abbrev pub decreases-loop-next : goal.decreases-loop-next
decreases-loop-next l = length (behind l.next (entries l.keys))
