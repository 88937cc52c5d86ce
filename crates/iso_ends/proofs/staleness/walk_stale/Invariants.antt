use Rattle.std.proofs.Common.{length}
use Rattle.iso_ends.specs.Purges.{is_stale_at}
use Rattle.iso_key.specs.Pages.{entries}
use Rattle.iso_state.specs.Stands.{world_of}
use Rattle.iso_ends.proofs.PurgeWalks.{IsWalk, behind}
use Rattle.iso_ends.proofs.staleness.walk_stale.Given as goal

abbrev pub invariant-loop-next : goal.invariant-loop-next
invariant-loop-next l = IsWalk (is_stale_at l.parts.head (world_of l.parts) l.index) (entries l.keys) l.next

abbrev pub decreases-loop-next : goal.decreases-loop-next
decreases-loop-next l = length (behind l.next (entries l.keys))
