use Rattle.std.proofs.Common.{length}
use Rattle.iso_history.specs.Entries.{is_purgeable}
use Rattle.iso_key.specs.Pages.{entries}
use Rattle.iso_state.specs.Stands.{world_of}
use Rattle.iso_ends.proofs.PurgeWalks.{IsWalk, behind}
use Rattle.iso_ends.proofs.purging.walk_purgeable.Given as goal

abbrev pub invariant-loop-next : goal.invariant-loop-next
invariant-loop-next l = IsWalk (is_purgeable l.parts.head (world_of l.parts) l.index) (entries l.keys) l.next

abbrev pub decreases-loop-next : goal.decreases-loop-next
decreases-loop-next l = length (behind l.next (entries l.keys))
