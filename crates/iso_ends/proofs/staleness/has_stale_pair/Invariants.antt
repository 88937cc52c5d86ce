use Rattle.std.proofs.Common.{◌≡◌, ◌-◌, None, length}
use Rattle.std.specs.Prelude.{find, take}
use Rattle.iso_ends.specs.Purges.{is_stale_at}
use Rattle.iso_key.specs.Pages.{entries}
use Rattle.iso_state.specs.Stands.{world_of}
use Rattle.iso_ends.proofs.staleness.has_stale_pair.Given as goal

abbrev pub invariant-loop-page : goal.invariant-loop-page
invariant-loop-page l = find (is_stale_at l.parts.head (world_of l.parts) l.index) (entries (take l.at l.keys)) ≡ None

abbrev pub decreases-loop-page : goal.decreases-loop-page
decreases-loop-page l = length l.keys - l.at
