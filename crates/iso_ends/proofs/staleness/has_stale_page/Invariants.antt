use Rattle.std.proofs.Common.{◌≡◌, drop, find}
use Rattle.iso_ends.specs.Purges.{is_stale_at}
use Rattle.iso_state.specs.Stands.{world_of}
use Rattle.iso_ends.proofs.staleness.has_stale_page.Given as goal

abbrev pub invariant-loop-pair : goal.invariant-loop-pair
invariant-loop-pair l =
    find (is_stale_at l.parts.head (world_of l.parts) l.index) l.page
    ≡ find (is_stale_at l.parts.head (world_of l.parts) l.index) (drop l.pair-index l.page)
