use Rattle.std.proofs.Common.{◌≡◌, drop, find}
use Rattle.iso_history.specs.Entries.{is_purgeable}
use Rattle.iso_state.specs.Stands.{world_of}
use Rattle.iso_ends.proofs.purging.first_in.Given as goal

abbrev pub invariant-loop-pair : goal.invariant-loop-pair
invariant-loop-pair l =
    find (is_purgeable l.parts.head (world_of l.parts) l.index) l.page
    ≡ find (is_purgeable l.parts.head (world_of l.parts) l.index) (drop l.pair-index l.page)
