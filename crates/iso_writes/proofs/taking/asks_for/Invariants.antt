use Rattle.std.proofs.Common.{◌≡◌, ◌++◌, ◌-◌, length}
use Rattle.std.specs.List.{cons_option}
use Rattle.iso_state.specs.Stands.{world_of}
use Rattle.iso_writes.specs.Changing.{key_asks}
use Rattle.iso_writes.proofs.taking.asks_for.Given as goal

abbrev pub invariant-loop-at : goal.invariant-loop-at
invariant-loop-at l =
    l.asks ++ key_asks l.parts.head (world_of l.parts) l.conn l.table l.row (length l.parts.head.indexes - l.at) l.at
    ≡ cons_option l.fn.first (key_asks l.parts.head (world_of l.parts) l.conn l.table l.row (length l.parts.head.indexes) 0)
