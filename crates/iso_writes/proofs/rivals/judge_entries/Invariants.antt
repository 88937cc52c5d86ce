use Rattle.std.proofs.Common.{◌≡◌, length}
use Rattle.std.specs.Prelude.{filter}
use Rattle.iso_history.specs.Writes.{judged_rivals}
use Rattle.iso_key.specs.Pages.{entries}
use Rattle.iso_state.specs.Stands.{world_of}
use Rattle.iso_writes.specs.Walk.{is_left, others, rivals_in}
use Rattle.iso_writes.proofs.rivals.judge_entries.Given as goal

abbrev pub invariant-loop-rid : goal.invariant-loop-rid
invariant-loop-rid l =
    judged_rivals l.parts.head (world_of l.parts) l.conn l.table l.index (others l.own (filter (is_left l.key l.after) (entries l.list)))
    ≡ judged_rivals l.parts.head (world_of l.parts) l.conn l.table l.index (rivals_in l.key l.own (entries l.list))

abbrev pub decreases-loop-rid : goal.decreases-loop-rid
decreases-loop-rid l = length (filter (is_left l.key l.after) (entries l.list))
