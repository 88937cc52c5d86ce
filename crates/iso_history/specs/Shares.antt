-- That the lock limits are kept: no connection takes more than its share, nor all together more than the slots.
-- Db2 LUW, 'locklist' and 'maxlocks' configuration parameters; that a slot is a name is this project's own.
use Rattle.std.specs.Prelude.{◌≤◌}
use Rattle.iso_history.specs.World.{World}
use Rattle.iso_queue.specs.Limits.{all_taken, taken}
use Rattle.iso_types.specs.Head.{lock_share, lock_slots}
use Rattle.iso_types.specs.declared.head.Head.{Head}
use Rattle.iso_types.specs.declared.value.Conn.{Conn}

-- the names that each connection holds or awaits are within its share, those of all within the slots
pub record SharesHold (head : Head) (w : World) : Type 0 where
  pub each : (c : Conn) → taken w.holds w.waits c ≤ lock_share head.config
  pub total : all_taken head w.holds w.waits ≤ lock_slots head.config
