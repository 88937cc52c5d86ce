-- Lock limits. Db2 LUW, 'locklist' and 'maxlocks' configuration parameters, 'Lock escalation'; that a slot is a name, and the
-- choice among tables, are this project's own.
use Rattle.std.specs.List.{list_all}
use Rattle.std.specs.Option.{option_map_or}
use Rattle.std.specs.Prelude.{ℕ, ◌+◌, Bool, not, ◌&&◌, ◌||◌, List, if◌then◌else◌, nat_lt, nat_le, sum_by, count_by, find, Option}
use Rattle.iso_modes.specs.Terms.{is_brief}
use Rattle.iso_queue.specs.Locks.{Hold, is_held}
use Rattle.iso_queue.specs.Queues.{Wait, wait_of}
use Rattle.iso_types.specs.Head.{conns, is_on, lock_share, lock_slots, tables}
use Rattle.iso_types.specs.Ids.{conn_eq}
use Rattle.iso_types.specs.declared.head.Head.{Head}
use Rattle.iso_types.specs.declared.value.Conn.{Conn}
use Rattle.iso_types.specs.declared.value.TableId.{TableId}

-- how many names the connection holds, or awaits without holding
abbrev pub taken : List Hold → List Wait → Conn → ℕ
taken holds waits c =
    count_by (λ h. conn_eq h.conn c) holds + option_map_or (λ x. if is_held holds c x.name then 0 else 1) (wait_of waits c) 0

-- the same for all connections together
abbrev pub all_taken : Head → List Hold → List Wait → ℕ
all_taken head holds waits = sum_by (taken holds waits) (conns head)

-- a need of k more names is at the limit
abbrev pub is_at_limit : Head → List Hold → List Wait → Conn → ℕ → Bool
is_at_limit head holds waits c k =
    nat_lt (lock_share head.config) (taken holds waits c + k) || nat_lt (lock_slots head.config) (all_taken head holds waits + k)

-- the row and key holds of the connection on the table that are not Brief
abbrev pub weight : Head → List Hold → Conn → TableId → ℕ
weight head holds c t = count_by (λ h. conn_eq h.conn c && (is_on head t h.name && not (is_brief h.term))) holds

-- the table with the most of them, at least one, ties to the lowest number
abbrev pub prey : Head → List Hold → Conn → Option TableId
prey head holds c =
    find (λ t. nat_lt 0 (weight head holds c t) && list_all (λ u. nat_le (weight head holds c u) (weight head holds c t)) (tables head)) (tables head)
