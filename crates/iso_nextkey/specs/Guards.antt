-- The guard of a key value, and what a new key inherits from it, told of one index and of one list of holds.
-- Db2 LUW, 'Next-key locking'; that END stands behind the last key, and what is inherited, is this project's own.
use Rattle.std.specs.Option.{option_map_or}
use Rattle.std.specs.Prelude.{Bool, false, not, List, Option, Some, None, find, if◌then◌else◌}
use Rattle.iso_history.specs.Entries.{key_name}
use Rattle.iso_modes.specs.Terms.{is_kept}
use Rattle.iso_modes.specs.declared.Mode.{Mode}
use Rattle.iso_modes.specs.declared.Mode.TheVariants.{S}
use Rattle.iso_queue.specs.Locks.{Hold, hold_on}
use Rattle.iso_types.specs.Value.{value_lt}
use Rattle.iso_types.specs.declared.value.Conn.{Conn}
use Rattle.iso_types.specs.declared.value.IndexId.{IndexId}
use Rattle.iso_types.specs.declared.value.Name.{Name}
use Rattle.iso_types.specs.declared.value.Rid.{Rid}
use Rattle.iso_types.specs.declared.value.Value.{Value}

-- the key itself where an entry has it, else the next greater one, else END
abbrev pub guard_in : IndexId → Value → List (Value × Rid) → Name
guard_in i v ps = key_name i (find (λ p. not (value_lt p.0 v)) ps)

-- the connection has a Kept hold on the name
abbrev pub is_kept_on : List Hold → Conn → Name → Bool
is_kept_on holds c n = option_map_or (λ h. is_kept h.term) (hold_on holds c n) false

-- the mode in which a new key with this guard is locked for the connection
abbrev pub inherited_mode : List Hold → Conn → Name → Option Mode
inherited_mode holds c n = if is_kept_on holds c n then Some S else None
