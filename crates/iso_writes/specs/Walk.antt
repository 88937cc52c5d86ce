-- The walk over the entries of a key, and what one of them comes to.
use Rattle.std.specs.Option.{option_map_or}
use Rattle.std.specs.Prelude.{Bool, true, false, not, ◌&&◌, List, Option, Some, None, filter, nat_lt}
use Rattle.iso_history.specs.Writes.{Written}
use Rattle.iso_history.specs.Writes.Written.{Done}
use Rattle.iso_key.specs.Entries.{first_from, next_after}
use Rattle.iso_types.specs.Ids.{rid_eq}
use Rattle.iso_types.specs.Value.{value_eq}
use Rattle.iso_types.specs.declared.value.Rid.{Rid}
use Rattle.iso_types.specs.declared.value.Value.{Value}

-- the rid stands behind this one, or none is given
abbrev pub is_behind : Option Rid → Rid → Bool
is_behind after r = option_map_or (λ (a : Rid). nat_lt a.0 r.0) after true

-- an entry of the key that is still to come
abbrev pub is_left : Value → Option Rid → Value × Rid → Bool
is_left v after p = value_eq p.0 v && is_behind after p.1

-- the least entry from the key on, or behind the key's entry with this rid
abbrev pub entry_from : Value → Option Rid → List (Value × Rid) → Option (Value × Rid)
entry_from v None ps = first_from (Some (record { value = v; inclusive = true })) ps
entry_from v (Some r) ps = next_after (v, r) ps

-- nothing is in the way
abbrev pub is_done : Written → Bool
is_done Done = true
is_done _ = false

-- the entries but the row's own
abbrev pub others : Rid → List (Value × Rid) → List (Value × Rid)
others own ps = filter (λ p. not (rid_eq p.1 own)) ps

-- the entries of a key but the row's own, of one index
abbrev pub rivals_in : Value → Rid → List (Value × Rid) → List (Value × Rid)
rivals_in v own ps = filter (λ p. value_eq p.0 v && not (rid_eq p.1 own)) ps
