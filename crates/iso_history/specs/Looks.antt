-- The lock that a look asks, its outcome, whether it may stand, and what it shows.
use Rattle.std.specs.Option.{option_map, option_map_or}
use Rattle.std.specs.Prelude.{Bool, true, not, ◌&&◌, ◌||◌, List, if◌then◌else◌, is_some, nat_lt, Some, None, Option}
use Rattle.iso_history.specs.Holds.{placed_by_want}
use Rattle.iso_history.specs.Records.{is_in_window}
use Rattle.iso_history.specs.Requests.{Outcome, asking, is_had, may_ask, request}
use Rattle.iso_history.specs.Requests.Outcome.{Gives}
use Rattle.iso_history.specs.Versions.{first_record, is_changed_beside, is_dead, present, slots, versions, view}
use Rattle.iso_history.specs.World.{World}
use Rattle.iso_history.specs.declared.entry.Got.{Got}
use Rattle.iso_history.specs.declared.entry.Want.{Want}
use Rattle.iso_history.specs.declared.entry.Want.TheVariants.{Current, Dirty}
use Rattle.iso_modes.specs.declared.Mode.{Mode}
use Rattle.iso_modes.specs.declared.Mode.TheVariants.{Ns}
use Rattle.iso_queue.specs.Locks.{holds_at_least}
use Rattle.iso_queue.specs.Queues.{would_wait}
use Rattle.iso_types.specs.declared.head.Head.{Head}
use Rattle.iso_types.specs.declared.value.Conn.{Conn}
use Rattle.iso_types.specs.declared.value.Name.TheVariants.{Row}
use Rattle.iso_types.specs.declared.value.Rid.{Rid}
use Rattle.iso_types.specs.declared.value.TableId.{TableId}
use Rattle.iso_types.specs.declared.value.Value.{Value}

-- the slot's first pending record is in the window
abbrev pub is_first_in_window : Head → World → TableId → Rid → Bool
is_first_in_window head w t r = option_map_or (is_in_window head w) (first_record (versions w t r)) true

-- Current needs no lock
abbrev pub is_current : Head → World → Conn → TableId → Rid → Bool
is_current head w c t r =
    not (is_changed_beside w c t r) || (is_first_in_window head w t r || holds_at_least w.holds c (Row t r) Ns)

-- NS would be granted without regard to the limit
abbrev pub is_settled : Head → World → Conn → TableId → Rid → Bool
is_settled head w c t r = is_had head w c (Row t r) Ns || not (would_wait w.holds w.waits (asking w c (Row t r) Ns))

-- the mode that the want asks of a slot that is not dead, or none
abbrev pub want_asks : Head → World → Conn → TableId → Rid → Want → Option Mode
want_asks head w c t r Dirty = None
want_asks head w c t r Current = if is_current head w c t r then None else Some Ns
want_asks head w c t r Want.Settled = if is_settled head w c t r then None else Some Ns
want_asks head w c t r want = option_map (λ m. m.0) (placed_by_want want)

-- the want locks the row that it shows: Steady, Repeat, Alter and AlterKept
abbrev pub locks_row : Want → Bool
locks_row want = is_some (placed_by_want want)

-- the mode that a look asks, or none
abbrev pub look_asks : Head → World → Conn → TableId → Rid → Want → Option Mode
look_asks head w c t r want = if is_dead (versions w t r) then None else want_asks head w c t r want

-- a look may stand
abbrev pub may_look : Head → World → Conn → TableId → Rid → Want → Bool
may_look head w c t r want =
    nat_lt r.0 (slots w t) && option_map_or (may_ask head w c (Row t r)) (look_asks head w c t r want) true

-- the outcome of a look
abbrev pub look : Head → World → Conn → TableId → Rid → Want → Outcome
look head w c t r want = option_map_or (request head w c (Row t r)) (look_asks head w c t r want) (Gives Got.Granted)

-- what a granted look shows
abbrev pub shown : World → Conn → TableId → Rid → Want → Option (List Value)
shown w c t r Dirty = present (versions w t r)
shown w c t r want = view w c t r
