-- The outcome of a step of an index scan, and whether it may stand.
use Rattle.std.specs.Prelude.{Bool, true, false, not, ◌&&◌, ◌||◌, Some, None, Option}
use Rattle.iso_history.specs.Entries.{found, stand_of}
use Rattle.iso_history.specs.Holds.{next_name}
use Rattle.iso_history.specs.Requests.{Outcome, may_ask, request}
use Rattle.iso_history.specs.Requests.Outcome.{Gives, Limit}
use Rattle.iso_history.specs.World.{World}
use Rattle.iso_history.specs.declared.entry.Got.{Got}
use Rattle.iso_history.specs.declared.entry.Stand.{Stand}
use Rattle.iso_modes.specs.declared.Mode.TheVariants.{S}
use Rattle.iso_types.specs.Head.{is_index}
use Rattle.iso_types.specs.declared.head.Head.{Head}
use Rattle.iso_types.specs.declared.head.Range.{Range}
use Rattle.iso_types.specs.declared.value.Conn.{Conn}
use Rattle.iso_types.specs.declared.value.IndexId.{IndexId}
use Rattle.iso_types.specs.declared.value.Name.{Name}
use Rattle.iso_types.specs.declared.value.Rid.{Rid}
use Rattle.iso_types.specs.declared.value.Value.{Value}

-- where the step stands, once the lock's outcome is known; none at the limit
abbrev pub stand_after : Outcome → Name → Stand → Option Stand
stand_after (Gives Got.Granted) n stand = Some stand
stand_after (Gives (Got.Queued m)) n stand = Some (Stand.Queued n)
stand_after (Gives Got.TimedOut) n stand = Some (Stand.TimedOut n)
stand_after Limit n stand = None

-- where the step stands or what it awaits; none at the limit
abbrev pub next : Head → World → Conn → IndexId → Range → Option (Value × Rid) → Bool → Option Stand
next head w c i range at true =
    stand_after (request head w c (next_name w i range at) S) (next_name w i range at) (stand_of range (found w i range at))
next head w c i range at false = Some (stand_of range (found w i range at))

-- a Next may stand
abbrev pub may_next : Head → World → Conn → IndexId → Range → Option (Value × Rid) → Bool → Bool
may_next head w c i range at guarded = is_index head i && (not guarded || may_ask head w c (next_name w i range at) S)
