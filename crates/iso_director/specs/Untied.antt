-- How far it is known that no connections wait for each other in a circle.
use Rattle.std.specs.Prelude.{◌≡◌, ◌≤◌, ℕ, Bool, true, false, List, length, take, Option, Some, None}
use Rattle.iso_history.specs.After.{world}
use Rattle.iso_history.specs.Quiet.{cycle_in}
use Rattle.iso_history.specs.declared.entry.Act.{Act}
use Rattle.iso_history.specs.declared.entry.Act.TheVariants.{Lock, Look, Next}
use Rattle.iso_history.specs.declared.entry.Entry.{Entry}
use Rattle.iso_history.specs.declared.entry.Got.{Got}
use Rattle.iso_history.specs.declared.entry.Stand.{Stand}
use Rattle.iso_types.specs.declared.head.Head.{Head}

-- an act after which there may be a cycle where there was none: its maker waits from then on
abbrev pub may_tie : Act → Bool
may_tie (Lock name mode term why (Got.Queued target)) = true
may_tie (Look table rid want (Got.Queued target)) = true
may_tie (Next index range at guarded (Stand.Queued name)) = true
may_tie _ = false

-- when there were so many entries there was no cycle; or nothing is known
abbrev pub WasAcyclic : Head → List Entry → Option ℕ → Type 0
WasAcyclic head es None = Unit {0}
WasAcyclic head es (Some n) = (n ≤ length es) × (cycle_in head (world head (take n es)) ≡ None)
