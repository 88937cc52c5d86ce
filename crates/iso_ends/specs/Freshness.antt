-- How far it is known that no pair of an index is stale.
use Rattle.std.specs.Prelude.{◌≤◌, ℕ, List, length, take, Option, Some, None}
use Rattle.iso_ends.specs.Purges.{NoneStale}
use Rattle.iso_history.specs.After.{world}
use Rattle.iso_history.specs.declared.entry.Entry.{Entry}
use Rattle.iso_types.specs.declared.head.Head.{Head}

-- when there were so many entries no pair was stale; or nothing is known
abbrev pub WasFresh : Head → List Entry → Option ℕ → Type 0
WasFresh head es None = Unit {0}
WasFresh head es (Some n) = (n ≤ length es) × NoneStale head (world head (take n es))
