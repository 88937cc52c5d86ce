use Rattle.std.proofs.Common.{◌≡◌, length}
use Rattle.indexmap.specs.IndexMap.{IsUnique}
use Rattle.iso_types.specs.Ids.{text_eq}
use Rattle.iso_uow.specs.Savepoints.{down_to, newest_first}
use Rattle.iso_uow.proofs.marks.pop_to.Given as goal

abbrev pub invariant-loop-last : goal.invariant-loop-last
invariant-loop-last l = IsUnique text_eq l.places × (down_to l.name (newest_first l.places.entries) ≡ down_to l.name (newest_first l.initial.places.entries))

abbrev pub decreases-loop-last : goal.decreases-loop-last
decreases-loop-last l = length l.places.entries
