use Rattle.std.proofs.Common.{◌≡◌, ◌-◌, ◌+◌, length}
use Rattle.iso_ends.specs.Doubts.{kept_at}
use Rattle.iso_types.specs.declared.value.Rid.{Rid}
use Rattle.iso_ends.proofs.settling.widen.Given as goal

abbrev pub invariant-places : goal.invariant-places
invariant-places l = (r : Rid) → kept_at l.keys r ≡ kept_at l.initial.keys r

abbrev pub decreases-places : goal.decreases-places
decreases-places l = (l.at + 1) - length l.keys
