use Rattle.std.proofs.Common.{Some}
use Rattle.iso_ends.specs.Freshness.{WasFresh}
use Rattle.iso_ends.proofs.freshness.fresh_until.Given as goal

abbrev pub invariant-loop-at : goal.invariant-loop-at
invariant-loop-at l = WasFresh l.parts.head l.parts.history.items (Some l.at)
