use Rattle.std.proofs.Common.{◌≡◌, drop}
use Rattle.std.specs.List.{list_all}
use Rattle.std.specs.Prelude.{nat_lt}
use Rattle.iso_slots.proofs.guards.are_within.Given as goal

abbrev pub invariant-loop-old : goal.invariant-loop-old
invariant-loop-old l = list_all (λ p. nat_lt p.0 l.width) (drop l.old-index l.olds) ≡ list_all (λ p. nat_lt p.0 l.width) l.olds
