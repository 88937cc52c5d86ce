use Rattle.std.proofs.Common.{◌≡◌, replicate, None}
use Rattle.iso_uow.proofs.units.no_works.Given as goal

abbrev pub invariant-loop : goal.invariant-loop
invariant-loop l = l.works.items ≡ replicate l.counter None
