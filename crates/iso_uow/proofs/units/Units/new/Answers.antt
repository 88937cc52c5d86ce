use Rattle.iso_uow.proofs.Kept.{none-kept}
use Rattle.iso_uow.proofs.units.Units.new.Goals as goal

pub invariant_of-result : goal.invariant_of-result
invariant_of-result c = none-kept c.args.conns c.in_ok-no_works.field-0.items c.in_ok-no_works.ensures
