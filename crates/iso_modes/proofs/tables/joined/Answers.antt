use Rattle.std.proofs.Common.{refl}
use Rattle.iso_modes.specs.Modes.{IsJoin}
use Rattle.iso_modes.proofs.Table.{joined_is, joins_is}
use Rattle.iso_modes.proofs.tables.joined.Goals as goal

pub returns : goal.returns
unfolding IsJoin
returns c = rw (c.place.ensures.number, c.place-2.ensures.number, joins_is c.args.a c.args.b) (record { join = joined_is c.args.a c.args.b; table = refl })
