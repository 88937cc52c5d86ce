use Rattle.iso_modes.proofs.Table.{together_is}
use Rattle.iso_modes.proofs.tables.compatible.Goals as goal

pub returns : goal.returns
returns c = rw (c.place.ensures.number, c.place-2.ensures.number) (together_is c.args.a c.args.b)
