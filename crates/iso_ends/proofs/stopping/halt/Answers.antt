use Rattle.iso_ends.proofs.Halts.{halt-place}
use Rattle.iso_ends.proofs.stopping.halt.Goals as goal

pub returns-clause-stands : goal.returns-clause-stands
returns-clause-stands c =
    halt-place c.args.parts.now c.note.new.parts c.args.cause c.requires.stands c.requires.open c.requires.may c.note.ensures.spends c.note.ensures.wrote
