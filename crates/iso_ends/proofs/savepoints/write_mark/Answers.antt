use Rattle.iso_state.specs.Stands.{content_of}
use Rattle.iso_ends.proofs.Marking.{unit-there}
use Rattle.iso_ends.proofs.savepoints.write_mark.Goals as goal

pub mark-requires-clause-has_unit : goal.mark-requires-clause-has_unit
mark-requires-clause-has_unit c =
    unit-there (content_of c.args.parts.now) c.args.conn c.requires.stands.stands c.requires.conn c.requires.runs
