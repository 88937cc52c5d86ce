use Rattle.std.proofs.Common.{◌∙◌}
use Rattle.iso_ends.proofs.DoubtFinds.{least-known}
use Rattle.iso_ends.specs.Doubts.{known_of}
use Rattle.iso_state.specs.Stands.{content_of}
use Rattle.iso_ends.proofs.doubts.least_doubtful.Goals as goal

pub first_purgeable-requires-clause-ordered : goal.first_purgeable-requires-clause-ordered
first_purgeable-requires-clause-ordered c = c.requires.known.ordered

pub returns : goal.returns
returns c =
    c.first_purgeable.ensures
    ∙ least-known (content_of c.args.parts.now) c.requires.stands.stands c.args.index c.args.def.now c.requires.def (known_of c.args.doubt.now) c.requires.known
