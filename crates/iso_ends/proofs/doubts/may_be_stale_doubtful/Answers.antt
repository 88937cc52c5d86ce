use Rattle.std.proofs.Common.{◌∙◌, ap, is_some, sym}
use Rattle.iso_ends.proofs.DoubtFinds.{stale-known}
use Rattle.iso_ends.specs.Doubts.{known_of}
use Rattle.iso_state.specs.Stands.{content_of}
use Rattle.iso_ends.proofs.doubts.may_be_stale_doubtful.Goals as goal

pub has_stale_pair-requires-clause-ordered : goal.has_stale_pair-requires-clause-ordered
has_stale_pair-requires-clause-ordered c = c.requires.known.ordered

pub returns : goal.returns
returns c e =
    sym
    (ap is_some
    (stale-known (content_of c.args.parts.now) c.requires.stands.stands c.args.index c.args.def.now c.requires.def (known_of c.args.doubt.now)
    c.requires.known (c.has_parked.ensures c.if-has_parked.false)))
    ∙ (sym c.has_stale_pair.ensures ∙ e)
