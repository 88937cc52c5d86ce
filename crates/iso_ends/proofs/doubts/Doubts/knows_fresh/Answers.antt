use Rattle.std.proofs.Common.{◌∙◌}
use Rattle.std.proofs.lemmas.Bool.{eqb-true}
use Rattle.iso_ends.proofs.FreshAlong.{fresh-end}
use Rattle.iso_state.specs.Stands.{content_of}
use Rattle.iso_ends.proofs.doubts.Doubts.knows_fresh.Goals as goal

pub returns-in-Some-clause-kept : goal.returns-in-Some-clause-kept
returns-in-Some-clause-kept c = record { fresh = c.fresh_until-at.ensures; sets = c.requires.kept.sets }

pub returns-in-Some-clause-none : goal.returns-in-Some-clause-none
returns-in-Some-clause-none c e =
    fresh-end (content_of c.args.parts.now) c.requires.stands.stands c.fresh_until-at.result
    (eqb-true c.fresh_until-at.result c.len.result e ∙ c.len.ensures) c.fresh_until-at.ensures
