use Rattle.std.proofs.Common.{◌∙◌}
use Rattle.std.proofs.lemmas.Bool.{eqb-true}
use Rattle.iso_director.proofs.UntiedAlong.{untied-end}
use Rattle.iso_state.specs.Stands.{content_of}
use Rattle.iso_director.proofs.director.Director.knows_acyclic.Goals as goal

pub returns-in-Some-clause-none : goal.returns-in-Some-clause-none
returns-in-Some-clause-none c e =
    untied-end (content_of c.args.parts.now) c.requires.stands.stands c.untied_until-at.result
    (eqb-true c.untied_until-at.result c.len.result e ∙ c.len.ensures) c.untied_until-at.ensures
