use Rattle.std.proofs.Common.{◌∙◌, ap, sym}
use Rattle.iso_conduct.specs.Conduct.{quiet_back}
use Rattle.iso_ends.proofs.Marking.{floor-told}
use Rattle.iso_state.specs.Stands.{content_of}
use Rattle.iso_agent.proofs.quiet.no_mark.Goals as goal

pub returns-in-None : goal.returns-in-None
returns-in-None c =
    ap quiet_back
    (sym c.in-None.is ∙ c.floor.ensures
    ∙ floor-told (content_of c.args.parts.now) c.args.conn c.requires.stands.stands c.requires.conn c.requires.runs c.args.name)

pub returns-in-Some : goal.returns-in-Some
returns-in-Some c =
    ap quiet_back
    (sym c.in-Some.is ∙ c.floor.ensures
    ∙ floor-told (content_of c.args.parts.now) c.args.conn c.requires.stands.stands c.requires.conn c.requires.runs c.args.name)
