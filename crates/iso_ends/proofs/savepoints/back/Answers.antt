use Rattle.std.proofs.Common.{◌∙◌, ap, sym, Option, ℕ}
use Rattle.std.specs.Prelude.{is_some}
use Rattle.iso_state.specs.Stands.{content_of}
use Rattle.iso_ends.proofs.Marking.{floor-told}
use Rattle.iso_ends.proofs.savepoints.back.Goals as goal

pub returns-in-None-clause-answer : goal.returns-in-None-clause-answer
returns-in-None-clause-answer c =
    sym c.in-None.is ∙ c.floor.ensures
    ∙ floor-told (content_of c.args.parts.now) c.args.conn c.requires.stands.stands c.requires.conn c.requires.runs c.args.name

pub returns-in_ok-go_back-in-Some-clause-answer : goal.returns-in_ok-go_back-in-Some-clause-answer
returns-in_ok-go_back-in-Some-clause-answer c =
    sym c.in-Some.is ∙ c.floor.ensures
    ∙ floor-told (content_of c.args.parts.now) c.args.conn c.requires.stands.stands c.requires.conn c.requires.runs c.args.name

pub go_back-requires-clause-there : goal.go_back-requires-clause-there
go_back-requires-clause-there c =
    ap (λ (o : Option ℕ). is_some o)
    (sym (floor-told (content_of c.args.parts.now) c.args.conn c.requires.stands.stands c.requires.conn c.requires.runs c.args.name)
    ∙ sym c.floor.ensures ∙ c.in-Some.is)
