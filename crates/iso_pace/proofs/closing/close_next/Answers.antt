use Rattle.std.proofs.Common.{◌∙◌, sym}
use Rattle.std.proofs.lemmas.Bool.{both_ways}
use Rattle.iso_history.specs.Quiet.{all_ended}
use Rattle.iso_state.specs.Stands.{world_of}
use Rattle.iso_pace.proofs.Closes.{conn-least, idle-least}
use Rattle.iso_pace.proofs.QuietEnds.{quiet-over}
use Rattle.iso_pace.proofs.closing.close_next.Goals as goal

pub close-requires-clause-conn : goal.close-requires-clause-conn
close-requires-clause-conn c =
    let p = c.args.parts.now in
    conn-least p.head (world_of p) c.in-Some.conn (sym c.first_idle.ensures ∙ c.in-Some.is)

pub close-requires-clause-idle : goal.close-requires-clause-idle
close-requires-clause-idle c =
    let p = c.args.parts.now in
    idle-least p.head (world_of p) c.in-Some.conn (sym c.first_idle.ensures ∙ c.in-Some.is)

pub returns-in-None-clause-quiet : goal.returns-in-None-clause-quiet
returns-in-None-clause-quiet c =
    let p = c.args.parts.now in
    λ e. absurd (both_ways (all_ended p.head (world_of p)) (sym c.all_over.ensures ∙ c.if-all_over.false)
    (quiet-over p c.requires.stands (sym c.quiet.ensures ∙ c.if-not-quiet.false) (sym c.first_idle.ensures ∙ c.in-None.is)))
