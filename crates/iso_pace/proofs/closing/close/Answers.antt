use Rattle.std.proofs.Common.{◌∙◌, ap, false}
use Rattle.iso_history.specs.declared.entry.Entry.{Entry}
use Rattle.iso_types.specs.declared.desk.Desk.{Desk}
use Rattle.iso_types.specs.declared.desk.Phase.TheVariants.{Closing}
use Rattle.iso_state.specs.Changes.{seated}
use Rattle.iso_state.specs.Stands.{Content, content_of, desk_at, pace_of}
use Rattle.iso_pace.proofs.Closes.{close-place}
use Rattle.iso_pace.proofs.closing.close.Goals as goal

pub returns-clause-stands : goal.returns-clause-stands
returns-clause-stands c =
    let p = c.args.parts.now in
    let x : Content = record (content_of p) { reserved = c.closing_reserve-parts.result; pace = record (pace_of p.pace) { purged = false } } in
    close-place p c.move_to.new.parts c.args.conn c.requires.stands c.requires.open c.requires.conn c.requires.quiet c.requires.least c.requires.idle
    c.closing_reserve-parts.result c.move_to.ensures.spends c.closing_reserve-parts.ensures
    (c.move_to.ensures.wrote
    ∙ ap (λ (d : Desk). seated x c.args.conn (record d { phase = Closing }) c.of_dispatcher.result) c.desk_of.ensures
    ∙ ap (λ (e : Entry). seated x c.args.conn (record (desk_at p.desks c.args.conn) { phase = Closing }) e) c.of_dispatcher.ensures)
