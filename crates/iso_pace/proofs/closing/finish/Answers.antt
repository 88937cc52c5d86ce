use Rattle.std.proofs.Common.{◌∙◌, ap, false, true}
use Rattle.iso_history.specs.declared.entry.Entry.{Entry}
use Rattle.iso_state.specs.Changes.{noted}
use Rattle.iso_state.specs.Stands.{Content, content_of, pace_of}
use Rattle.iso_pace.proofs.Closes.{finish-place}
use Rattle.iso_pace.proofs.closing.finish.Goals as goal

pub returns-clause-stands : goal.returns-clause-stands
returns-clause-stands c =
    let p = c.args.parts.now in
    let x : Content = record (content_of p) { reserved = c.last_reserve-parts.result; pace = record (pace_of p.pace) { purged = false; finished = true } } in
    finish-place p c.note.new.parts c.requires.stands c.requires.open c.requires.over c.last_reserve-parts.result c.note.ensures.spends
    c.last_reserve-parts.ensures
    (c.note.ensures.wrote ∙ ap (λ (e : Entry). noted x e) c.of_dispatcher.ensures)
