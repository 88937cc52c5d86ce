use Rattle.std.proofs.Common.{◌∙◌, sym}
use Rattle.iso_ends.proofs.StaleReads.{calm-found}
use Rattle.iso_state.specs.Stands.{content_of}
use Rattle.iso_ends.proofs.purging.is_calm.Goals as goal

pub returns-in-Some : goal.returns-in-Some
returns-in-Some c e =
    let d = c.args.def.now in
    let pair = c.args.pair.now in
    sym
    (calm-found (content_of c.args.parts.now) c.requires.stands.stands c.args.index d d.table pair.0 pair.1 c.in-Some.slot.now c.requires.def c.in-Some.ensures)
    ∙ (sym c.is_settled.ensures ∙ e)
