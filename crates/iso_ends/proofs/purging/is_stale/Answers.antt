use Rattle.std.proofs.Common.{◌∙◌}
use Rattle.iso_ends.proofs.StaleReads.{stale-found, stale-none}
use Rattle.iso_state.specs.Stands.{content_of}
use Rattle.iso_ends.proofs.purging.is_stale.Goals as goal

pub returns-in-Some : goal.returns-in-Some
returns-in-Some c =
    let d = c.args.def.now in
    let pair = c.args.pair.now in
    c.is_left.ensures
    ∙ stale-found (content_of c.args.parts.now) c.requires.stands.stands c.args.index d d.table pair.0 pair.1 c.in-Some.slot.now c.requires.def c.in-Some.ensures

pub returns-in-None : goal.returns-in-None
returns-in-None c =
    let d = c.args.def.now in
    let pair = c.args.pair.now in
    stale-none (content_of c.args.parts.now) c.requires.stands.stands c.args.index d d.table pair.0 pair.1 c.requires.def c.in-None.ensures
