use Rattle.std.proofs.Common.{◌∙◌, sym}
use Rattle.iso_rebuild.proofs.Links.{link}
use Rattle.iso_rebuild.proofs.tests.has_chain.Goals as goal

pub loop-at-preserved : goal.loop-at-preserved
loop-at-preserved c = λ rest. c.loop-at.invariant (
    link c.args.past.now.pin c.width-width.result c.loop-at.at c.in-Some.number c.in-Some-item.note.now c.in-Some.is (sym c.in-Some-item.ensures.value)
    (c.is_lower.ensures c.if-not-is_lower.false) (sym c.fits.ensures ∙ c.if-not-fits.false) rest)
