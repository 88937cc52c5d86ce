use Rattle.std.proofs.Common.{◌∙◌, arith, sym}
use Rattle.iso_state.proofs.FactsAlong.{reserved-small}
use Rattle.iso_pace.proofs.Closes.{close-some}
use Rattle.iso_pace.proofs.closing.closing_reserve.Goals as goal

pub overflow_add-result : goal.overflow_add-result
overflow_add-result c = let small = reserved-small c.requires.stands.stands in omega (arith, small)

pub overflow_sub-result : goal.overflow_sub-result
overflow_sub-result c =
    let p = c.args.parts.now in
    close-some p p c.args.conn c.requires.stands c.requires.open c.requires.conn c.requires.quiet c.requires.least c.requires.idle
    (sym c.has_unit.ensures ∙ c.if-has_unit.true)
