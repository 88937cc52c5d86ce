use Rattle.std.proofs.Common.{◌∙◌, sym, ap, is_some}
use Rattle.iso_uow.proofs.Marked.{goes, stays}
use Rattle.iso_uow.proofs.marks.pop_to.Goals as goal

pub returns-then-eq-clause-savepoints : goal.returns-then-eq-clause-savepoints
returns-then-eq-clause-savepoints c =
    stays c.args.name c.loop-last.places.entries (c.in-Some.last.now, c.in-Some.field-0-1.now) (sym c.in-Some.ensures.entry) (c.last.ensures.found.0 (ap is_some c.in-Some.is))
    (sym c.eq.ensures ∙ c.if-eq.true)
    ∙ c.loop-last.invariant.1

pub loop-last-preserved : goal.loop-last-preserved
loop-last-preserved c =
    let some = c.last.ensures.found.0 (ap is_some c.in-Some.is) in (
      c.pop.ensures.unique,
      goes c.args.name c.loop-last.places.entries c.pop.new.self.entries (c.in-Some.last.now, c.in-Some.field-0-1.now) c.pop.result c.pop.ensures.entries
          (c.pop.ensures.found.1 some) (sym c.in-Some.ensures.entry) some (sym c.eq.ensures ∙ c.if-eq.false) ∙ c.loop-last.invariant.1,
    )
