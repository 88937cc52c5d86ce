use Rattle.std.proofs.Common.{◌≤◌, ◌<◌, ◌∙◌, length, refl, sym, arith, Some, None, subst, Option}
use Rattle.std.specs.Prelude.{unwrap_or}
use Rattle.iso_uow.specs.declared.units.Work.{Work}
use Rattle.iso_uow.specs.Book.{Book, no_work, own}
use Rattle.iso_uow.proofs.Kept.{there, kept-undone}
use Rattle.iso_uow.proofs.units.Units.undone.Goals as goal

pub invariant_of-self : goal.invariant_of-self
invariant_of-self c =
    let lt = subst (λ (b : Book). c.args.conn.0 < length b.works) (sym c.self.view_is) c.requires.conn in
    let at = there c.self.inside.works.items c.args.conn.0 None c.index_mut.result.now lt ∙ sym c.index_mut.ensures.value ∙ c.in-Some.is in
    let some : 1 ≤ c.in-Some.work.count = subst (λ (o : Option Work). 1 ≤ (unwrap_or o no_work).count) at
    (subst (λ (b : Book). 1 ≤ (own b.works c.args.conn).count) (sym c.self.view_is) c.requires.some) in
    kept-undone c.self.inside.debt c.self.inside.oldest c.self.inside.works.items c.args.conn.0 (Some c.in-Some.work) _
    c.self.invariant lt at (omega (arith, some)) refl
