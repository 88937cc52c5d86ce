use Rattle.std.proofs.Common.{◌<◌, ◌∙◌, length, refl, sym, Some, None, subst}
use Rattle.iso_uow.specs.Book.{Book}
use Rattle.iso_uow.proofs.Kept.{there, kept-same}
use Rattle.iso_uow.proofs.units.Units.mark.Goals as goal

pub invariant_of-self : goal.invariant_of-self
invariant_of-self c =
    let lt = subst (λ (b : Book). c.args.conn.0 < length b.works) (sym c.self.view_is) c.requires.conn in
    kept-same c.self.inside.debt c.self.inside.oldest c.self.inside.works.items c.args.conn.0 (Some c.in-Some.work) _
    c.self.invariant lt (there c.self.inside.works.items c.args.conn.0 None c.index_mut.result.now lt ∙ sym c.index_mut.ensures.value ∙ c.in-Some.is) refl refl
