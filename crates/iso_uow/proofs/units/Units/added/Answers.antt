use Rattle.std.proofs.Common.{◌<◌, ◌∙◌, length, sym, None, IsSome, subst, Option}
use Rattle.iso_uow.specs.Book.{Book, work_at}
use Rattle.iso_uow.specs.declared.units.Work.{Work}
use Rattle.iso_uow.proofs.Kept.{there, kept-added}
use Rattle.iso_uow.proofs.units.Units.added.Goals as goal

pub invariant_of-self : goal.invariant_of-self
invariant_of-self c =
    let lt = subst (λ (b : Book). c.args.conn.0 < length b.works) (sym c.self.view_is) c.requires.conn in
    let at = there c.self.inside.works.items c.args.conn.0 None c.index_mut.result.now lt ∙ sym c.index_mut.ensures.value in
    rw (c.add_record-first.ensures.work, c.lesser_of-self-inside.ensures, c.add_record-first.ensures.first)
    (kept-added c.self.inside.debt c.self.inside.oldest c.self.inside.works.items c.args.conn.0 c.index_mut.result.now c.args.number
    c.self.invariant lt at (subst (λ (o : Option Work). IsSome o) at
    (subst (λ (b : Book). IsSome (work_at b.works c.args.conn)) (sym c.self.view_is) c.requires.has_unit)))
