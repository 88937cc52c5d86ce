use Rattle.std.proofs.Common.{◌≡◌, ◌<◌, length, refl, sym, None, subst}
use Rattle.iso_uow.specs.Book.{Book, work_at}
use Rattle.iso_uow.proofs.Kept.{kept-same}
use Rattle.iso_uow.proofs.units.Units.begin.Goals as goal

pub invariant_of-self : goal.invariant_of-self
invariant_of-self c =
    let lt = subst (λ (b : Book). c.args.conn.0 < length b.works) (sym c.self.view_is) c.requires.conn in
    kept-same c.self.inside.debt c.self.inside.oldest c.self.inside.works.items c.args.conn.0 None _
    c.self.invariant lt (subst (λ (b : Book). work_at b.works c.args.conn ≡ None) (sym c.self.view_is) c.requires.none) refl refl
