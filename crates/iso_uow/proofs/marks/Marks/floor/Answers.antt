use Rattle.std.proofs.Common.{◌∙◌, ap}
use Rattle.iso_uow.specs.Savepoints.{floor_of}
use Rattle.iso_uow.proofs.Marked.{found}
use Rattle.iso_uow.proofs.marks.Marks.floor.Goals as goal

pub returns : goal.returns
returns c =
    c.copied.ensures ∙ c.get.ensures.value ∙ found c.args.name c.self.inside.places.entries c.self.invariant
    ∙ ap (λ marks. floor_of marks c.args.name) c.self.view_is
