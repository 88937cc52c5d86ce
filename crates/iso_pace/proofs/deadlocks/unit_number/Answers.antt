use Rattle.std.proofs.Common.{◌∙◌, refl}
use Rattle.iso_chain.specs.Works.{work_of_unit}
use Rattle.iso_uow.specs.Book.{work_at}
use Rattle.iso_state.specs.Stands.{world_of}
use Rattle.iso_state.proofs.FactsAlong.{work-there}
use Rattle.iso_pace.proofs.Victims.{number-is}
use Rattle.iso_pace.proofs.deadlocks.unit_number.Goals as goal

pub returns : goal.returns
returns c =
    let p = c.args.parts.now in
    let w = world_of p in
    let s = c.requires.stands.stands in
    c.unwrap_or.ensures
    ∙ number-is (w.unit c.args.conn) (work_of_unit w.records (w.marks c.args.conn)) (λ x. x.number) c.unit.result (work_at p.units.works c.args.conn)
    (s.parts.chain.works c.args.conn (work-there s c.args.conn c.requires.conn)) c.unit.ensures (λ u. refl)
