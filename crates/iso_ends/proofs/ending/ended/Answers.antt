use Rattle.std.proofs.Common.{◌∙◌, ◌-◌, ap, refl, arith, false, ℕ, List, Option}
use Rattle.iso_history.specs.Legal.{ByAgent}
use Rattle.iso_history.specs.Makers.{by_agent}
use Rattle.iso_history.specs.declared.entry.Act.{Act}
use Rattle.iso_types.specs.declared.desk.Desk.{Desk}
use Rattle.iso_types.specs.declared.desk.Phase.{Phase}
use Rattle.iso_uow.specs.declared.units.Work.{Work}
use Rattle.iso_state.specs.Changes.{seated}
use Rattle.iso_state.specs.Stands.{Content, content_of, desk_at, world_of}
use Rattle.iso_ends.specs.Ends.{without_unit}
use Rattle.iso_ends.proofs.Places.{free-covers, free-place}
use Rattle.iso_ends.proofs.Closings.{ended-own}
use Rattle.iso_ends.proofs.ending.ended.Goals as goal

pub overflow_sub-parts : goal.overflow_sub-parts
overflow_sub-parts c =
    let p = c.args.parts.now in
    let by : ByAgent p.head (world_of p) c.args.conn Act.Ended = (c.requires.closing, c.requires.left) in
    let covers = free-covers p c.args.conn Act.Ended c.requires.stands c.requires.open c.requires.conn by refl in
    omega (arith, covers)

pub returns-clause-stands : goal.returns-clause-stands
returns-clause-stands c =
    let p = c.args.parts.now in
    let q = c.move_to.new.parts in
    let l = c.give_up.new.locks in
    let by : ByAgent p.head (world_of p) c.args.conn Act.Ended = (c.requires.closing, c.requires.left) in
    let covers = free-covers p c.args.conn Act.Ended c.requires.stands c.requires.open c.requires.conn by refl in
    let spent = c.move_to.ensures.spends in
    let k = content_of p in
    let after_all : Content = record k { chain = without_unit k.chain c.args.conn; locks = l; reserved = p.reserved - 3 } in
    free-place p c.args.conn Act.Ended c.requires.stands c.requires.open c.requires.conn by q (without_unit k.chain c.args.conn) l
    (record (desk_at p.desks c.args.conn) { phase = Phase.Ended; claimed = false }) (p.reserved - 3) (record { never = refl; unlogged = refl })
    spent.history (omega (arith, spent.log))
    (ended-own k c.args.conn c.requires.stands.stands c.requires.conn l
    c.give_up.ensures.limits
    (c.give_up.ensures.lists (world_of p).holds (world_of p).waits c.requires.stands.parts.locks)
    (omega (arith, covers)))
    (c.move_to.ensures.wrote
    ∙ ap (λ (n : ℕ). seated (record after_all { chain = record k.chain { book = record { begun = n; works = c.finish.new.self.works } } }) c.args.conn
    (record c.desk_of.result { phase = Phase.Ended; claimed = false }) (by_agent c.args.conn Act.Ended)) c.finish.ensures.begun
    ∙ ap (λ (ws : List (Option Work)). seated (record after_all { chain = record k.chain { book = record { begun = p.units.begun; works = ws } } }) c.args.conn
    (record c.desk_of.result { phase = Phase.Ended; claimed = false }) (by_agent c.args.conn Act.Ended)) c.finish.ensures.works
    ∙ ap (λ (d : Desk). seated after_all c.args.conn (record d { phase = Phase.Ended; claimed = false }) (by_agent c.args.conn Act.Ended)) c.desk_of.ensures)
