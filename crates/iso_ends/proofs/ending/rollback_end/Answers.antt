use Rattle.std.proofs.Common.{◌≡◌, ◌∙◌, ◌-◌, ap, refl, arith, false, ℕ, List, Option}
use Rattle.std.specs.Prelude.{ℤ, if◌then◌else◌}
use Rattle.std.proofs.Math.Facts.{to_z-of_z}
use Rattle.iso_history.specs.Legal.{ByAgent}
use Rattle.iso_history.specs.Makers.{by_agent}
use Rattle.iso_history.specs.Phases.{is_phase, phase}
use Rattle.iso_history.specs.declared.entry.Act.TheVariants.{Rollback}
use Rattle.iso_history.specs.declared.entry.Entry.{Entry}
use Rattle.iso_types.specs.declared.desk.Desk.{Desk}
use Rattle.iso_types.specs.declared.desk.Phase.{Phase}
use Rattle.iso_types.specs.declared.desk.Phase.TheVariants.{Idle, Running}
use Rattle.iso_uow.specs.declared.units.Work.{Work}
use Rattle.iso_state.proofs.Steps.{own-desk}
use Rattle.iso_state.specs.Changes.{seated}
use Rattle.iso_state.specs.Stands.{Content, content_of, desk_at, world_of}
use Rattle.iso_ends.specs.Ends.{without_unit}
use Rattle.iso_ends.proofs.Places.{free-covers, free-place}
use Rattle.iso_ends.proofs.Closings.{rollback-own}
use Rattle.iso_ends.proofs.ending.rollback_end.Goals as goal

pub overflow_sub-parts : goal.overflow_sub-parts
overflow_sub-parts c =
    let p = c.args.parts.now in
    let a = Rollback c.args.code c.args.reason in
    let by : ByAgent p.head (world_of p) c.args.conn a = (c.requires.ends, c.requires.left) in
    let covers = free-covers p c.args.conn a c.requires.stands c.requires.open c.requires.conn by refl in
    let desk = own-desk (content_of p) c.args.conn c.desk_of-was.result c.requires.stands.stands c.requires.conn c.desk_of-was.ensures in
    let less : c.kept_until_rollback.result ≡ (if is_phase (phase (world_of p) c.args.conn) Running then 2 else 1) =
    c.kept_until_rollback.ensures ∙ ap (λ (x : Phase). if is_phase x Running then 2 else 1) desk.phase in
    omega (arith, covers, less)

pub returns-clause-stands : goal.returns-clause-stands
returns-clause-stands c =
    let p = c.args.parts.now in
    let q = c.move_to.new.parts in
    let l = c.give_up.new.locks in
    let a = Rollback c.args.code c.args.reason in
    let by : ByAgent p.head (world_of p) c.args.conn a = (c.requires.ends, c.requires.left) in
    let covers = free-covers p c.args.conn a c.requires.stands c.requires.open c.requires.conn by refl in
    let desk = own-desk (content_of p) c.args.conn c.desk_of-was.result c.requires.stands.stands c.requires.conn c.desk_of-was.ensures in
    let less : c.kept_until_rollback.result ≡ (if is_phase (phase (world_of p) c.args.conn) Running then 2 else 1) =
    c.kept_until_rollback.ensures ∙ ap (λ (x : Phase). if is_phase x Running then 2 else 1) desk.phase in
    let spent = c.move_to.ensures.spends in
    let k = content_of p in
    let n = p.reserved - (if is_phase (phase (world_of p) c.args.conn) Running then 2 else 1) in
    let d0 = record c.desk_of-was.result { phase = Idle; doom = 0; claimed = false } in
    let after_all : Content = record k { chain = without_unit k.chain c.args.conn; locks = l; reserved = p.reserved - c.kept_until_rollback.result } in
    free-place p c.args.conn a c.requires.stands c.requires.open c.requires.conn by q (without_unit k.chain c.args.conn) l
    (record (desk_at p.desks c.args.conn) { phase = Idle; doom = 0; claimed = false }) n (record { never = refl; unlogged = refl })
    spent.history (omega (arith, spent.log))
    (rollback-own k c.args.conn c.requires.stands.stands c.requires.conn l
    c.give_up.ensures.limits c.args.code c.args.reason c.requires.ends
    (c.give_up.ensures.lists (world_of p).holds (world_of p).waits c.requires.stands.parts.locks)
    (omega (arith, covers)))
    (c.move_to.ensures.wrote
    ∙ ap (λ (n : ℕ). seated (record after_all { chain = record k.chain { book = record { begun = n; works = c.finish.new.self.works } } }) c.args.conn d0 c.rolled_back.result)
    c.finish.ensures.begun
    ∙ ap (λ (ws : List (Option Work)). seated (record after_all { chain = record k.chain { book = record { begun = p.units.begun; works = ws } } }) c.args.conn d0 c.rolled_back.result)
    c.finish.ensures.works
    ∙ ap (λ (e : Entry). seated after_all c.args.conn d0 e) c.rolled_back.ensures
    ∙ ap (λ (z : ℤ). seated after_all c.args.conn d0 (by_agent c.args.conn (Rollback z c.args.reason))) (to_z-of_z c.ranges.code)
    ∙ ap (λ (d : Desk). seated after_all c.args.conn (record d { phase = Idle; doom = 0; claimed = false }) (by_agent c.args.conn a)) c.desk_of-was.ensures
    ∙ ap (λ (m : ℕ). seated (record after_all { reserved = p.reserved - m }) c.args.conn (record (desk_at p.desks c.args.conn) { phase = Idle; doom = 0; claimed = false })
    (by_agent c.args.conn a)) less)
