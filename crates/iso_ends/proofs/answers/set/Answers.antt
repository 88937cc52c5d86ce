use Rattle.std.proofs.Common.{◌≡◌, ◌<◌, ◌∙◌, ap, refl, subst, sym, false, length}
use Rattle.iso_history.specs.Legal.{Runs}
use Rattle.iso_history.specs.After.{world}
use Rattle.iso_history.specs.declared.entry.Act.TheVariants.{Set}
use Rattle.iso_history.specs.Makers.{by_agent}
use Rattle.iso_types.specs.declared.desk.Desk.{Desk}
use Rattle.iso_state.specs.Changes.{relocked, seated}
use Rattle.iso_state.specs.Stands.{Content, content_of, desk_at, world_of}
use Rattle.iso_state.proofs.ByKind.{fault-was}
use Rattle.iso_ends.proofs.Places.{IsPlain, plain-full, plain-place}
use Rattle.iso_ends.proofs.Replies.{set-own}
use Rattle.iso_ends.proofs.answers.set.Goals as goal

pub returns-clause-stands : goal.returns-clause-stands
returns-clause-stands c =
    let p = c.make_room.new.parts in
    let l = c.settle.new.self in
    let same = c.in_ok-make_room.ensures.same in
    let stands = c.in_ok-make_room.ensures.stands in
    let a = Set c.args.level c.args.may_wait in
    let runs = subst (λ (x : Content). Runs (world x.head x.history) c.args.conn) (sym same) c.requires.runs in
    let lt = subst (λ (x : Content). c.args.conn.0 < length x.head.conns) (sym same) c.requires.conn in
    let open_now = subst (λ (x : Content). (world x.head x.history).pace.finished ≡ false) (sym same) c.requires.open in
    let plain : IsPlain (world_of p) c.args.conn a = record { more = refl; less = refl; refused = refl; unlogged = refl } in
    plain-place p c.args.conn a stands open_now lt runs c.move_to.new.parts (content_of p).chain l (record (desk_at p.desks c.args.conn) { isolation = c.args.level; may_wait = c.args.may_wait; claimed = false })
    plain c.in_ok-make_room.ensures.ready c.move_to.ensures.spends
    (set-own (content_of p) c.args.conn stands.stands lt l c.settle.ensures.limits c.args.level c.args.may_wait
    (c.settle.ensures.lists (world_of p).holds (world_of p).waits stands.parts.locks))
    (c.move_to.ensures.wrote
    ∙ ap (λ (d : Desk). seated (relocked (content_of p) l) c.args.conn (record d { isolation = c.args.level; may_wait = c.args.may_wait; claimed = false }) (by_agent c.args.conn a)) c.desk_of.ensures)

pub returns-in_err-make_room-clause-full : goal.returns-in_err-make_room-clause-full
returns-in_err-make_room-clause-full c =
    let o = c.args.parts.now in
    let a = Set c.args.level c.args.may_wait in
    let plain : IsPlain (world_of o) c.args.conn a = record { more = refl; less = refl; refused = refl; unlogged = refl } in
    λ e. plain-full o c.args.conn a c.requires.stands c.requires.open c.requires.conn c.requires.runs plain
    (c.make_room.ensures.full (fault-was _ _ _ _ c.in_err-make_room.was c.from_residual.ensures.1 e))
