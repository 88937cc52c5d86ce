use Rattle.std.proofs.Common.{◌∙◌, ap, refl, false}
use Rattle.iso_history.specs.declared.entry.Act.TheVariants.{Lock}
use Rattle.iso_history.specs.declared.entry.Entry.{Entry}
use Rattle.iso_history.specs.declared.entry.Got.{Got}
use Rattle.iso_queue.specs.Queues.{Wait, queued}
use Rattle.iso_types.specs.declared.desk.Desk.{Desk}
use Rattle.iso_types.specs.declared.desk.Phase.{Phase}
use Rattle.iso_state.specs.Changes.{relocked, seated}
use Rattle.iso_state.specs.Stands.{Content, content_of, desk_at, world_of}
use Rattle.iso_state.proofs.ByKind.{fault-was, queued-full, queued-place, spends-after}
use Rattle.iso_state.proofs.Steps.{limits-after}
use Rattle.iso_locks.proofs.locking.wait.Goals as goal

pub returns-clause-stands : goal.returns-clause-stands
returns-clause-stands c =
    let o = c.args.parts.now in
    let p = c.make_room.new.parts in
    let m = c.enqueue.new.parts in
    let l = c.settle.new.self in
    let waiting : Wait = record { name = c.args.name.now; conn = c.args.conn; target = c.args.to; term = c.args.term } in
    queued-place o p c.move_to.new.parts l c.args.conn (Lock c.args.name.now c.args.mode c.args.term c.args.why (Got.Queued c.args.to))
    c.in_ok-make_room.ensures.stands c.in_ok-make_room.ensures.same
    (spends-after p m c.move_to.new.parts c.in_ok-enqueue.ensures.room c.move_to.ensures.spends) c.requires.open c.requires.conn c.in_ok-make_room.ensures.ready
    c.requires.runs.0
    (c.requires.runs, c.requires.by)
    refl
    (c.settle.ensures.lists (world_of p).holds (queued (world_of p).holds waiting (world_of p).waits) c.in_ok-enqueue.ensures.ok)
    (limits-after p.locks m.locks l c.in_ok-enqueue.ensures.limits c.settle.ensures.limits)
    (c.move_to.ensures.wrote
    ∙ ap (λ (x : Content). seated (relocked x l) c.args.conn (record c.desk_of.result { phase = Phase.Waiting; claimed = false }) c.locked.result) c.in_ok-enqueue.ensures.content
    ∙ ap (λ (d : Desk). seated (relocked (content_of p) l) c.args.conn (record d { phase = Phase.Waiting; claimed = false }) c.locked.result)
    (c.desk_of.ensures ∙ ap (λ (x : Content). desk_at x.desks c.args.conn) c.in_ok-enqueue.ensures.content)
    ∙ ap (λ (e : Entry). seated (relocked (content_of p) l) c.args.conn (record (desk_at p.desks c.args.conn) { phase = Phase.Waiting; claimed = false }) e) c.locked.ensures)

pub returns-in_err-make_room-clause-full : goal.returns-in_err-make_room-clause-full
returns-in_err-make_room-clause-full c =
    let o = c.args.parts.now in
    λ e. queued-full o c.args.conn (Lock c.args.name.now c.args.mode c.args.term c.args.why (Got.Queued c.args.to)) c.requires.stands c.requires.open c.requires.conn
    (c.requires.runs, c.requires.by)
    refl (c.make_room.ensures.full (fault-was _ _ _ _ c.in_err-make_room.was c.from_residual.ensures.1 e))
