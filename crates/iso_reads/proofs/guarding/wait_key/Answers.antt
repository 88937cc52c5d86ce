use Rattle.std.proofs.Common.{◌≡◌, ◌∙◌, ap, subst, sym, true, false}
use Rattle.iso_history.specs.Stops.{is_full}
use Rattle.iso_history.specs.declared.entry.Entry.{Entry}
use Rattle.iso_history.specs.Requests.Outcome.{Gives}
use Rattle.iso_history.specs.declared.entry.Got.{Got}
use Rattle.iso_modes.specs.declared.Term.TheVariants.{Kept}
use Rattle.iso_queue.specs.Queues.{Wait, queued}
use Rattle.iso_types.specs.declared.desk.Desk.{Desk}
use Rattle.iso_types.specs.declared.desk.Phase.{Phase}
use Rattle.iso_state.specs.Changes.{relocked, seated}
use Rattle.iso_state.specs.Stands.{Content, content_of, desk_at, world_of}
use Rattle.iso_state.proofs.ByKind.{fault-was, queued-full, queued-place, spends-after}
use Rattle.iso_state.proofs.Steps.{limits-after}
use Rattle.iso_reads.proofs.NextSteps.{queued-now, request-now}
use Rattle.iso_reads.proofs.guarding.wait_key.Goals as goal

pub enqueue-requires-clause-queues : goal.enqueue-requires-clause-queues
enqueue-requires-clause-queues c =
    request-now (content_of c.args.parts.now) (content_of c.make_room.new.parts) c.args.conn c.args.name.now (Gives (Got.Queued c.args.to))
    c.in_ok-make_room.ensures.same c.requires.queues

pub returns-clause-stands : goal.returns-clause-stands
returns-clause-stands c =
    let o = c.args.parts.now in
    let p = c.make_room.new.parts in
    let m = c.enqueue.new.parts in
    let l = c.settle.new.self in
    let hs = (world_of p).holds in
    let x : Wait = record { name = c.args.name.now; conn = c.args.conn; target = c.args.to; term = Kept } in
    queued-place o p c.move_to.new.parts l c.args.conn c.args.entry.act c.in_ok-make_room.ensures.stands c.in_ok-make_room.ensures.same
    (spends-after p m c.move_to.new.parts c.in_ok-enqueue.ensures.room c.move_to.ensures.spends) c.requires.open c.requires.conn c.in_ok-make_room.ensures.ready
    c.requires.runs.0 c.requires.by c.requires.kind
    (queued-now (content_of o) (content_of p) c.args.conn c.args.entry.act x l c.in_ok-make_room.ensures.same c.requires.leaves c.requires.joins
    (c.settle.ensures.lists hs (queued hs x (world_of p).waits) c.in_ok-enqueue.ensures.ok))
    (limits-after p.locks m.locks l c.in_ok-enqueue.ensures.limits c.settle.ensures.limits)
    (c.move_to.ensures.wrote
    ∙ ap (λ (x : Content). seated (relocked x l) c.args.conn (record c.desk_of.result { phase = Phase.Waiting; claimed = false }) c.args.entry) c.in_ok-enqueue.ensures.content
    ∙ ap (λ (d : Desk). seated (relocked (content_of p) l) c.args.conn (record d { phase = Phase.Waiting; claimed = false }) c.args.entry)
    (c.desk_of.ensures ∙ ap (λ (x : Content). desk_at x.desks c.args.conn) c.in_ok-enqueue.ensures.content)
    ∙ ap (λ (e : Entry). seated (relocked (content_of p) l) c.args.conn (record (desk_at p.desks c.args.conn) { phase = Phase.Waiting; claimed = false }) e) c.requires.maker)

pub returns-in_err-make_room-clause-full : goal.returns-in_err-make_room-clause-full
returns-in_err-make_room-clause-full c =
    let o = c.args.parts.now in
    λ e. subst (λ (x : Entry). is_full o.head (world_of o) x ≡ true) (sym c.requires.maker)
    (queued-full o c.args.conn c.args.entry.act c.requires.stands c.requires.open c.requires.conn c.requires.by c.requires.kind
    (c.make_room.ensures.full (fault-was _ _ _ _ c.in_err-make_room.was c.from_residual.ensures.1 e)))
