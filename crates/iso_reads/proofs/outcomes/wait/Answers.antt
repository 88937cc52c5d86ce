use Rattle.std.proofs.Common.{◌∙◌, ap, refl, subst, false}
use Rattle.iso_history.specs.Requests.Outcome.{Gives}
use Rattle.iso_history.specs.Waits.{wait_term}
use Rattle.iso_history.specs.declared.entry.Act.TheVariants.{Look}
use Rattle.iso_history.specs.declared.entry.Entry.{Entry}
use Rattle.iso_history.specs.declared.entry.Got.{Got}
use Rattle.iso_locklist.specs.Holding.{LocksAre}
use Rattle.iso_modes.specs.declared.Term.{Term}
use Rattle.iso_queue.specs.Queues.{queued}
use Rattle.iso_types.specs.declared.desk.Desk.{Desk}
use Rattle.iso_types.specs.declared.desk.Phase.{Phase}
use Rattle.iso_types.specs.declared.value.Name.TheVariants.{Row}
use Rattle.iso_state.specs.Changes.{relocked, seated}
use Rattle.iso_state.specs.Stands.{Content, content_of, desk_at, world_of}
use Rattle.iso_state.proofs.ByKind.{fault-was, queued-full, queued-place, spends-after}
use Rattle.iso_state.proofs.Steps.{limits-after}
use Rattle.iso_reads.proofs.LookSteps.{look-now, looked-by, queues-now, spared-are}
use Rattle.iso_reads.proofs.outcomes.wait.Goals as goal

pub enqueue-requires-clause-queues : goal.enqueue-requires-clause-queues
enqueue-requires-clause-queues c =
    let o = content_of c.args.parts.now in
    let p = content_of c.make_room.new.parts in
    queues-now p c.args.conn c.args.table c.args.rid c.args.want c.mode_of.result c.args.to c.mode_of.ensures
    (look-now o p c.args.conn c.args.table c.args.rid c.args.want (Gives (Got.Queued c.args.to)) c.in_ok-make_room.ensures.same c.requires.outcome)

pub returns-clause-stands : goal.returns-clause-stands
returns-clause-stands c =
    let o = c.args.parts.now in
    let p = c.make_room.new.parts in
    let m = c.enqueue.new.parts in
    let l = c.settle.new.self in
    let n = Row c.args.table c.args.rid in
    let hs = (world_of p).holds in
    let ws = (world_of p).waits in
    queued-place o p c.move_to.new.parts l c.args.conn (Look c.args.table c.args.rid c.args.want (Got.Queued c.args.to))
    c.in_ok-make_room.ensures.stands c.in_ok-make_room.ensures.same
    (spends-after p m c.move_to.new.parts c.in_ok-enqueue.ensures.room c.move_to.ensures.spends) c.requires.open c.requires.conn c.in_ok-make_room.ensures.ready
    c.requires.runs.0
    (looked-by o.head (world_of o) c.args.conn c.args.table c.args.rid c.args.want (Got.Queued c.args.to) c.requires.runs c.requires.may c.requires.outcome)
    refl
    (spared-are hs (queued hs (record { name = n; conn = c.args.conn; target = c.args.to; term = wait_term c.args.want }) ws) l c.args.conn n
    ((world_of p).last c.args.conn) c.spare_for-spare.result c.spare_for-spare.ensures
    (c.settle.ensures.lists hs (queued hs (record { name = n; conn = c.args.conn; target = c.args.to; term = wait_term c.args.want }) ws)
    (subst (λ (x : Term). LocksAre hs (queued hs (record { name = n; conn = c.args.conn; target = c.args.to; term = x }) ws) m.locks)
    c.term_of.ensures c.in_ok-enqueue.ensures.ok)))
    (limits-after p.locks m.locks l c.in_ok-enqueue.ensures.limits c.settle.ensures.limits)
    (c.move_to.ensures.wrote
    ∙ ap (λ (x : Content). seated (relocked x l) c.args.conn (record c.desk_of.result { phase = Phase.Waiting; claimed = false }) c.look_entry.result) c.in_ok-enqueue.ensures.content
    ∙ ap (λ (d : Desk). seated (relocked (content_of p) l) c.args.conn (record d { phase = Phase.Waiting; claimed = false }) c.look_entry.result)
    (c.desk_of.ensures ∙ ap (λ (x : Content). desk_at x.desks c.args.conn) c.in_ok-enqueue.ensures.content)
    ∙ ap (λ (e : Entry). seated (relocked (content_of p) l) c.args.conn (record (desk_at p.desks c.args.conn) { phase = Phase.Waiting; claimed = false }) e) c.look_entry.ensures)

pub returns-in_err-make_room-clause-full : goal.returns-in_err-make_room-clause-full
returns-in_err-make_room-clause-full c =
    let o = c.args.parts.now in
    λ e. queued-full o c.args.conn (Look c.args.table c.args.rid c.args.want (Got.Queued c.args.to)) c.requires.stands c.requires.open c.requires.conn
    (looked-by o.head (world_of o) c.args.conn c.args.table c.args.rid c.args.want (Got.Queued c.args.to) c.requires.runs c.requires.may c.requires.outcome)
    refl (c.make_room.ensures.full (fault-was _ _ _ _ c.in_err-make_room.was c.from_residual.ensures.1 e))
