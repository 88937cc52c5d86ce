use Rattle.std.proofs.Common.{◌∙◌, ◌-◌, ap, refl, false}
use Rattle.iso_history.specs.declared.entry.Act.TheVariants.{Lock}
use Rattle.iso_history.specs.declared.entry.Entry.{Entry}
use Rattle.iso_history.specs.declared.entry.Got.{Got}
use Rattle.iso_types.specs.declared.desk.Desk.{Desk}
use Rattle.iso_types.specs.declared.desk.Phase.TheVariants.{Rolling}
use Rattle.iso_state.specs.Changes.{seated}
use Rattle.iso_state.specs.Stands.{Content, content_of, desk_at, world_of}
use Rattle.iso_state.proofs.ByKind.{fault-was, timed_out-full, timed_out-place}
use Rattle.iso_locks.proofs.locking.time_out.Goals as goal

pub returns-clause-stands : goal.returns-clause-stands
returns-clause-stands c =
    let o = c.args.parts.now in
    let p = c.make_room.new.parts in
    let l = c.settle.new.self in
    let q : Content = record (content_of p) { locks = l; reserved = p.reserved - 1 } in
    timed_out-place o p c.move_to.new.parts l c.args.conn (Lock c.args.name.now c.args.mode c.args.term c.args.why Got.TimedOut)
    c.in_ok-make_room.ensures.stands c.in_ok-make_room.ensures.same c.move_to.ensures.spends c.requires.open c.requires.conn
    c.in_ok-make_room.ensures.ready c.requires.runs.0
    (c.requires.runs, c.requires.by)
    refl
    (c.settle.ensures.lists (world_of p).holds (world_of p).waits c.in_ok-make_room.ensures.stands.parts.locks)
    c.settle.ensures.limits
    (c.move_to.ensures.wrote
    ∙ ap (λ (d : Desk). seated q c.args.conn (record d { phase = Rolling; doom = 68; claimed = false }) c.locked.result) c.desk_of.ensures
    ∙ ap (λ (e : Entry). seated q c.args.conn (record (desk_at p.desks c.args.conn) { phase = Rolling; doom = 68; claimed = false }) e) c.locked.ensures)

pub returns-in_err-make_room-clause-full : goal.returns-in_err-make_room-clause-full
returns-in_err-make_room-clause-full c =
    let o = c.args.parts.now in
    λ e. timed_out-full o c.args.conn (Lock c.args.name.now c.args.mode c.args.term c.args.why Got.TimedOut) c.requires.stands c.requires.open c.requires.conn
    (c.requires.runs, c.requires.by)
    refl (c.make_room.ensures.full (fault-was _ _ _ _ c.in_err-make_room.was c.from_residual.ensures.1 e))
