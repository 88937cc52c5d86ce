use Rattle.std.proofs.Common.{◌≡◌, ◌∙◌, ◌-◌, ap, subst, sym, true, false}
use Rattle.iso_history.specs.Stops.{is_full}
use Rattle.iso_history.specs.declared.entry.Entry.{Entry}
use Rattle.iso_types.specs.declared.desk.Desk.{Desk}
use Rattle.iso_types.specs.declared.desk.Phase.TheVariants.{Rolling}
use Rattle.iso_state.specs.Changes.{seated}
use Rattle.iso_state.specs.Stands.{Content, content_of, desk_at, world_of}
use Rattle.iso_state.proofs.ByKind.{fault-was, timed_out-full, timed_out-place}
use Rattle.iso_reads.proofs.NextSteps.{settled-now}
use Rattle.iso_reads.proofs.guarding.time_out_key.Goals as goal

pub returns-clause-stands : goal.returns-clause-stands
returns-clause-stands c =
    let o = c.args.parts.now in
    let p = c.make_room.new.parts in
    let l = c.settle.new.self in
    let q : Content = record (content_of p) { locks = l; reserved = p.reserved - 1 } in
    timed_out-place o p c.move_to.new.parts l c.args.conn c.args.entry.act c.in_ok-make_room.ensures.stands c.in_ok-make_room.ensures.same
    c.move_to.ensures.spends c.requires.open c.requires.conn c.in_ok-make_room.ensures.ready c.requires.runs.0 c.requires.by c.requires.kind
    (settled-now (content_of o) (content_of p) c.args.conn c.args.entry.act l (world_of p).waits c.in_ok-make_room.ensures.same c.requires.leaves
    (c.settle.ensures.lists (world_of p).holds (world_of p).waits c.in_ok-make_room.ensures.stands.parts.locks))
    c.settle.ensures.limits
    (c.move_to.ensures.wrote
    ∙ ap (λ (d : Desk). seated q c.args.conn (record d { phase = Rolling; doom = 68; claimed = false }) c.args.entry) c.desk_of.ensures
    ∙ ap (λ (e : Entry). seated q c.args.conn (record (desk_at p.desks c.args.conn) { phase = Rolling; doom = 68; claimed = false }) e) c.requires.maker)

pub returns-in_err-make_room-clause-full : goal.returns-in_err-make_room-clause-full
returns-in_err-make_room-clause-full c =
    let o = c.args.parts.now in
    λ e. subst (λ (x : Entry). is_full o.head (world_of o) x ≡ true) (sym c.requires.maker)
    (timed_out-full o c.args.conn c.args.entry.act c.requires.stands c.requires.open c.requires.conn c.requires.by c.requires.kind
    (c.make_room.ensures.full (fault-was _ _ _ _ c.in_err-make_room.was c.from_residual.ensures.1 e)))
