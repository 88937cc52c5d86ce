use Rattle.std.proofs.Common.{◌∙◌, ap, refl, false}
use Rattle.iso_history.specs.declared.entry.Act.TheVariants.{Look}
use Rattle.iso_history.specs.declared.entry.Entry.{Entry}
use Rattle.iso_history.specs.declared.entry.Got.{Got}
use Rattle.iso_types.specs.declared.value.Name.TheVariants.{Row}
use Rattle.iso_state.specs.Changes.{entered, relocked}
use Rattle.iso_state.specs.Stands.{content_of, world_of}
use Rattle.iso_state.proofs.ByKind.{bare-full, bare-place, fault-was}
use Rattle.iso_reads.proofs.LookSteps.{looked-by, passed-are, places-now, spared-are}
use Rattle.iso_reads.proofs.outcomes.pass.Goals as goal

pub returns-clause-stands : goal.returns-clause-stands
returns-clause-stands c =
    let o = c.args.parts.now in
    let p = c.make_room.new.parts in
    let l = c.settle.new.self in
    let a = Look c.args.table c.args.rid c.args.want Got.Granted in
    bare-place o p c.enter.new.parts l c.args.conn a c.in_ok-make_room.ensures.stands c.in_ok-make_room.ensures.same
    c.enter.ensures.spends c.requires.open c.requires.conn c.in_ok-make_room.ensures.ready
    (looked-by o.head (world_of o) c.args.conn c.args.table c.args.rid c.args.want Got.Granted c.requires.runs c.requires.may c.requires.outcome)
    refl
    (passed-are p.head (world_of p) l c.args.conn c.args.table c.args.rid c.args.want
    (places-now (content_of o) (content_of p) c.args.table c.args.rid c.args.want false c.in_ok-make_room.ensures.same c.requires.bare)
    (spared-are (world_of p).holds (world_of p).waits l c.args.conn (Row c.args.table c.args.rid) ((world_of p).last c.args.conn)
    c.spare_for-spare.result c.spare_for-spare.ensures
    (c.settle.ensures.lists (world_of p).holds (world_of p).waits c.in_ok-make_room.ensures.stands.parts.locks)))
    c.settle.ensures.limits
    (c.enter.ensures.wrote ∙ ap (λ (e : Entry). entered (relocked (content_of p) l) c.args.conn e) c.look_entry.ensures)

pub returns-in_err-make_room-clause-full : goal.returns-in_err-make_room-clause-full
returns-in_err-make_room-clause-full c =
    let o = c.args.parts.now in
    λ e. bare-full o c.args.conn (Look c.args.table c.args.rid c.args.want Got.Granted) c.requires.stands c.requires.open c.requires.conn
    (looked-by o.head (world_of o) c.args.conn c.args.table c.args.rid c.args.want Got.Granted c.requires.runs c.requires.may c.requires.outcome)
    refl (c.make_room.ensures.full (fault-was _ _ _ _ c.in_err-make_room.was c.from_residual.ensures.1 e))
