use Rattle.std.proofs.Common.{refl}
use Rattle.iso_history.specs.declared.entry.Act.TheVariants.{Refused}
use Rattle.iso_history.specs.Writes.{minus}
use Rattle.iso_state.specs.Stands.{world_of}
use Rattle.iso_state.proofs.ByKind.{bare-full, bare-place, fault-was}
use Rattle.iso_locks.proofs.LockSteps.{refused-by}
use Rattle.iso_locks.proofs.locking.refuse.Goals as goal

pub returns-clause-stands : goal.returns-clause-stands
returns-clause-stands c =
    let o = c.args.parts.now in
    let p = c.make_room.new.parts in
    let l = c.settle.new.self in
    bare-place o p c.enter.new.parts l c.args.conn (Refused (minus 912)) c.in_ok-make_room.ensures.stands c.in_ok-make_room.ensures.same
    c.enter.ensures.spends c.requires.open c.requires.conn c.in_ok-make_room.ensures.ready
    (refused-by o.head (world_of o) c.args.conn c.requires.runs c.requires.pressed c.requires.none)
    refl
    (c.settle.ensures.lists (world_of p).holds (world_of p).waits c.in_ok-make_room.ensures.stands.parts.locks)
    c.settle.ensures.limits c.enter.ensures.wrote

pub returns-in_err-make_room-clause-full : goal.returns-in_err-make_room-clause-full
returns-in_err-make_room-clause-full c =
    let o = c.args.parts.now in
    λ e. bare-full o c.args.conn (Refused (minus 912)) c.requires.stands c.requires.open c.requires.conn
    (refused-by o.head (world_of o) c.args.conn c.requires.runs c.requires.pressed c.requires.none)
    refl (c.make_room.ensures.full (fault-was _ _ _ _ c.in_err-make_room.was c.from_residual.ensures.1 e))
