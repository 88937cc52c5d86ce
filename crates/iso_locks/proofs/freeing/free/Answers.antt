use Rattle.std.proofs.Common.{refl, Some}
use Rattle.iso_history.specs.declared.entry.Act.TheVariants.{Free}
use Rattle.iso_queue.specs.Locks.{settled, without_briefs}
use Rattle.iso_types.specs.declared.value.Name.TheVariants.{Row}
use Rattle.iso_state.specs.Stands.{world_of}
use Rattle.iso_state.proofs.ByKind.{bare-full, bare-place, fault-was}
use Rattle.iso_state.proofs.Steps.{limits-after}
use Rattle.iso_locks.proofs.FreeSteps.{freed-are}
use Rattle.iso_locks.proofs.freeing.free.Goals as goal

pub returns-clause-stands : goal.returns-clause-stands
returns-clause-stands c =
    let o = c.args.parts.now in
    let p = c.make_room.new.parts in
    let n = Row c.args.table c.args.rid in
    let l = c.release.new.self in
    let hs = (world_of p).holds in
    bare-place o p c.enter.new.parts l c.args.conn (Free c.args.table c.args.rid) c.in_ok-make_room.ensures.stands c.in_ok-make_room.ensures.same
    c.enter.ensures.spends c.requires.open c.requires.conn c.in_ok-make_room.ensures.ready
    (c.requires.runs, c.requires.looked, c.requires.fresh)
    refl
    (freed-are p.head (world_of p) c.args.conn l c.args.table c.args.rid
    (c.release.ensures.lists (without_briefs hs c.args.conn (settled c.args.conn (Some n) hs)) (world_of p).waits
    (c.settle.ensures.lists hs (world_of p).waits c.in_ok-make_room.ensures.stands.parts.locks)))
    (limits-after p.locks c.settle.new.self l c.settle.ensures.limits c.release.ensures.limits) c.enter.ensures.wrote

pub returns-in_err-make_room-clause-full : goal.returns-in_err-make_room-clause-full
returns-in_err-make_room-clause-full c =
    let o = c.args.parts.now in
    λ e. bare-full o c.args.conn (Free c.args.table c.args.rid) c.requires.stands c.requires.open c.requires.conn
    (c.requires.runs, c.requires.looked, c.requires.fresh)
    refl (c.make_room.ensures.full (fault-was _ _ _ _ c.in_err-make_room.was c.from_residual.ensures.1 e))
