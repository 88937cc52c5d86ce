use Rattle.std.proofs.Common.{◌∙◌, ap, false}
use Rattle.iso_history.specs.declared.entry.Act.TheVariants.{Snapshot}
use Rattle.iso_history.specs.declared.entry.Entry.{Entry}
use Rattle.iso_history.specs.Makers.{by_dispatcher}
use Rattle.iso_queue.specs.Snapshots.{snapshot}
use Rattle.iso_queue.specs.declared.LockLine.{LockLine}
use Rattle.std.specs.Prelude.{List}
use Rattle.iso_state.specs.Changes.{noted, repaced}
use Rattle.iso_state.specs.Stands.{content_of, pace_of, world_of}
use Rattle.iso_state.proofs.ByKind.{fault-was}
use Rattle.iso_pace.proofs.Stills.{made-still, may-take, snapshot-still, still-full}
use Rattle.iso_pace.proofs.lines.show.Goals as goal
use Rattle.std.proofs.Common.{refl}

pub returns-clause-stands : goal.returns-clause-stands
returns-clause-stands c =
    let o = c.args.parts.now in
    let p = c.make_room.new.parts in
    let ls = snapshot o.head (world_of o).holds (world_of o).waits in
    made-still o p c.mark.new.parts (Snapshot c.args.line ls) c.in_ok-make_room.ensures.stands c.in_ok-make_room.ensures.same c.in_ok-make_room.ensures.ready
    c.mark.ensures.spends c.requires.open
    (c.requires.quiet, may-take o.head (world_of o) c.requires.may c.requires.going, refl)
    (snapshot-still o.head (world_of o) c.args.line ls)
    (c.mark.ensures.wrote ∙ ap (λ (e : Entry). repaced (noted (content_of p) e) (record (pace_of p.pace) { purged = false }))
    (c.of_dispatcher.ensures ∙ ap (λ (x : List LockLine). by_dispatcher (Snapshot c.args.line x)) c.requires.locks))

pub returns-in_err-make_room-clause-full : goal.returns-in_err-make_room-clause-full
returns-in_err-make_room-clause-full c =
    let o = c.args.parts.now in
    let ls = snapshot o.head (world_of o).holds (world_of o).waits in
    λ e. still-full o (Snapshot c.args.line ls) c.requires.stands c.requires.open
    (c.requires.quiet, may-take o.head (world_of o) c.requires.may c.requires.going, refl)
    (snapshot-still o.head (world_of o) c.args.line ls)
    (c.make_room.ensures.full (fault-was _ _ _ _ c.in_err-make_room.was c.from_residual.ensures.1 e))
