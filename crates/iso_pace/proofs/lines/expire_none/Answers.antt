use Rattle.std.proofs.Common.{◌∙◌, ap, sym, false}
use Rattle.iso_history.specs.declared.entry.Act.TheVariants.{Expire}
use Rattle.iso_history.specs.declared.entry.Entry.{Entry}
use Rattle.iso_state.specs.Changes.{noted, repaced}
use Rattle.iso_state.specs.Stands.{content_of, pace_of, world_of}
use Rattle.iso_state.proofs.ByKind.{fault-was}
use Rattle.iso_state.proofs.Steps.{conn-is}
use Rattle.iso_pace.proofs.Stills.{vain-still, made-still, may-take, still-full}
use Rattle.iso_pace.proofs.lines.expire_none.Goals as goal

pub returns-clause-stands : goal.returns-clause-stands
returns-clause-stands c =
    let o = c.args.parts.now in
    let p = c.make_room.new.parts in
    made-still o p c.mark.new.parts (Expire c.args.line c.args.conn false) c.in_ok-make_room.ensures.stands c.in_ok-make_room.ensures.same c.in_ok-make_room.ensures.ready
    c.mark.ensures.spends c.requires.open
    (conn-is o.head c.args.conn c.requires.conn, c.requires.quiet, may-take o.head (world_of o) c.requires.may c.requires.going, sym c.requires.vain)
    (vain-still o.head (world_of o) c.args.line c.args.conn)
    (c.mark.ensures.wrote ∙ ap (λ (e : Entry). repaced (noted (content_of p) e) (record (pace_of p.pace) { purged = false })) c.of_dispatcher.ensures)

pub returns-in_err-make_room-clause-full : goal.returns-in_err-make_room-clause-full
returns-in_err-make_room-clause-full c =
    let o = c.args.parts.now in
    λ e. still-full o (Expire c.args.line c.args.conn false) c.requires.stands c.requires.open
    (conn-is o.head c.args.conn c.requires.conn, c.requires.quiet, may-take o.head (world_of o) c.requires.may c.requires.going, sym c.requires.vain)
    (vain-still o.head (world_of o) c.args.line c.args.conn)
    (c.make_room.ensures.full (fault-was _ _ _ _ c.in_err-make_room.was c.from_residual.ensures.1 e))
