use Rattle.std.proofs.Common.{◌≡◌, ◌∙◌, ap, subst, sym, true}
use Rattle.iso_history.specs.Stops.{is_full}
use Rattle.iso_history.specs.declared.entry.Entry.{Entry}
use Rattle.iso_state.specs.Changes.{entered, relocked}
use Rattle.iso_state.specs.Stands.{content_of, world_of}
use Rattle.iso_state.proofs.ByKind.{bare-full, bare-place, fault-was}
use Rattle.iso_reads.proofs.NextSteps.{settled-now}
use Rattle.iso_reads.proofs.guarding.pass_by.Goals as goal

pub returns-clause-stands : goal.returns-clause-stands
returns-clause-stands c =
    let o = c.args.parts.now in
    let p = c.make_room.new.parts in
    let l = c.settle.new.self in
    bare-place o p c.enter.new.parts l c.args.conn c.args.entry.act c.in_ok-make_room.ensures.stands c.in_ok-make_room.ensures.same
    c.enter.ensures.spends c.requires.open c.requires.conn c.in_ok-make_room.ensures.ready c.requires.by c.requires.kind
    (settled-now (content_of o) (content_of p) c.args.conn c.args.entry.act l (world_of p).waits c.in_ok-make_room.ensures.same c.requires.leaves
    (c.settle.ensures.lists (world_of p).holds (world_of p).waits c.in_ok-make_room.ensures.stands.parts.locks))
    c.settle.ensures.limits
    (c.enter.ensures.wrote ∙ ap (λ (e : Entry). entered (relocked (content_of p) l) c.args.conn e) c.requires.maker)

pub returns-in_err-make_room-clause-full : goal.returns-in_err-make_room-clause-full
returns-in_err-make_room-clause-full c =
    let o = c.args.parts.now in
    λ e. subst (λ (x : Entry). is_full o.head (world_of o) x ≡ true) (sym c.requires.maker)
    (bare-full o c.args.conn c.args.entry.act c.requires.stands c.requires.open c.requires.conn c.requires.by c.requires.kind
    (c.make_room.ensures.full (fault-was _ _ _ _ c.in_err-make_room.was c.from_residual.ensures.1 e)))
