use Rattle.std.proofs.Common.{◌∙◌, ap, refl}
use Rattle.iso_history.specs.declared.entry.Act.TheVariants.{Lock}
use Rattle.iso_history.specs.declared.entry.Entry.{Entry}
use Rattle.iso_history.specs.declared.entry.Got.{Got}
use Rattle.iso_modes.specs.declared.Term.TheVariants.{Kept}
use Rattle.iso_state.specs.Changes.{entered, relocked}
use Rattle.iso_state.specs.Stands.{Content, content_of}
use Rattle.iso_state.proofs.ByKind.{bare-full, bare-place, fault-was, spends-after}
use Rattle.iso_locks.proofs.locking.grant.Goals as goal

pub returns-clause-stands : goal.returns-clause-stands
returns-clause-stands c =
    let o = c.args.parts.now in
    let p = c.make_room.new.parts in
    let m = c.take.new.parts in
    let q = c.enter.new.parts in
    let a = Lock c.args.name.now c.args.mode Kept c.args.why Got.Granted in
    bare-place o p q m.locks c.args.conn a c.in_ok-make_room.ensures.stands c.in_ok-make_room.ensures.same
    (spends-after p m q c.in_ok-take.ensures.room c.enter.ensures.spends) c.requires.open c.requires.conn c.in_ok-make_room.ensures.ready
    (c.requires.runs, c.requires.by)
    refl c.in_ok-take.ensures.ok c.in_ok-take.ensures.limits
    (c.enter.ensures.wrote ∙ ap (λ (x : Content). entered x c.args.conn c.locked.result) c.in_ok-take.ensures.content
    ∙ ap (λ (e : Entry). entered (relocked (content_of p) m.locks) c.args.conn e) c.locked.ensures)

pub returns-in_err-make_room-clause-full : goal.returns-in_err-make_room-clause-full
returns-in_err-make_room-clause-full c =
    let o = c.args.parts.now in
    λ e. bare-full o c.args.conn (Lock c.args.name.now c.args.mode Kept c.args.why Got.Granted) c.requires.stands c.requires.open c.requires.conn
    (c.requires.runs, c.requires.by)
    refl (c.make_room.ensures.full (fault-was _ _ _ _ c.in_err-make_room.was c.from_residual.ensures.1 e))
