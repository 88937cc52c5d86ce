use Rattle.std.proofs.Common.{◌≡◌, ◌∙◌, ap, subst, sym, true}
use Rattle.iso_history.specs.Stops.{is_full}
use Rattle.iso_history.specs.declared.entry.Entry.{Entry}
use Rattle.iso_history.specs.Requests.Outcome.{Gives}
use Rattle.iso_history.specs.declared.entry.Got.{Got}
use Rattle.iso_locklist.specs.Lists.{asked_for}
use Rattle.iso_modes.specs.declared.Mode.TheVariants.{S}
use Rattle.iso_modes.specs.declared.Term.TheVariants.{Kept}
use Rattle.iso_state.specs.Changes.{entered, relocked}
use Rattle.iso_state.specs.Stands.{Content, content_of, world_of}
use Rattle.iso_state.proofs.ByKind.{bare-full, bare-place, fault-was, spends-after}
use Rattle.iso_reads.proofs.NextSteps.{placed-now, request-now}
use Rattle.iso_reads.proofs.guarding.take_key.Goals as goal

pub take-requires-clause-granted : goal.take-requires-clause-granted
take-requires-clause-granted c =
    request-now (content_of c.args.parts.now) (content_of c.make_room.new.parts) c.args.conn c.args.name.now (Gives Got.Granted)
    c.in_ok-make_room.ensures.same c.requires.granted

pub returns-clause-stands : goal.returns-clause-stands
returns-clause-stands c =
    let o = c.args.parts.now in
    let p = c.make_room.new.parts in
    let m = c.take.new.parts in
    let q = c.enter.new.parts in
    bare-place o p q m.locks c.args.conn c.args.entry.act c.in_ok-make_room.ensures.stands c.in_ok-make_room.ensures.same
    (spends-after p m q c.in_ok-take.ensures.room c.enter.ensures.spends) c.requires.open c.requires.conn c.in_ok-make_room.ensures.ready
    c.requires.by c.requires.kind
    (placed-now (content_of o) (content_of p) c.args.conn c.args.entry.act (asked_for c.args.name.now S Kept) m.locks (world_of p).waits
    c.in_ok-make_room.ensures.same c.requires.places c.in_ok-take.ensures.ok)
    c.in_ok-take.ensures.limits
    (c.enter.ensures.wrote ∙ ap (λ (x : Content). entered x c.args.conn c.args.entry) c.in_ok-take.ensures.content
    ∙ ap (λ (e : Entry). entered (relocked (content_of p) m.locks) c.args.conn e) c.requires.maker)

pub returns-in_err-make_room-clause-full : goal.returns-in_err-make_room-clause-full
returns-in_err-make_room-clause-full c =
    let o = c.args.parts.now in
    λ e. subst (λ (x : Entry). is_full o.head (world_of o) x ≡ true) (sym c.requires.maker)
    (bare-full o c.args.conn c.args.entry.act c.requires.stands c.requires.open c.requires.conn c.requires.by c.requires.kind
    (c.make_room.ensures.full (fault-was _ _ _ _ c.in_err-make_room.was c.from_residual.ensures.1 e)))
