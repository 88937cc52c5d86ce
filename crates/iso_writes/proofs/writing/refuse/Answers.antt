use Rattle.std.proofs.Common.{◌≡◌, ◌∙◌, ap, refl, rules, ℤ, w32, to_z, of_z}
use Rattle.iso_history.specs.Makers.{by_agent}
use Rattle.iso_history.specs.declared.entry.Act.TheVariants.{Refused}
use Rattle.iso_history.specs.declared.entry.Entry.{Entry}
use Rattle.iso_state.specs.Changes.{entered, relocked}
use Rattle.iso_state.specs.Stands.{content_of, world_of}
use Rattle.iso_state.proofs.ByKind.{bare-full, bare-place, fault-was}
use Rattle.iso_writes.proofs.writing.refuse.Goals as goal

pub returns-clause-stands : goal.returns-clause-stands
returns-clause-stands c =
    let back : to_z w32 (of_z w32 c.args.code) ≡ c.args.code = search rules in
    let o = c.args.parts.now in
    let p = c.make_room.new.parts in
    let l = c.settle.new.self in
    bare-place o p c.enter.new.parts l c.args.conn (Refused c.args.code) c.in_ok-make_room.ensures.stands c.in_ok-make_room.ensures.same
    c.enter.ensures.spends c.requires.open c.requires.conn c.in_ok-make_room.ensures.ready (c.requires.runs, c.requires.may) refl
    (c.settle.ensures.lists (world_of p).holds (world_of p).waits c.in_ok-make_room.ensures.stands.parts.locks)
    c.settle.ensures.limits
    (c.enter.ensures.wrote ∙ ap (λ (e : Entry). entered (relocked (content_of p) l) c.args.conn e) c.refusal.ensures
    ∙ ap (λ (z : ℤ). entered (relocked (content_of p) l) c.args.conn (by_agent c.args.conn (Refused z))) back)

pub returns-in_err-make_room-clause-full : goal.returns-in_err-make_room-clause-full
returns-in_err-make_room-clause-full c =
    let o = c.args.parts.now in
    λ e. bare-full o c.args.conn (Refused c.args.code) c.requires.stands c.requires.open c.requires.conn (c.requires.runs, c.requires.may) refl
    (c.make_room.ensures.full (fault-was _ _ _ _ c.in_err-make_room.was c.from_residual.ensures.1 e))
