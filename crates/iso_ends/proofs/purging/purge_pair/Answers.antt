use Rattle.std.proofs.Common.{◌≡◌, ◌∙◌, ap, sym, subst, true, false, Some, List}
use Rattle.iso_history.specs.After.{world}
use Rattle.iso_history.specs.Entries.{least_purgeable}
use Rattle.iso_history.specs.Makers.{by_dispatcher}
use Rattle.iso_history.specs.declared.entry.Act.TheVariants.{Purge}
use Rattle.iso_state.proofs.ByKind.{fault-was}
use Rattle.iso_state.specs.Changes.{noted}
use Rattle.iso_state.specs.Stands.{Content, content_of}
use Rattle.iso_types.specs.declared.value.Rid.{Rid}
use Rattle.iso_types.specs.declared.value.Value.{Value}
use Rattle.iso_ends.proofs.PurgeSteps.{index-there, purge-full, purge-place}
use Rattle.iso_ends.proofs.purging.purge_pair.Goals as goal

pub returns-in_err-make_room-clause-full : goal.returns-in_err-make_room-clause-full
returns-in_err-make_room-clause-full c =
    let o = c.args.parts.now in
    λ e. purge-full (content_of o) c.args.index c.args.key.now c.args.rid c.requires.stands.stands c.requires.open c.requires.going c.requires.calm c.requires.least
    (c.make_room.ensures.full (fault-was _ _ _ _ c.in_err-make_room.was c.from_residual.ensures.1 e))

pub take_off-requires : goal.take_off-requires
take_off-requires c =
    let p = c.make_room.new.parts in
    let x : Value × Rid = (c.args.key.now, c.args.rid) in
    index-there p c.in_ok-make_room.ensures.stands c.args.index x
    (subst (λ (y : Content). least_purgeable y.head (world y.head y.history) ≡ Some (c.args.index, x)) (sym c.in_ok-make_room.ensures.same) c.requires.least)

pub returns-clause-stands : goal.returns-clause-stands
returns-clause-stands c =
    let p = c.make_room.new.parts in
    let q = c.note.new.parts in
    let x : Value × Rid = (c.args.key.now, c.args.rid) in
    let same = sym c.in_ok-make_room.ensures.same in
    purge-place p q c.args.index c.args.key.now c.args.rid c.in_ok-make_room.ensures.stands c.in_ok-make_room.ensures.ready c.note.ensures.spends
    (subst (λ (y : Content). (world y.head y.history).pace.finished ≡ false) same c.requires.open)
    (subst (λ (y : Content). (world y.head y.history).pace.stopped ≡ false) same c.requires.going)
    (subst (λ (y : Content). (world y.head y.history).pace.purged ≡ false) same c.requires.calm)
    (subst (λ (y : Content). least_purgeable y.head (world y.head y.history) ≡ Some (c.args.index, x)) same c.requires.least)
    (c.note.ensures.wrote
    ∙ ap (λ (es : List (List (Value × Rid))). noted (record (content_of p) { entries = es; pace = record (content_of p).pace { purged = true } })
    (by_dispatcher (Purge c.args.index c.args.key.now c.args.rid))) c.take_off.ensures)
