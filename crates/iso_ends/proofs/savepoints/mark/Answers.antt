use Rattle.std.proofs.Common.{◌≡◌, ◌<◌, ◌∙◌, ap, refl, subst, sym, false, length}
use Rattle.iso_chain.specs.Writes.{own_work}
use Rattle.iso_history.specs.After.{world}
use Rattle.iso_history.specs.Legal.{Runs}
use Rattle.iso_history.specs.Makers.{by_agent}
use Rattle.iso_history.specs.declared.entry.Act.TheVariants.{Mark}
use Rattle.iso_locklist.specs.Holding.{LocksAre}
use Rattle.iso_locklist.specs.Places.{IsSameLimits, Ledger}
use Rattle.iso_uow.specs.Savepoints.{set_again}
use Rattle.iso_state.specs.Changes.{entered, relocked, unclaimed}
use Rattle.iso_state.specs.Stands.{Content, content_of, desk_at, world_of}
use Rattle.iso_state.proofs.ByKind.{fault-was, spends-after}
use Rattle.iso_ends.specs.Ends.{with_savepoints}
use Rattle.iso_ends.proofs.Places.{IsPlain, plain-full, plain-place}
use Rattle.iso_ends.proofs.Marking.{mark-own}
use Rattle.iso_ends.proofs.savepoints.mark.Goals as goal

pub returns-clause-stands : goal.returns-clause-stands
returns-clause-stands c =
    let p = c.make_room.new.parts in
    let m = c.write_mark.new.parts in
    let q = c.enter.new.parts in
    let l = c.settle.new.self in
    let same = c.in_ok-make_room.ensures.same in
    let stands = c.in_ok-make_room.ensures.stands in
    let a = Mark c.args.name in
    let runs = subst (λ (x : Content). Runs (world x.head x.history) c.args.conn) (sym same) c.requires.runs in
    let lt = subst (λ (x : Content). c.args.conn.0 < length x.head.conns) (sym same) c.requires.conn in
    let open_now = subst (λ (x : Content). (world x.head x.history).pace.finished ≡ false) (sym same) c.requires.open in
    let plain : IsPlain (world_of p) c.args.conn a = record { more = refl; less = refl; refused = refl; unlogged = refl } in
    let wrote = c.in_ok-write_mark.ensures.ok in
    let locks : m.locks ≡ p.locks = ap (λ (x : Content). x.locks) wrote in
    let k = content_of p in
    plain-place p c.args.conn a stands open_now lt runs q
    (with_savepoints k.chain c.args.conn (set_again (own_work k.chain c.args.conn).marks c.args.name (length k.chain.log))) l (unclaimed (desk_at p.desks c.args.conn))
    plain c.in_ok-make_room.ensures.ready (spends-after p m q c.in_ok-write_mark.ensures.room c.enter.ensures.spends)
    (mark-own k c.args.conn stands.stands lt runs c.args.name l
    (subst (λ (x : Ledger). IsSameLimits l x) locks c.settle.ensures.limits)
    (c.settle.ensures.lists (world_of p).holds (world_of p).waits
    (subst (λ (x : Ledger). LocksAre (world_of p).holds (world_of p).waits x) (sym locks) stands.parts.locks)))
    (c.enter.ensures.wrote ∙ ap (λ (x : Content). entered (relocked x l) c.args.conn (by_agent c.args.conn a)) wrote)

pub returns-in_err-make_room-clause-full : goal.returns-in_err-make_room-clause-full
returns-in_err-make_room-clause-full c =
    let o = c.args.parts.now in
    let a = Mark c.args.name in
    let plain : IsPlain (world_of o) c.args.conn a = record { more = refl; less = refl; refused = refl; unlogged = refl } in
    λ e. plain-full o c.args.conn a c.requires.stands c.requires.open c.requires.conn c.requires.runs plain
    (c.make_room.ensures.full (fault-was _ _ _ _ c.in_err-make_room.was c.from_residual.ensures.1 e))
