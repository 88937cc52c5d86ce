use Rattle.std.proofs.Common.{◌≡◌, ◌+◌, ◌∙◌, ap, arith, refl, sym, subst, None}
use Rattle.std.proofs.Math.ListN.{length-set}
use Rattle.iso_chain.proofs.Carries.{one-row}
use Rattle.iso_chain.proofs.Kept.{may-delete}
use Rattle.iso_chain.proofs.Write.{delete-chained}
use Rattle.iso_chain.specs.Writes.{written}
use Rattle.iso_history.specs.Legal.{ByAgent}
use Rattle.iso_history.specs.Makers.{by_agent}
use Rattle.iso_history.specs.declared.entry.Act.TheVariants.{Delete}
use Rattle.iso_locklist.specs.Holding.{LocksAre}
use Rattle.iso_locklist.specs.Places.{IsSameLimits, Ledger}
use Rattle.iso_state.proofs.ByKind.{fault-was}
use Rattle.iso_state.proofs.FactsAlong.{kept-of, log_sound-of, sound-of, work-there}
use Rattle.iso_state.specs.Changes.{entered}
use Rattle.iso_state.specs.Stands.{Content, content_of, world_of}
use Rattle.iso_writes.proofs.ChangeSteps.{change-allowed, change-full, change-place, lt-now}
use Rattle.iso_writes.proofs.writing.make_delete.Goals as goal

pub returns-clause-stands : goal.returns-clause-stands
returns-clause-stands c =
    let o = c.args.parts.now in
    let p = c.make_room.new.parts in
    let m = c.write_deleted.new.parts in
    let l = c.settle.new.self in
    let q = c.enter.new.parts in
    let a = Delete c.args.table c.args.rid in
    let s = c.in_ok-make_room.ensures.stands in
    let same = c.in_ok-make_room.ensures.same in
    let by : ByAgent o.head (world_of o) c.args.conn a = (c.requires.runs, c.requires.may, c.requires.outcome) in
    let k = written (content_of p).chain c.args.conn c.args.table c.args.rid None in
    let wrote = c.in_ok-write_deleted.ensures.wrote in
    let locks : m.locks ≡ p.locks = ap (λ (x : Content). x.locks) wrote in
    let room = c.in_ok-write_deleted.ensures.room in
    let spends = c.enter.ensures.spends in
    let lt = lt-now o p q k l c.args.conn a s same c.requires.open c.requires.conn c.in_ok-make_room.ensures.ready by refl in
    let al = change-allowed o p q k l c.args.conn a s same c.requires.open c.requires.conn c.in_ok-make_room.ensures.ready by refl in
    change-place o p q k l c.args.conn a s same c.requires.open c.requires.conn c.in_ok-make_room.ensures.ready by refl
    (content_of p).entries (omega (arith, room.history, spends.history)) (omega (arith, room.log, spends.log))
    (delete-chained p.head (world_of p) (content_of p).chain c.args.conn c.args.table c.args.rid s.parts.chain (kept-of s.stands)
    (work-there s.stands c.args.conn lt) (may-delete p.head (world_of p) (sound-of s.stands) c.args.conn c.args.table c.args.rid (log_sound-of s.stands) al))
    (one-row p.log.records _ a refl) (length-set p.units.works c.args.conn.0 _) (sym s.parts.entries)
    (c.settle.ensures.lists (world_of p).holds (world_of p).waits
    (subst (λ (x : Ledger). LocksAre (world_of p).holds (world_of p).waits x) (sym locks) s.parts.locks))
    (subst (λ (x : Ledger). IsSameLimits l x) locks c.settle.ensures.limits)
    (c.enter.ensures.wrote
    ∙ ap (λ (x : Content). entered (record x { locks = l; reserved = x.reserved + 1 }) c.args.conn (by_agent c.args.conn a)) wrote)

pub returns-in_err-make_room-clause-full : goal.returns-in_err-make_room-clause-full
returns-in_err-make_room-clause-full c =
    let o = c.args.parts.now in
    λ e. change-full o c.args.conn (Delete c.args.table c.args.rid) c.requires.stands c.requires.open c.requires.conn
    (c.requires.runs, c.requires.may, c.requires.outcome) refl
    (c.make_room.ensures.full (fault-was _ _ _ _ c.in_err-make_room.was c.from_residual.ensures.1 e))
