use Rattle.std.proofs.Common.{◌≡◌, ◌<◌, ◌∙◌, ap, refl, subst, sym, false, length, ℕ, List, Option}
use Rattle.iso_chain.specs.Writes.{own_work}
use Rattle.iso_history.specs.After.{world}
use Rattle.iso_history.specs.Legal.{ByAgent, Runs}
use Rattle.iso_history.specs.Makers.{by_agent}
use Rattle.iso_history.specs.declared.entry.Act.TheVariants.{Back}
use Rattle.iso_uow.specs.Book.{Book}
use Rattle.iso_uow.specs.declared.units.Work.{Work}
use Rattle.iso_uow.specs.Savepoints.{down_to}
use Rattle.iso_state.specs.Changes.{entered, relocked, unclaimed}
use Rattle.iso_state.specs.Stands.{Content, content_of, desk_at, world_of}
use Rattle.iso_state.proofs.ByKind.{fault-was}
use Rattle.iso_ends.specs.Ends.{with_savepoints}
use Rattle.iso_ends.proofs.Places.{IsPlain, plain-full, plain-place}
use Rattle.iso_ends.proofs.Marking.{back-own, unit-there}
use Rattle.iso_ends.proofs.savepoints.go_back.Goals as goal

pub back-requires-clause-has_unit : goal.back-requires-clause-has_unit
back-requires-clause-has_unit c =
    let p = c.make_room.new.parts in
    let same = c.in_ok-make_room.ensures.same in
    let runs = subst (λ (x : Content). Runs (world x.head x.history) c.args.conn) (sym same) c.requires.runs in
    let lt = subst (λ (x : Content). c.args.conn.0 < length x.head.conns) (sym same) c.requires.conn in
    unit-there (content_of p) c.args.conn c.in_ok-make_room.ensures.stands.stands lt runs

pub returns-clause-stands : goal.returns-clause-stands
returns-clause-stands c =
    let p = c.make_room.new.parts in
    let q = c.enter.new.parts in
    let l = c.settle.new.self in
    let same = c.in_ok-make_room.ensures.same in
    let stands = c.in_ok-make_room.ensures.stands in
    let a = Back c.args.name in
    let runs = subst (λ (x : Content). Runs (world x.head x.history) c.args.conn) (sym same) c.requires.runs in
    let lt = subst (λ (x : Content). c.args.conn.0 < length x.head.conns) (sym same) c.requires.conn in
    let open_now = subst (λ (x : Content). (world x.head x.history).pace.finished ≡ false) (sym same) c.requires.open in
    let by : ByAgent p.head (world_of p) c.args.conn a = subst (λ (x : Content). ByAgent x.head (world x.head x.history) c.args.conn a) (sym same)
    (c.requires.runs, c.requires.there) in
    let plain : IsPlain (world_of p) c.args.conn a = record { more = refl; less = refl; refused = refl; unlogged = refl } in
    let k = content_of p in
    plain-place p c.args.conn a stands open_now lt by q
    (with_savepoints k.chain c.args.conn (down_to c.args.name (own_work k.chain c.args.conn).marks)) l (unclaimed (desk_at p.desks c.args.conn))
    plain c.in_ok-make_room.ensures.ready c.enter.ensures.spends
    (back-own k c.args.conn stands.stands lt runs c.args.name l c.settle.ensures.limits
    (c.settle.ensures.lists (world_of p).holds (world_of p).waits stands.parts.locks))
    (c.enter.ensures.wrote
    ∙ ap (λ (b : Book). entered (relocked (record k { chain = record k.chain { book = b } }) l) c.args.conn (by_agent c.args.conn a))
    (ap (λ (n : ℕ). record { begun = n; works = c.back.new.self.works }) c.back.ensures.begun
    ∙ ap (λ (ws : List (Option Work)). record { begun = p.units.begun; works = ws }) c.back.ensures.works))

pub returns-in_err-make_room-clause-full : goal.returns-in_err-make_room-clause-full
returns-in_err-make_room-clause-full c =
    let o = c.args.parts.now in
    let a = Back c.args.name in
    let by : ByAgent o.head (world_of o) c.args.conn a = (c.requires.runs, c.requires.there) in
    let plain : IsPlain (world_of o) c.args.conn a = record { more = refl; less = refl; refused = refl; unlogged = refl } in
    λ e. plain-full o c.args.conn a c.requires.stands c.requires.open c.requires.conn by plain
    (c.make_room.ensures.full (fault-was _ _ _ _ c.in_err-make_room.was c.from_residual.ensures.1 e))
