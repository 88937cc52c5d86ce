use Rattle.std.proofs.Common.{arith}
use Rattle.iso_state.specs.Stands.{content_of, world_of}
use Rattle.iso_state.proofs.ByKind.{fault-was}
use Rattle.iso_state.proofs.FactsAlong.{entries-small}
use Rattle.iso_pace.proofs.Begins.{begun-few}
use Rattle.iso_pace.proofs.Dispatches.{MayBegin, begin-full, begun, more-none}
use Rattle.iso_pace.proofs.dispatching.begin.Goals as goal

pub begin-requires-clause-few : goal.begin-requires-clause-few
begin-requires-clause-few c =
    let p = c.make_room.new.parts in
    let s = c.in_ok-make_room.ensures.stands.stands in
    let is = s.parts.chain.begun in
    let few = begun-few p.head p.history.items s.ground in
    let small = entries-small s in
    omega (arith, is, few, small)

pub returns-clause-stands : goal.returns-clause-stands
returns-clause-stands c =
    let o = c.args.parts.now in
    let may : MayBegin (content_of o) c.args.conn = record {
      free = c.requires.open;
      may = c.requires.may;
      going = c.requires.going;
      within = c.requires.conn;
      idle = c.requires.idle;
    } in
    begun o c.make_room.new.parts c.run.new.parts c.args.line c.args.conn c.in_ok-make_room.ensures.stands c.in_ok-make_room.ensures.same
    c.in_ok-make_room.ensures.ready c.run.ensures.spends may c.requires.none c.begin.new.self c.begin.ensures.begun c.begin.ensures.works
    c.run.ensures.wrote

pub returns-in_err-make_room-clause-full : goal.returns-in_err-make_room-clause-full
returns-in_err-make_room-clause-full c =
    let o = c.args.parts.now in
    let may : MayBegin (content_of o) c.args.conn = record {
      free = c.requires.open;
      may = c.requires.may;
      going = c.requires.going;
      within = c.requires.conn;
      idle = c.requires.idle;
    } in
    let two = more-none (world_of o) c.args.line c.args.conn c.requires.none in
    λ e. begin-full (content_of o) c.args.line c.args.conn 3 c.requires.stands.stands may (omega (arith, two))
    (c.make_room.ensures.full (fault-was _ _ _ _ c.in_err-make_room.was c.from_residual.ensures.1 e))
