use Rattle.std.proofs.Common.{arith}
use Rattle.iso_state.specs.Stands.{content_of, world_of}
use Rattle.iso_state.proofs.ByKind.{fault-was}
use Rattle.iso_pace.proofs.Dispatches.{MayBegin, begin-full, more-some, resumed}
use Rattle.iso_pace.proofs.dispatching.resume.Goals as goal

pub returns-clause-stands : goal.returns-clause-stands
returns-clause-stands c =
    let o = c.args.parts.now in
    let may : MayBegin (content_of o) c.args.conn = record {
      free = c.requires.open;
      may = c.requires.may;
      going = c.requires.going;
      within = c.requires.conn;
      idle = c.requires.idle;
    } in
    resumed o c.make_room.new.parts c.run.new.parts c.args.line c.args.conn c.in_ok-make_room.ensures.stands c.in_ok-make_room.ensures.same
    c.in_ok-make_room.ensures.ready c.run.ensures.spends may c.requires.unit c.run.ensures.wrote

pub returns-in_err-make_room-clause-full : goal.returns-in_err-make_room-clause-full
returns-in_err-make_room-clause-full c =
    let o = c.args.parts.now in
    let may : MayBegin (content_of o) c.args.conn = record {
      free = c.requires.open;
      may = c.requires.may;
      going = c.requires.going;
      within = c.requires.conn;
      idle = c.requires.idle;
    } in
    let none = more-some (world_of o) c.args.line c.args.conn c.requires.unit in
    λ e. begin-full (content_of o) c.args.line c.args.conn 1 c.requires.stands.stands may (omega (arith, none))
    (c.make_room.ensures.full (fault-was _ _ _ _ c.in_err-make_room.was c.from_residual.ensures.1 e))
