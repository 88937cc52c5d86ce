use Rattle.std.proofs.Common.{arith}
use Rattle.std.proofs.lemmas.List.{length-map}
use Rattle.iso_ends.proofs.Undoes.{take-asks, take-room}
use Rattle.iso_state.specs.Stands.{content_of}
use Rattle.iso_ends.proofs.undoing.write_undo.Goals as goal

pub take_back-requires-clause-has_unit : goal.take_back-requires-clause-has_unit
take_back-requires-clause-has_unit c =
    (take-asks (content_of c.args.parts.now) c.args.conn c.args.number c.requires.stands.stands c.requires.conn c.requires.last).has_unit

pub take_back-requires-clause-some : goal.take_back-requires-clause-some
take_back-requires-clause-some c =
    (take-asks (content_of c.args.parts.now) c.args.conn c.args.number c.requires.stands.stands c.requires.conn c.requires.last).some

pub take_back-requires-clause-number : goal.take_back-requires-clause-number
take_back-requires-clause-number c =
    (take-asks (content_of c.args.parts.now) c.args.conn c.args.number c.requires.stands.stands c.requires.conn c.requires.last).number

pub take_back-requires-clause-table : goal.take_back-requires-clause-table
take_back-requires-clause-table c =
    let k = (take-asks (content_of c.args.parts.now) c.args.conn c.args.number c.requires.stands.stands c.requires.conn c.requires.last).table in
    let same = length-map c.args.parts.now.tables (λ x. x.items) in
    omega (arith, k, same)

pub take_back-requires-clause-rid : goal.take_back-requires-clause-rid
take_back-requires-clause-rid c =
    (take-asks (content_of c.args.parts.now) c.args.conn c.args.number c.requires.stands.stands c.requires.conn c.requires.last).rid

pub take_back-requires-clause-columns : goal.take_back-requires-clause-columns
take_back-requires-clause-columns c =
    (take-asks (content_of c.args.parts.now) c.args.conn c.args.number c.requires.stands.stands c.requires.conn c.requires.last).columns

pub take_back-requires-clause-room : goal.take_back-requires-clause-room
take_back-requires-clause-room c =
    take-room (content_of c.args.parts.now) c.args.conn c.args.number c.requires.stands.stands c.requires.conn c.requires.last c.args.parts.now.log.spare
    c.requires.stands.room.for_debt
