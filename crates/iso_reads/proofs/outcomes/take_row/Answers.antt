use Rattle.std.proofs.Common.{◌∙◌, ap, refl, true}
use Rattle.iso_history.specs.Requests.{request}
use Rattle.iso_history.specs.Requests.Outcome.{Gives}
use Rattle.iso_history.specs.declared.entry.Act.TheVariants.{Look}
use Rattle.iso_history.specs.declared.entry.Entry.{Entry}
use Rattle.iso_history.specs.declared.entry.Got.{Got}
use Rattle.iso_types.specs.declared.value.Name.TheVariants.{Row}
use Rattle.iso_state.specs.Changes.{entered, relocked}
use Rattle.iso_state.specs.Stands.{Content, content_of, world_of}
use Rattle.iso_state.proofs.ByKind.{bare-full, bare-place, fault-was, spends-after}
use Rattle.iso_reads.proofs.LookSteps.{look-now, looked-by, places-now, taken-are, taken-asks}
use Rattle.iso_reads.proofs.outcomes.take_row.Goals as goal

pub take-requires-clause-granted : goal.take-requires-clause-granted
take-requires-clause-granted c =
    let o = c.args.parts.now in
    let p = c.make_room.new.parts in
    ap (request p.head (world_of p) c.args.conn (Row c.args.table c.args.rid)) c.mode_of.ensures
    ∙ taken-asks p.head (world_of p) c.args.conn c.args.table c.args.rid c.args.want
    (places-now (content_of o) (content_of p) c.args.table c.args.rid c.args.want true c.in_ok-make_room.ensures.same c.requires.places)
    (look-now (content_of o) (content_of p) c.args.conn c.args.table c.args.rid c.args.want (Gives Got.Granted) c.in_ok-make_room.ensures.same c.requires.outcome)

pub returns-clause-stands : goal.returns-clause-stands
returns-clause-stands c =
    let o = c.args.parts.now in
    let p = c.make_room.new.parts in
    let m = c.take.new.parts in
    let q = c.enter.new.parts in
    bare-place o p q m.locks c.args.conn (Look c.args.table c.args.rid c.args.want Got.Granted) c.in_ok-make_room.ensures.stands c.in_ok-make_room.ensures.same
    (spends-after p m q c.in_ok-take.ensures.room c.enter.ensures.spends) c.requires.open c.requires.conn c.in_ok-make_room.ensures.ready
    (looked-by o.head (world_of o) c.args.conn c.args.table c.args.rid c.args.want Got.Granted c.requires.runs c.requires.may c.requires.outcome)
    refl
    (taken-are p.head (world_of p) m.locks c.args.conn c.args.table c.args.rid c.args.want c.mode_of.result c.term_of.result c.has_claimed-claimed.result
    (places-now (content_of o) (content_of p) c.args.table c.args.rid c.args.want true c.in_ok-make_room.ensures.same c.requires.places)
    c.mode_of.ensures c.term_of.ensures c.has_claimed-claimed.ensures c.in_ok-take.ensures.ok)
    c.in_ok-take.ensures.limits
    (c.enter.ensures.wrote ∙ ap (λ (x : Content). entered x c.args.conn c.look_entry.result) c.in_ok-take.ensures.content
    ∙ ap (λ (e : Entry). entered (relocked (content_of p) m.locks) c.args.conn e) c.look_entry.ensures)

pub returns-in_err-make_room-clause-full : goal.returns-in_err-make_room-clause-full
returns-in_err-make_room-clause-full c =
    let o = c.args.parts.now in
    λ e. bare-full o c.args.conn (Look c.args.table c.args.rid c.args.want Got.Granted) c.requires.stands c.requires.open c.requires.conn
    (looked-by o.head (world_of o) c.args.conn c.args.table c.args.rid c.args.want Got.Granted c.requires.runs c.requires.may c.requires.outcome)
    refl (c.make_room.ensures.full (fault-was _ _ _ _ c.in_err-make_room.was c.from_residual.ensures.1 e))
