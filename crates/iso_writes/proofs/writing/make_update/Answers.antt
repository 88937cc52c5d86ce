use Rattle.std.proofs.Common.{◌≡◌, ◌<◌, ◌+◌, ◌∙◌, List, ap, length, sym, subst, true, refl}
use Rattle.iso_history.specs.After.{world}
use Rattle.iso_history.specs.Legal.{ByAgent}
use Rattle.iso_history.specs.Makers.{by_agent}
use Rattle.iso_history.specs.Phases.{phase}
use Rattle.iso_history.specs.Writes.{may_change}
use Rattle.iso_history.specs.declared.entry.Act.TheVariants.{Update}
use Rattle.iso_locklist.specs.Holding.{AreNew}
use Rattle.iso_locklist.specs.declared.places.Asking.{Asking}
use Rattle.iso_state.proofs.ByKind.{fault-was, same-place}
use Rattle.iso_state.specs.Changes.{entered}
use Rattle.iso_state.specs.Stands.{Content, content_of, world_of}
use Rattle.iso_types.specs.Head.{row_fits}
use Rattle.iso_types.specs.declared.desk.Phase.TheVariants.{Running}
use Rattle.iso_types.specs.declared.value.Value.{Value}
use Rattle.iso_writes.proofs.ChangeSteps.{change-full}
use Rattle.iso_writes.proofs.RowSteps.{AreTaken, idle-of, indexes-there, update-new, update-place, update-told}
use Rattle.iso_writes.proofs.SameLocks.{on-fault}
use Rattle.iso_writes.proofs.Writable.{may-record, may-write}
use Rattle.iso_writes.proofs.writing.make_update.Goals as goal

pub returns-in_err-make_room-clause-full : goal.returns-in_err-make_room-clause-full
returns-in_err-make_room-clause-full c =
    let o = c.args.parts.now in
    λ e. change-full o c.args.conn (Update c.args.table c.args.rid c.args.row.now) c.requires.stands c.requires.open c.requires.conn
    (c.requires.runs, c.requires.may, c.requires.row, c.requires.outcome) refl
    (c.make_room.ensures.full (fault-was _ _ _ _ c.in_err-make_room.was c.from_residual.ensures.1 e))

pub write_locked-requires-clause-indexes : goal.write_locked-requires-clause-indexes
write_locked-requires-clause-indexes c = indexes-there c.make_room.new.parts c.in_ok-make_room.ensures.stands

pub write_locked-requires-clause-may : goal.write_locked-requires-clause-may
write_locked-requires-clause-may c =
    let same = sym c.in_ok-make_room.ensures.same in
    may-record (content_of c.make_room.new.parts) c.in_ok-make_room.ensures.stands.stands c.args.conn c.args.table c.args.row.now
    (subst (λ (x : Content). c.args.conn.0 < length x.head.conns) same c.requires.conn)
    (subst (λ (x : Content). phase (world x.head x.history) c.args.conn ≡ Running) same c.requires.runs.0)
    (subst (λ (x : Content). row_fits x.head c.args.table c.args.row.now ≡ true) same c.requires.row)

pub write_locked-requires-clause-slot : goal.write_locked-requires-clause-slot
write_locked-requires-clause-slot c =
    let same = sym c.in_ok-make_room.ensures.same in
    may-write (content_of c.make_room.new.parts) c.in_ok-make_room.ensures.stands.stands c.args.conn c.args.table c.args.rid c.args.row.now
    (subst (λ (x : Content). may_change x.head (world x.head x.history) c.args.conn c.args.table c.args.rid ≡ true) same c.requires.may)
    (subst (λ (x : Content). row_fits x.head c.args.table c.args.row.now ≡ true) same c.requires.row)

pub returns-in_err-write_locked-clause-err : goal.returns-in_err-write_locked-clause-err
returns-in_err-write_locked-clause-err c =
    let p = c.make_room.new.parts in
    let same = c.in_ok-make_room.ensures.same in
    let runs = subst (λ (x : Content). phase (world x.head x.history) c.args.conn ≡ Running) (sym same) c.requires.runs.0 in
    let asks = c.as_slice.ensures ∙ c.in_ok-asks.ensures.asks in
    on-fault c.from_residual-in_err-write_locked.result
    (update-told p c.args.conn c.args.table c.args.row.now _ (content_of c.write_locked.new.parts ≡ content_of p)
    c.in_ok-make_room.ensures.stands runs asks c.in_err-write_locked.ensures.err
    ∙ same)

pub returns-in_err-write_locked-clause-head : goal.returns-in_err-write_locked-clause-head
returns-in_err-write_locked-clause-head c =
    let p = c.make_room.new.parts in
    let same = c.in_ok-make_room.ensures.same in
    let runs = subst (λ (x : Content). phase (world x.head x.history) c.args.conn ≡ Running) (sym same) c.requires.runs.0 in
    let asks = c.as_slice.ensures ∙ c.in_ok-asks.ensures.asks in
    ap (λ (x : Content). x.head)
    (update-told p c.args.conn c.args.table c.args.row.now _ (content_of c.write_locked.new.parts ≡ content_of p)
    c.in_ok-make_room.ensures.stands runs asks c.in_err-write_locked.ensures.err
    ∙ same)

pub returns-in_err-write_locked-clause-stands : goal.returns-in_err-write_locked-clause-stands
returns-in_err-write_locked-clause-stands c =
    let p = c.make_room.new.parts in
    let same = c.in_ok-make_room.ensures.same in
    let runs = subst (λ (x : Content). phase (world x.head x.history) c.args.conn ≡ Running) (sym same) c.requires.runs.0 in
    let asks = c.as_slice.ensures ∙ c.in_ok-asks.ensures.asks in
    same-place p c.write_locked.new.parts c.in_ok-make_room.ensures.stands
    (update-told p c.args.conn c.args.table c.args.row.now _ (content_of c.write_locked.new.parts ≡ content_of p)
    c.in_ok-make_room.ensures.stands runs asks c.in_err-write_locked.ensures.err)
    c.in_err-write_locked.ensures.kept

pub returns-clause-stands : goal.returns-clause-stands
returns-clause-stands c =
    let o = c.args.parts.now in
    let p = c.make_room.new.parts in
    let n = c.write_locked.new.parts in
    let s = c.in_ok-make_room.ensures.stands in
    let w = world_of p in
    let d = c.args.conn in
    let t = c.args.table in
    let r = c.args.rid in
    let row = c.args.row.now in
    let same = c.in_ok-make_room.ensures.same in
    let by : ByAgent o.head (world_of o) d (Update t r row) = (c.requires.runs, c.requires.may, c.requires.row, c.requires.outcome) in
    let idle = idle-of w d (subst (λ (x : Content). phase (world x.head x.history) d ≡ Running) (sym same) c.requires.runs.0) in
    let asks = c.as_slice.ensures ∙ c.in_ok-asks.ensures.asks in
    let new = update-new p d t row s in
    let held = subst (λ (l : List Asking). AreTaken w.holds w.waits d l n.locks) asks
    (c.in_ok-write_locked.ensures.lists w.holds w.waits s.parts.locks idle (subst (λ (l : List Asking). AreNew w.holds w.waits l) (sym asks) new)) in
    update-place o p n c.enter.new.parts d t r row s same c.requires.open c.requires.conn c.in_ok-make_room.ensures.ready
    c.in_ok-write_locked.ensures.room c.enter.ensures.spends c.in_ok-write_locked.ensures.limits by held c.in_ok-write_locked.ensures.wrote
    (c.enter.ensures.wrote
    ∙ ap (λ (v : List Value). entered (record (content_of n) { reserved = n.reserved + 1 }) d (by_agent d (Update t r v))) c.in_ok-told.ensures.copy)
