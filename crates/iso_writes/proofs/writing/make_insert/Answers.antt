use Rattle.std.proofs.Common.{◌≡◌, ◌<◌, ◌+◌, ◌∙◌, List, Option, ap, length, refl, sym, subst, true}
use Rattle.std.specs.List.{cons_option}
use Rattle.iso_history.specs.After.{world}
use Rattle.iso_history.specs.Legal.{ByAgent}
use Rattle.iso_history.specs.Makers.{by_agent}
use Rattle.iso_history.specs.Phases.{phase}
use Rattle.iso_history.specs.Versions.{next_rid}
use Rattle.iso_history.specs.declared.entry.Act.TheVariants.{Insert}
use Rattle.iso_locklist.specs.Holding.{AreNew}
use Rattle.iso_locklist.specs.declared.places.Asking.{Asking}
use Rattle.iso_state.proofs.ByKind.{fault-was, same-place}
use Rattle.iso_state.specs.Changes.{entered}
use Rattle.iso_state.specs.Stands.{Content, content_of, world_of}
use Rattle.iso_types.specs.Head.{row_fits}
use Rattle.iso_types.specs.declared.desk.Phase.TheVariants.{Running}
use Rattle.iso_types.specs.declared.value.Value.{Value}
use Rattle.iso_writes.proofs.ChangeSteps.{change-full}
use Rattle.iso_writes.proofs.RowSteps.{AreTaken, idle-of, indexes-there, insert-new, insert-place, insert-told}
use Rattle.iso_writes.proofs.SameLocks.{on-fault}
use Rattle.iso_writes.proofs.Writable.{may-record, table-here}
use Rattle.iso_writes.specs.Changing.{key_asks}
use Rattle.iso_writes.proofs.writing.make_insert.Goals as goal

pub returns-in_err-make_room-clause-full : goal.returns-in_err-make_room-clause-full
returns-in_err-make_room-clause-full c =
    let o = c.args.parts.now in
    λ e. change-full o c.args.conn (Insert c.args.table (next_rid (world_of o) c.args.table) c.args.row.now) c.requires.stands c.requires.open c.requires.conn
    (c.requires.runs, c.requires.may, c.requires.row, refl, c.requires.outcome) refl
    (c.make_room.ensures.full (fault-was _ _ _ _ c.in_err-make_room.was c.from_residual.ensures.1 e))

pub next_slot-rid-requires-clause-table : goal.next_slot-rid-requires-clause-table
next_slot-rid-requires-clause-table c =
    table-here c.make_room.new.parts c.args.table c.args.row.now c.in_ok-make_room.ensures.stands
    (subst (λ (x : Content). row_fits x.head c.args.table c.args.row.now ≡ true) (sym c.in_ok-make_room.ensures.same) c.requires.row)

pub write_locked-requires-clause-indexes : goal.write_locked-requires-clause-indexes
write_locked-requires-clause-indexes c = indexes-there c.make_room.new.parts c.in_ok-make_room.ensures.stands

pub write_locked-requires-clause-may : goal.write_locked-requires-clause-may
write_locked-requires-clause-may c =
    let same = sym c.in_ok-make_room.ensures.same in
    may-record (content_of c.make_room.new.parts) c.in_ok-make_room.ensures.stands.stands c.args.conn c.args.table c.args.row.now
    (subst (λ (x : Content). c.args.conn.0 < length x.head.conns) same c.requires.conn)
    (subst (λ (x : Content). phase (world x.head x.history) c.args.conn ≡ Running) same c.requires.runs.0)
    (subst (λ (x : Content). row_fits x.head c.args.table c.args.row.now ≡ true) same c.requires.row)

pub returns-in_err-write_locked-clause-err : goal.returns-in_err-write_locked-clause-err
returns-in_err-write_locked-clause-err c =
    let p = c.make_room.new.parts in
    let same = c.in_ok-make_room.ensures.same in
    let runs = subst (λ (x : Content). phase (world x.head x.history) c.args.conn ≡ Running) (sym same) c.requires.runs.0 in
    let keys = key_asks p.head (world_of p) c.args.conn c.args.table c.args.row.now (length p.head.indexes) 0 in
    let asks = c.as_slice.ensures ∙ c.in_ok-asks.ensures.asks ∙ ap (λ (o : Option Asking). cons_option o keys) c.row_ask-first.ensures in
    on-fault c.from_residual-in_err-write_locked.result
    (insert-told p c.args.conn c.args.table c.next_slot-rid.result c.args.row.now _ (content_of c.write_locked.new.parts ≡ content_of p)
    c.in_ok-make_room.ensures.stands runs c.next_slot-rid.ensures asks c.in_err-write_locked.ensures.err
    ∙ same)

pub returns-in_err-write_locked-clause-head : goal.returns-in_err-write_locked-clause-head
returns-in_err-write_locked-clause-head c =
    let p = c.make_room.new.parts in
    let same = c.in_ok-make_room.ensures.same in
    let runs = subst (λ (x : Content). phase (world x.head x.history) c.args.conn ≡ Running) (sym same) c.requires.runs.0 in
    let keys = key_asks p.head (world_of p) c.args.conn c.args.table c.args.row.now (length p.head.indexes) 0 in
    let asks = c.as_slice.ensures ∙ c.in_ok-asks.ensures.asks ∙ ap (λ (o : Option Asking). cons_option o keys) c.row_ask-first.ensures in
    ap (λ (x : Content). x.head)
    (insert-told p c.args.conn c.args.table c.next_slot-rid.result c.args.row.now _ (content_of c.write_locked.new.parts ≡ content_of p)
    c.in_ok-make_room.ensures.stands runs c.next_slot-rid.ensures asks c.in_err-write_locked.ensures.err
    ∙ same)

pub returns-in_err-write_locked-clause-stands : goal.returns-in_err-write_locked-clause-stands
returns-in_err-write_locked-clause-stands c =
    let p = c.make_room.new.parts in
    let same = c.in_ok-make_room.ensures.same in
    let runs = subst (λ (x : Content). phase (world x.head x.history) c.args.conn ≡ Running) (sym same) c.requires.runs.0 in
    let keys = key_asks p.head (world_of p) c.args.conn c.args.table c.args.row.now (length p.head.indexes) 0 in
    let asks = c.as_slice.ensures ∙ c.in_ok-asks.ensures.asks ∙ ap (λ (o : Option Asking). cons_option o keys) c.row_ask-first.ensures in
    same-place p c.write_locked.new.parts c.in_ok-make_room.ensures.stands
    (insert-told p c.args.conn c.args.table c.next_slot-rid.result c.args.row.now _ (content_of c.write_locked.new.parts ≡ content_of p)
    c.in_ok-make_room.ensures.stands runs c.next_slot-rid.ensures asks c.in_err-write_locked.ensures.err)
    c.in_err-write_locked.ensures.kept

pub returns-clause-stands : goal.returns-clause-stands
returns-clause-stands c =
    let o = c.args.parts.now in
    let p = c.make_room.new.parts in
    let n = c.write_locked.new.parts in
    let s = c.in_ok-make_room.ensures.stands in
    let w = world_of p in
    let d = c.args.conn in
    let t = c.args.table in
    let row = c.args.row.now in
    let r = c.next_slot-rid.result in
    let same = c.in_ok-make_room.ensures.same in
    let is : r ≡ next_rid (world_of o) t = c.next_slot-rid.ensures ∙ ap (λ (x : Content). next_rid (world x.head x.history) t) same in
    let by : ByAgent o.head (world_of o) d (Insert t r row) = (c.requires.runs, c.requires.may, c.requires.row, is, c.requires.outcome) in
    let idle = idle-of w d (subst (λ (x : Content). phase (world x.head x.history) d ≡ Running) (sym same) c.requires.runs.0) in
    let keys = key_asks p.head w d t row (length p.head.indexes) 0 in
    let asks = c.as_slice.ensures ∙ c.in_ok-asks.ensures.asks ∙ ap (λ (o : Option Asking). cons_option o keys) c.row_ask-first.ensures in
    let new = insert-new p d t r row s c.next_slot-rid.ensures in
    let held = subst (λ (l : List Asking). AreTaken w.holds w.waits d l n.locks) asks
    (c.in_ok-write_locked.ensures.lists w.holds w.waits s.parts.locks idle (subst (λ (l : List Asking). AreNew w.holds w.waits l) (sym asks) new)) in
    insert-place o p n c.enter.new.parts d t r row s same c.requires.open c.requires.conn c.in_ok-make_room.ensures.ready
    c.in_ok-write_locked.ensures.room c.enter.ensures.spends c.in_ok-write_locked.ensures.limits by held c.in_ok-write_locked.ensures.wrote
    (c.enter.ensures.wrote
    ∙ ap (λ (v : List Value). entered (record (content_of n) { reserved = n.reserved + 1 }) d (by_agent d (Insert t r v))) c.in_ok-told.ensures.copy)
