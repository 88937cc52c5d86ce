-- The parts after a row was written.
use Rattle.std.proofs.Common.{◌≡◌, ◌≤◌, ◌<◌, ◌+◌, ◌-◌, ℕ, Bool, true, false, List, length, refl, ap, sym, ◌∙◌, arith, subst, None, Some, map}
use Rattle.std.specs.List.{cons_option}
use Rattle.std.specs.Prelude.{is_none, is_some}
use Rattle.std.proofs.Math.ListN.{length-set}
use Rattle.std.proofs.lemmas.List.{length-map}
use Rattle.std.proofs.lemmas.Bool.Decides.{nat_tests}
use Rattle.iso_chain.proofs.Carries.{one-row}
use Rattle.iso_chain.proofs.Kept.{may-insert, may-update}
use Rattle.iso_chain.proofs.Write.{insert-chained, update-chained}
use Rattle.iso_chain.specs.Writes.{inserted, written}
use Rattle.iso_history.specs.After.{world}
use Rattle.iso_history.specs.Entries.{gained}
use Rattle.iso_history.specs.Legal.{ByAgent}
use Rattle.iso_history.specs.Makers.{by_agent}
use Rattle.iso_history.specs.Phases.{phase, phase_of}
use Rattle.iso_history.specs.Requests.{is_there}
use Rattle.iso_history.specs.Versions.{next_rid}
use Rattle.iso_history.specs.World.{World}
use Rattle.iso_history.specs.declared.entry.Act.TheVariants.{Insert, Update}
use Rattle.iso_key.specs.Pages.{entries}
use Rattle.iso_locklist.specs.Holding.{AreNew, LocksAre, all_added}
use Rattle.iso_locklist.specs.Places.{IsSameLimits, Ledger}
use Rattle.iso_locklist.specs.declared.places.Asking.{Asking}
use Rattle.iso_queue.specs.Locks.{Hold, settled, without_briefs}
use Rattle.iso_queue.specs.Queues.{Wait, is_waiting}
use Rattle.iso_state.proofs.FactsAlong.{kept-of, log_sound-of, sound-of, work-there}
use Rattle.iso_state.specs.Changes.{entered, relocked}
use Rattle.iso_state.specs.Stands.{Content, Stands, StandsFor, content_of, world_of}
use Rattle.iso_state.specs.Steps.{IsReady, Spends}
use Rattle.iso_state.specs.declared.parts.Parts.{Parts}
use Rattle.iso_types.specs.Head.{indexes}
use Rattle.iso_types.specs.declared.desk.Phase.TheVariants.{Running}
use Rattle.iso_types.specs.declared.head.Head.{Head}
use Rattle.iso_types.specs.declared.value.Conn.{Conn}
use Rattle.iso_types.specs.declared.value.Name.TheVariants.{Row}
use Rattle.iso_types.specs.declared.value.Rid.{Rid}
use Rattle.iso_types.specs.declared.value.TableId.{TableId}
use Rattle.iso_types.specs.declared.value.Value.{Value}
use Rattle.iso_uow.specs.Book.{debt_of}
use Rattle.iso_writes.proofs.Asked.{asks-new, keys-new}
use Rattle.iso_writes.proofs.ChangeSteps.{change-allowed, change-place, lt-now}
use Rattle.iso_writes.proofs.Keyed.{keys-gained}
use Rattle.iso_writes.proofs.Taken.{insert-holds, update-holds}
use Rattle.iso_writes.specs.Changing.{LeavesRoom, key_asks, row_ask, with_keys, written_at}
use Rattle.iso_writes.specs.declared.changing.Destination.TheVariants.{NewSlot, Slot}

-- who runs does not wait
runs-idle : (e f d x s : Bool) → phase_of e f d x s ≡ Running → x ≡ false
runs-idle true f d x s h = cc h
runs-idle false true d x s h = cc h
runs-idle false false true x s h = cc h
runs-idle false false false true s h = cc h
runs-idle false false false false s h = refl

pub idle-of : (w : World) (c : Conn) → phase w c ≡ Running → is_waiting w.waits c ≡ false
idle-of w c runs = runs-idle (w.ended c) (w.closing c) (is_some (w.doom c)) (is_waiting w.waits c) (is_none (w.line c)) runs

-- each index of the head is there
pub indexes-there : (p : Parts) → StandsFor p → length p.indexes ≡ length p.head.indexes
indexes-there p s =
    sym (length-map p.indexes entries) ∙ ap (λ (es : List (List (Value × Rid))). length es) s.parts.entries
    ∙ (sound-of s.stands).locks.parts.entries

-- the lock list with these locks taken, and the holds settled
abbrev pub AreTaken : List Hold → List Wait → Conn → List Asking → Ledger → Type 0
AreTaken hs xs c asks l = LocksAre (without_briefs (all_added hs c asks) c (settled c None (all_added hs c asks))) xs l

-- the pairs that a row's keys leave are those of the world after its entry
keyed : (p : Content) → Stands p → (t : TableId) (r : Rid) (row : List Value)
    → map (gained p.head (world p.head p.history) t r row) (indexes p.head) ≡ with_keys p.head t r row (length p.head.indexes - 0) 0 p.entries
keyed p s t r row =
    let w = world p.head p.history in
    let all : length p.head.indexes - 0 ≡ length p.head.indexes = omega arith in
    sym (ap (λ (n : ℕ). with_keys p.head t r row n 0 p.entries) all
    ∙ ap (with_keys p.head t r row (length p.head.indexes) 0) s.parts.entries
    ∙ keys-gained p.head t r row w (sound-of s).locks.parts.entries)

-- the new row is not there yet
not-there : (head : Head) (w : World) (t : TableId) → is_there head w (Row t (next_rid w t)) ≡ false
not-there head w t = grind (arith, nat_tests)

-- As a step meets it: `o` are the parts as it finds them, `p` those with room for the entry, `n` those with the row, its keys and
-- its locks, `q` those that it leaves.
module _ (o p n q : Parts) (c : Conn) (t : TableId) (r : Rid) (row : List Value) (s : StandsFor p) (same : content_of p ≡ content_of o)
    (free : (world_of o).pace.finished ≡ false) (lt : c.0 < length o.head.conns) (ready : IsReady p 2)
    (room : LeavesRoom p n) (spends : Spends n q) (limits : IsSameLimits n.locks p.locks) where
  -- the room that is left
  history-left : p.history.spare ≤ q.history.spare + 1
  history-left = let a = room.history in let b = spends.history in omega (arith, a, b)

  log-left : debt_of p.units.works + 1 ≤ q.log.spare
  log-left = let a = room.log in let b = spends.log in omega (arith, a, b)

  pub insert-place : ByAgent o.head (world_of o) c (Insert t r row)
      → LocksAre (without_briefs (all_added (world_of p).holds c (cons_option (row_ask p.head (world_of p) c t r)
      (key_asks p.head (world_of p) c t row (length p.head.indexes) 0))) c
      (settled c None (all_added (world_of p).holds c (cons_option (row_ask p.head (world_of p) c t r)
      (key_asks p.head (world_of p) c t row (length p.head.indexes) 0))))) (world_of p).waits n.locks
      → content_of n ≡ relocked (written_at (content_of p) c NewSlot t r row (0)) n.locks
      → content_of q ≡ entered (record (content_of n) { reserved = n.reserved + 1 }) c (by_agent c (Insert t r row))
      → StandsFor q
  insert-place by are wrote entry =
      let k = inserted (content_of p).chain c t row in
      let now = lt-now o p q k n.locks c (Insert t r row) s same free lt ready by refl in
      let al = change-allowed o p q k n.locks c (Insert t r row) s same free lt ready by refl in
      change-place o p q k n.locks c (Insert t r row) s same free lt ready by refl
      (with_keys p.head t r row (length p.head.indexes - 0) 0 (content_of p).entries) history-left log-left
      (insert-chained p.head (world_of p) (content_of p).chain c t r row s.parts.chain (kept-of s.stands) (work-there s.stands c now)
      (may-insert p.head (world_of p) (sound-of s.stands) c t r row al))
      (one-row p.log.records _ (Insert t r row) refl)
      (length-set p.units.works c.0 _)
      (keyed (content_of p) s.stands t r row)
      (insert-holds p.head (world_of p) c t row r n.locks are)
      limits
      (entry ∙ ap (λ (x : Content). entered (record x { reserved = x.reserved + 1 }) c (by_agent c (Insert t r row))) wrote)

  pub update-place : ByAgent o.head (world_of o) c (Update t r row)
      → LocksAre (without_briefs (all_added (world_of p).holds c (cons_option None
      (key_asks p.head (world_of p) c t row (length p.head.indexes) 0))) c
      (settled c None (all_added (world_of p).holds c (cons_option None
      (key_asks p.head (world_of p) c t row (length p.head.indexes) 0))))) (world_of p).waits n.locks
      → content_of n ≡ relocked (written_at (content_of p) c Slot t r row (0)) n.locks
      → content_of q ≡ entered (record (content_of n) { reserved = n.reserved + 1 }) c (by_agent c (Update t r row))
      → StandsFor q
  update-place by are wrote entry =
      let k = written (content_of p).chain c t r (Some row) in
      let now = lt-now o p q k n.locks c (Update t r row) s same free lt ready by refl in
      let al = change-allowed o p q k n.locks c (Update t r row) s same free lt ready by refl in
      change-place o p q k n.locks c (Update t r row) s same free lt ready by refl
      (with_keys p.head t r row (length p.head.indexes - 0) 0 (content_of p).entries) history-left log-left
      (update-chained p.head (world_of p) (content_of p).chain c t r row s.parts.chain (kept-of s.stands) (work-there s.stands c now)
      (may-update p.head (world_of p) (sound-of s.stands) c t r row (log_sound-of s.stands) al))
      (one-row p.log.records _ (Update t r row) refl)
      (length-set p.units.works c.0 _)
      (keyed (content_of p) s.stands t r row)
      (update-holds p.head (world_of p) c t row r n.locks are)
      limits
      (entry ∙ ap (λ (x : Content). entered (record x { reserved = x.reserved + 1 }) c (by_agent c (Update t r row))) wrote)

-- what an insertion and an update ask for is new
pub insert-new : (p : Parts) (c : Conn) (t : TableId) (r : Rid) (row : List Value) → StandsFor p → r ≡ next_rid (world_of p) t
    → AreNew (world_of p).holds (world_of p).waits (cons_option (row_ask p.head (world_of p) c t r)
    (key_asks p.head (world_of p) c t row (length p.head.indexes) 0))
insert-new p c t r row s is =
    asks-new p.head (world_of p) c t row (sound-of s.stands).locks r
    (ap (λ (x : Rid). is_there p.head (world_of p) (Row t x)) is ∙ not-there p.head (world_of p) t) (length p.head.indexes)

pub update-new : (p : Parts) (c : Conn) (t : TableId) (row : List Value) → StandsFor p
    → AreNew (world_of p).holds (world_of p).waits (cons_option None (key_asks p.head (world_of p) c t row (length p.head.indexes) 0))
update-new p c t row s = keys-new p.head (world_of p) c t row (sound-of s.stands).locks (length p.head.indexes) 0

-- what is told of the locks that they take, whatever holds and waits the lock list stands for, is so
pub insert-told : (p : Parts) (c : Conn) (t : TableId) (r : Rid) (row : List Value) (asks : List Asking) (P : Type 0) → StandsFor p
    → phase (world_of p) c ≡ Running → r ≡ next_rid (world_of p) t
    → asks ≡ cons_option (row_ask p.head (world_of p) c t r) (key_asks p.head (world_of p) c t row (length p.head.indexes) 0)
    → ((hs : List Hold) (xs : List Wait) → LocksAre hs xs p.locks → is_waiting xs c ≡ false → AreNew hs xs asks → P) → P
insert-told p c t r row asks P s runs is e told =
    told (world_of p).holds (world_of p).waits s.parts.locks (idle-of (world_of p) c runs)
    (subst (λ (l : List Asking). AreNew (world_of p).holds (world_of p).waits l) (sym e) (insert-new p c t r row s is))

pub update-told : (p : Parts) (c : Conn) (t : TableId) (row : List Value) (asks : List Asking) (P : Type 0) → StandsFor p
    → phase (world_of p) c ≡ Running
    → asks ≡ cons_option None (key_asks p.head (world_of p) c t row (length p.head.indexes) 0)
    → ((hs : List Hold) (xs : List Wait) → LocksAre hs xs p.locks → is_waiting xs c ≡ false → AreNew hs xs asks → P) → P
update-told p c t row asks P s runs e told =
    told (world_of p).holds (world_of p).waits s.parts.locks (idle-of (world_of p) c runs)
    (subst (λ (l : List Asking). AreNew (world_of p).holds (world_of p).waits l) (sym e) (update-new p c t row s))
