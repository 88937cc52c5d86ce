-- The parts after the dispatcher ended a connection's wait, by a line EXPIRE or for a deadlock.
use Rattle.std.proofs.Common.{◌≡◌, ◌≤◌, ◌<◌, ◌-◌, inr, ℕ, Bool, true, false, List, length, refl, ap, sym, arith, Some, Option, []}
use Rattle.std.specs.Option.{option_map_or}
use Rattle.std.specs.Prelude.{is_none, is_some, slice_set, unwrap_or}
use Rattle.std.proofs.Math.ListN.{length-set}
use Rattle.iso_chain.proofs.Carries.{no-row}
use Rattle.iso_chain.specs.Carried.{rows_by}
use Rattle.iso_history.specs.Versions.{change_of}
use Rattle.iso_chain.proofs.Units.{kept-chained}
use Rattle.iso_history.proofs.limits.Others.{IsSameAt, at-same, others-expire, others-victim}
use Rattle.iso_history.specs.After.{after}
use Rattle.iso_history.specs.Legal.{Allowed}
use Rattle.iso_history.specs.Makers.{by_dispatcher}
use Rattle.iso_history.specs.Paces.{pace_by}
use Rattle.iso_history.specs.Phases.{doom_by, is_phase, phase, phase_of, victim}
use Rattle.iso_history.specs.Phases.Doom.{Dooms, Spares}
use Rattle.iso_history.specs.Quiet.{cycle_in, is_quiet}
use Rattle.iso_history.specs.Reserves.{log_room_of, reserves_less, reserves_more}
use Rattle.iso_history.specs.Stops.{is_never_refused}
use Rattle.iso_history.specs.Waits.{waits_by}
use Rattle.iso_history.specs.Waits.Joining.{Passes, Quits}
use Rattle.iso_history.specs.World.{World}
use Rattle.iso_history.specs.declared.entry.Act.{Act}
use Rattle.iso_history.specs.declared.entry.Act.TheVariants.{Expire, Victim}
use Rattle.iso_history.specs.declared.entry.Who.TheVariants.{Dispatcher}
use Rattle.iso_locklist.specs.Holding.{LocksAre}
use Rattle.iso_locklist.specs.Places.{IsSameLimits, Ledger}
use Rattle.iso_queue.specs.Queues.{is_waiting, unqueued}
use Rattle.iso_types.specs.Ids.{conn_eq}
use Rattle.iso_types.specs.declared.desk.Desk.{Desk}
use Rattle.iso_types.specs.declared.desk.Phase.{Phase}
use Rattle.iso_types.specs.declared.desk.Phase.TheVariants.{Rolling}
use Rattle.iso_types.specs.declared.head.Head.{Head}
use Rattle.iso_types.specs.declared.value.Conn.{Conn}
use Rattle.iso_state.proofs.ByKind.{reserved-covers}
use Rattle.iso_state.proofs.Desks.{desks-set, dispatcher-kept, seat-as}
use Rattle.iso_state.proofs.Steps.{conn-is, is-open, own-desk, step-place}
use Rattle.iso_state.specs.Changes.{repaced, stepped}
use Rattle.iso_state.specs.Stands.{IsDeskOf, StandsFor, content_of, desk_at, world_of}
use Rattle.iso_state.specs.Steps.{Spends}
use Rattle.iso_state.specs.declared.parts.Parts.{Parts}
use Rattle.iso_pace.specs.Answers.{MayTakeLine}
use Rattle.iso_pace.proofs.Stills.{may-take}

-- an entry of the dispatcher by which the connection's wait ends: it has to roll back, for this reason
pub record EndsWait (head : Head) (w : World) (a : Act) (c : Conn) (r : ℕ) : Type 0 where
  pub tables : (after head w (by_dispatcher a)).tables ≡ w.tables
  pub records : (after head w (by_dispatcher a)).records ≡ w.records
  pub changes : (after head w (by_dispatcher a)).changes ≡ w.changes
  pub unit : (after head w (by_dispatcher a)).unit ≡ w.unit
  pub marks : (after head w (by_dispatcher a)).marks ≡ w.marks
  pub begun : (after head w (by_dispatcher a)).begun ≡ w.begun
  pub entries : (after head w (by_dispatcher a)).entries ≡ w.entries
  pub holds : (after head w (by_dispatcher a)).holds ≡ w.holds
  pub waits : (after head w (by_dispatcher a)).waits ≡ unqueued c w.waits
  pub doom : (after head w (by_dispatcher a)).doom c ≡ Some r
  pub line : (after head w (by_dispatcher a)).line ≡ w.line
  pub floor : (after head w (by_dispatcher a)).floor ≡ w.floor
  pub closing : (after head w (by_dispatcher a)).closing ≡ w.closing
  pub others : (d : Conn) → conn_eq d c ≡ false → IsSameAt w (after head w (by_dispatcher a)) d
  pub more : reserves_more w Dispatcher a ≡ 0
  pub less : reserves_less w Dispatcher a ≡ 1
  pub refused : is_never_refused a ≡ true
  pub unlogged : log_room_of a ≡ 0
  pub rows : rows_by (change_of a) ≡ []

-- who waited and is doomed rolls back
doomed-by : (e k d v s b t : Bool) → phase_of e k d v s ≡ Phase.Waiting → phase_of e k true b t ≡ Rolling
doomed-by true k d v s b t h = cc
doomed-by false true d v s b t h = cc
doomed-by false false d v s b t h = refl

doomed-as : (e k d v s m x b t : Bool) → m ≡ k → x ≡ true → phase_of e k d v s ≡ Phase.Waiting → phase_of e m x b t ≡ Rolling
doomed-as e k d v s m x b t f g h = rw (f, g) (doomed-by e k d v s b t h)

at : {B : Type 0} {f g : Conn → B} → f ≡ g → (c : Conn) → f c ≡ g c
at {B = B} {f = f} {g = g} e c = ap (λ (h : Conn → B). h c) e

module _ (p q : Parts) (a : Act) (c : Conn) (r : ℕ) (s : StandsFor p) (lt : c.0 < length p.head.conns)
    (waits : phase (world_of p) c ≡ Phase.Waiting) (may : Allowed p.head (world_of p) (by_dispatcher a)) (i : EndsWait p.head (world_of p) a c r) where
  pub wait-covers : 1 ≤ p.reserved
  wait-covers =
      let k = reserved-covers (content_of p) (by_dispatcher a) s.stands may in
      let none = i.more in
      let one = i.less in
      omega (arith, k, none, one)

  wait-desk : (d : Desk) → IsDeskOf (world_of p) c d
      → IsDeskOf (after p.head (world_of p) (by_dispatcher a)) c (record d { phase = Rolling; doom = r; claimed = d.claimed })
  wait-desk d is =
      let w = world_of p in
      let v = after p.head w (by_dispatcher a) in
      seat-as w v c d Rolling r d.claimed
      (sym (doomed-as (w.ended c) (w.closing c) (is_some (w.doom c)) (is_waiting w.waits c) (is_none (w.line c)) (v.closing c) (is_some (v.doom c))
      (is_waiting v.waits c) (is_none (v.line c)) (at i.closing c) (ap (λ o. is_some o) i.doom) waits))
      (at i.line c) refl (sym (ap (λ o. unwrap_or o 0) i.doom)) (at i.floor c) is.claimed is

  pub wait-place : (l : Ledger) → Spends p q → LocksAre (world_of p).holds (unqueued c (world_of p).waits) l → IsSameLimits l p.locks
      → content_of q ≡ repaced (stepped (content_of p) (content_of p).chain l
      (slice_set p.desks c.0 (record (desk_at p.desks c) { phase = Rolling; doom = r })) (p.reserved - 1) (by_dispatcher a))
      (pace_by (content_of p).pace Dispatcher a)
      → StandsFor q
  wait-place l spends are same wrote =
      let w = world_of p in
      let v = after p.head w (by_dispatcher a) in
      let covers = wait-covers in
      let spent = spends.log in
      let none = i.more in
      let one = i.less in
      let desk : Desk = record (desk_at p.desks c) { phase = Rolling; doom = r } in
      rw wrote (step-place (content_of p) (by_dispatcher a) (content_of p).chain l (slice_set p.desks c.0 desk) (p.reserved - 1)
      p.history.spare q.history.spare p.log.spare q.log.spare s may
      (record { made = inr i.refused; pushed = spends.history; logged = omega (arith, spent); bare = i.unlogged })
      (record {
        chain = kept-chained w v (content_of p).chain i.tables i.records i.changes i.unit i.marks i.begun s.parts.chain;
        carried = no-row (content_of p).chain.log a i.rows;
        works = refl;
        entries = i.entries;
        locks = rw (i.holds, i.waits) are;
        limits = same;
        desks = desks-set v w p.desks c desk (wait-desk (desk_at p.desks c) (own-desk (content_of p) c (desk_at p.desks c) s.stands lt refl))
            (λ d x ne is. dispatcher-kept p.head w a d x (i.others d ne) (at i.floor d) is) s.parts.desks;
        seats = length-set p.desks c.0 desk;
        reserved = omega (arith, covers, none, one);
      }))

-- a line EXPIRE may end a wait in quiet
pub may-expire : (p : Parts) (line : ℕ) (c : Conn) → (world_of p).pace.finished ≡ false → MayTakeLine p.head (world_of p)
    → (world_of p).pace.stopped ≡ false → c.0 < length p.head.conns → phase (world_of p) c ≡ Phase.Waiting → is_quiet p.head (world_of p) ≡ true
    → Allowed p.head (world_of p) (by_dispatcher (Expire line c true))
may-expire p line c free may going lt waits quiet = (
  is-open (world_of p) free,
  refl,
  (conn-is p.head c lt, quiet, may-take p.head (world_of p) may going, ap (λ (x : Phase). is_phase x Phase.Waiting) (sym waits)),
)

pub expire-ends : (head : Head) (w : World) (line : ℕ) (c : Conn) → EndsWait head w (Expire line c true) c 68
expire-ends head w line c = record {
  tables = refl;
  records = refl;
  changes = refl;
  unit = refl;
  marks = refl;
  begun = refl;
  entries = refl;
  holds = refl;
  waits = refl;
  doom = at-same w.doom c (Some 68);
  line = refl;
  floor = refl;
  closing = refl;
  others = λ d ne. others-expire head w line c d ne;
  more = refl;
  less = refl;
  refused = refl;
  unlogged = refl;
  rows = refl;
}

-- the chosen cycle may be recorded wherever there is one
pub may-detect : (p : Parts) (cycle : List Conn) → (world_of p).pace.finished ≡ false → cycle_in p.head (world_of p) ≡ Some cycle
    → Allowed p.head (world_of p) (by_dispatcher (Victim cycle))
may-detect p cycle free chosen = (is-open (world_of p) free, refl, chosen)

pub victim-ends : (head : Head) (w : World) (cycle : List Conn) (c : Conn) → victim w cycle ≡ Some c → EndsWait head w (Victim cycle) c 2
victim-ends head w cycle c is = record {
  tables = refl;
  records = refl;
  changes = refl;
  unit = refl;
  marks = refl;
  begun = refl;
  entries = refl;
  holds = refl;
  waits = quit (victim w cycle) is;
  doom = doomed (victim w cycle) is;
  line = refl;
  floor = refl;
  closing = refl;
  others = λ d ne. others-victim head w cycle c d is ne;
  more = refl;
  less = refl;
  refused = refl;
  unlogged = refl;
  rows = refl;
}
  where
    doomed : (o : Option Conn) → o ≡ Some c → doom_by w.doom (option_map_or (λ x. Dooms x 2) o Spares) c ≡ Some 2
    doomed o e = rw e (at-same w.doom c (Some 2))

    quit : (o : Option Conn) → o ≡ Some c → waits_by w (option_map_or Quits o Passes) ≡ unqueued c w.waits
    quit o e = rw e refl
