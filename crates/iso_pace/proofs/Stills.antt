-- The parts after an entry of the dispatcher that changes nothing but the history.
use Rattle.std.proofs.Common.{◌≡◌, inl, ℕ, Bool, true, false, not, length, refl, ap, sym, subst, ◌∙◌, arith, List, []}
use Rattle.std.specs.Prelude.{is_none, ◌||◌, ◌&&◌}
use Rattle.iso_chain.proofs.Carries.{no-row}
use Rattle.iso_chain.specs.Carried.{rows_by}
use Rattle.iso_history.specs.Versions.{change_of}
use Rattle.iso_chain.proofs.Units.{kept-chained}
use Rattle.iso_history.proofs.limits.Others.{same-at}
use Rattle.iso_history.specs.After.{after, world}
use Rattle.iso_history.specs.Entries.{least_purgeable}
use Rattle.iso_history.specs.Legal.{ByDispatcher}
use Rattle.iso_history.specs.Makers.{by_dispatcher}
use Rattle.iso_history.specs.Paces.{pace_by}
use Rattle.iso_history.specs.Quiet.{may_take}
use Rattle.iso_history.specs.Reserves.{log_room_of, reserves_less, reserves_more}
use Rattle.iso_history.specs.Stops.{is_full, is_never_refused}
use Rattle.iso_history.specs.World.{World}
use Rattle.iso_history.specs.declared.entry.Act.{Act}
use Rattle.iso_history.specs.declared.entry.Act.TheVariants.{Busy, Expire, Snapshot}
use Rattle.iso_history.specs.declared.entry.Who.TheVariants.{Dispatcher}
use Rattle.iso_queue.specs.Queues.{is_waiting}
use Rattle.iso_queue.specs.declared.LockLine.{LockLine}
use Rattle.iso_types.specs.declared.head.Head.{Head}
use Rattle.iso_types.specs.declared.value.Conn.{Conn}
use Rattle.iso_state.proofs.ByKind.{full-is, ready-allowed}
use Rattle.iso_state.proofs.Desks.{dispatcher-kept}
use Rattle.iso_state.proofs.Steps.{same-limits, step-place}
use Rattle.iso_state.specs.Changes.{noted, repaced}
use Rattle.iso_state.specs.Stands.{Content, HasPlace, StandsFor, content_of, desk_at, world_of}
use Rattle.iso_state.specs.Steps.{IsReady, Spends, is_past}
use Rattle.iso_state.specs.declared.parts.Parts.{Parts}
use Rattle.iso_pace.specs.Answers.{MayTakeLine}

-- a line that may be tried may be taken as long as nobody stopped
pub may-take : (head : Head) (w : World) → MayTakeLine head w → w.pace.stopped ≡ false → may_take head w ≡ true
may-take head w may going =
    go w.pace.stopped (w.pace.purged || is_none (least_purgeable head w)) going may
  where
    go : (s b : Bool) → s ≡ false → (s || b) ≡ true → (not s && b) ≡ true
    go true b e m = absurd (cc)
    go false b e m = m

-- an entry of the dispatcher that changes no more than what it has done
pub record IsStill (head : Head) (w : World) (a : Act) : Type 0 where
  pub tables : (after head w (by_dispatcher a)).tables ≡ w.tables
  pub records : (after head w (by_dispatcher a)).records ≡ w.records
  pub changes : (after head w (by_dispatcher a)).changes ≡ w.changes
  pub unit : (after head w (by_dispatcher a)).unit ≡ w.unit
  pub marks : (after head w (by_dispatcher a)).marks ≡ w.marks
  pub begun : (after head w (by_dispatcher a)).begun ≡ w.begun
  pub entries : (after head w (by_dispatcher a)).entries ≡ w.entries
  pub holds : (after head w (by_dispatcher a)).holds ≡ w.holds
  pub waits : (after head w (by_dispatcher a)).waits ≡ w.waits
  pub line : (after head w (by_dispatcher a)).line ≡ w.line
  pub doom : (after head w (by_dispatcher a)).doom ≡ w.doom
  pub floor : (after head w (by_dispatcher a)).floor ≡ w.floor
  pub ended : (after head w (by_dispatcher a)).ended ≡ w.ended
  pub closing : (after head w (by_dispatcher a)).closing ≡ w.closing
  pub more : reserves_more w Dispatcher a ≡ 0
  pub less : reserves_less w Dispatcher a ≡ 0
  pub refused : is_never_refused a ≡ false
  pub unlogged : log_room_of a ≡ 0
  pub rows : rows_by (change_of a) ≡ []

at : {B : Type 0} {f g : Conn → B} → f ≡ g → (c : Conn) → f c ≡ g c
at {B = B} {f = f} {g = g} e c = ap (λ (h : Conn → B). h c) e

-- one more such entry
pub still-place : (p q : Parts) (a : Act) → StandsFor p → IsReady p 1 → Spends p q → (world_of p).pace.finished ≡ false
    → ByDispatcher p.head (world_of p) a → IsStill p.head (world_of p) a
    → content_of q ≡ repaced (noted (content_of p) (by_dispatcher a)) (pace_by (content_of p).pace Dispatcher a) → StandsFor q
still-place p q a s ready spends free by i wrote =
    let none = i.more in
    let less = i.less in
    let more = spends.log in
    let w = world_of p in
    let v = after p.head w (by_dispatcher a) in
    subst (λ (x : Content). HasPlace x q.history.spare q.log.spare) (sym wrote)
    (step-place (content_of p) (by_dispatcher a) (content_of p).chain p.locks p.desks p.reserved p.history.spare q.history.spare p.log.spare q.log.spare s
    (ready-allowed (content_of p) Dispatcher a 1 s.stands free by i.refused (omega (arith, none, less)) ready.fits)
    (record { made = inl ready.spare; pushed = spends.history; logged = omega (arith, more); bare = i.unlogged })
    (record {
      chain = kept-chained w v (content_of p).chain i.tables i.records i.changes i.unit i.marks i.begun s.parts.chain;
      carried = no-row (content_of p).chain.log a i.rows;
      works = refl;
      entries = i.entries;
      locks = rw (i.holds, i.waits) s.parts.locks;
      limits = same-limits p.locks;
      desks = λ d lt. dispatcher-kept p.head w a d (desk_at p.desks d)
          (same-at w v d (at i.ended d) (at i.closing d) (at i.doom d) (ap (λ ws. is_waiting ws d) i.waits) (at i.line d) (at i.unit d))
          (at i.floor d) (s.parts.desks d lt);
      seats = refl;
      reserved = omega (arith, none, less);
    }))

-- it is refused only where it is full
pub still-full : (p : Parts) (a : Act) → StandsFor p → (world_of p).pace.finished ≡ false → ByDispatcher p.head (world_of p) a
    → IsStill p.head (world_of p) a → is_past (content_of p) 1 ≡ true → is_full p.head (world_of p) (by_dispatcher a) ≡ true
still-full p a s free by i past =
    let none = i.more in
    let less = i.less in
    full-is (content_of p) Dispatcher a 1 s.stands free by i.refused (omega (arith, none, less)) ∙ past

pub busy-still : (head : Head) (w : World) (line : ℕ) (c : Conn) → IsStill head w (Busy line c)
busy-still head w line c = record {
  tables = refl;
  records = refl;
  changes = refl;
  unit = refl;
  marks = refl;
  begun = refl;
  entries = refl;
  holds = refl;
  waits = refl;
  line = refl;
  doom = refl;
  floor = refl;
  ended = refl;
  closing = refl;
  more = refl;
  less = refl;
  refused = refl;
  unlogged = refl;
  rows = refl;
}

pub vain-still : (head : Head) (w : World) (line : ℕ) (c : Conn) → IsStill head w (Expire line c false)
vain-still head w line c = record {
  tables = refl;
  records = refl;
  changes = refl;
  unit = refl;
  marks = refl;
  begun = refl;
  entries = refl;
  holds = refl;
  waits = refl;
  line = refl;
  doom = refl;
  floor = refl;
  ended = refl;
  closing = refl;
  more = refl;
  less = refl;
  refused = refl;
  unlogged = refl;
  rows = refl;
}

pub snapshot-still : (head : Head) (w : World) (line : ℕ) (locks : List LockLine) → IsStill head w (Snapshot line locks)
snapshot-still head w line locks = record {
  tables = refl;
  records = refl;
  changes = refl;
  unit = refl;
  marks = refl;
  begun = refl;
  entries = refl;
  holds = refl;
  waits = refl;
  line = refl;
  doom = refl;
  floor = refl;
  ended = refl;
  closing = refl;
  more = refl;
  less = refl;
  refused = refl;
  unlogged = refl;
  rows = refl;
}

-- the same, over the parts before room was made
pub made-still : (o p q : Parts) (a : Act) → StandsFor p → content_of p ≡ content_of o → IsReady p 1 → Spends p q → (world_of o).pace.finished ≡ false
    → ByDispatcher o.head (world_of o) a → IsStill o.head (world_of o) a
    → content_of q ≡ repaced (noted (content_of p) (by_dispatcher a)) (pace_by (content_of p).pace Dispatcher a) → StandsFor q
made-still o p q a s same ready spends =
    subst (λ (x : Content). (world x.head x.history).pace.finished ≡ false → ByDispatcher x.head (world x.head x.history) a
    → IsStill x.head (world x.head x.history) a
    → content_of q ≡ repaced (noted (content_of p) (by_dispatcher a)) (pace_by (content_of p).pace Dispatcher a) → StandsFor q) same
    (still-place p q a s ready spends)
