-- The parts after a change.
use Rattle.std.proofs.Common.{◌≡◌, ◌≤◌, ◌<◌, ◌+◌, ◌∷◌, ◌++◌, [], ℕ, Bool, true, false, ◌||◌, length, refl, ap, sym, ◌∙◌, arith, subst}
use Rattle.std.specs.Prelude.{List, slice_set}
use Rattle.std.proofs.Math.ListN.{length-set}
use Rattle.iso_chain.proofs.Carries.{RowsMore, carried-more}
use Rattle.iso_chain.specs.Stands.{AreChained, Chained}
use Rattle.iso_history.proofs.limits.Limit.{needs-le}
use Rattle.iso_history.proofs.limits.Pushed.{debt-pushed, needs-pushed}
use Rattle.iso_history.proofs.limits.Room.{room-small}
use Rattle.iso_history.specs.After.{after, world}
use Rattle.iso_history.specs.Lasts.{last_of}
use Rattle.iso_history.specs.Legal.{Allowed, ByAgent}
use Rattle.iso_history.specs.Makers.{by_agent}
use Rattle.iso_history.specs.Reserves.{HasRoom, debt_less, debt_more, reserves_less, reserves_more}
use Rattle.iso_history.specs.Stops.{is_full, is_never_refused, reserves}
use Rattle.iso_history.specs.Paces.{is_stop, pace_by}
use Rattle.iso_history.specs.World.{Pace, World}
use Rattle.iso_history.specs.declared.entry.Act.{Act}
use Rattle.iso_history.specs.declared.entry.Act.TheVariants.{Delete, Insert, Update}
use Rattle.iso_history.specs.declared.entry.Who.TheVariants.{Agent}
use Rattle.iso_locklist.specs.Holding.{LocksAre}
use Rattle.iso_locklist.specs.Places.{IsSameLimits, Ledger}
use Rattle.iso_types.specs.declared.head.Head.{Head}
use Rattle.iso_types.specs.declared.desk.Desk.{Desk}
use Rattle.iso_types.specs.declared.value.Conn.{Conn}
use Rattle.iso_types.specs.declared.value.Rid.{Rid}
use Rattle.iso_types.specs.declared.value.Value.{Value}
use Rattle.iso_uow.specs.Book.{debt_of}
use Rattle.iso_state.proofs.ByKind.{full-is, ready-allowed}
use Rattle.iso_history.proofs.Snoc.{Ground-snoc, world-snoc}
use Rattle.iso_history.proofs.limits.Totals.{totals-after}
use Rattle.iso_state.proofs.Desks.{IsSameSeat, claims-own, desks-set, others-kept, seat-kept}
use Rattle.iso_state.proofs.FactsAlong.{apart-of, debt-of, none_left-of, within-of}
use Rattle.iso_state.proofs.Steps.{conn-is, own-desk}
use Rattle.iso_state.specs.Changes.{entered, reentered, repaced, stepped, unclaimed}
use Rattle.iso_state.specs.Stands.{Content, IsDeskOf, Stands, StandsFor, content_of, desk_at, is_claimed, world_of}
use Rattle.iso_state.specs.Steps.{IsReady, is_past}
use Rattle.iso_state.specs.declared.parts.Parts.{Parts}
use Rattle.iso_writes.specs.Changing.{is_change}

-- a change leaves its maker's desk but for the claim, and the waits; it owes one more
pub record IsChange (head : Head) (w : World) (c : Conn) (a : Act) : Type 0 where
  pub seat : IsSameSeat w (after head w (by_agent c a)) c
  pub waits : (after head w (by_agent c a)).waits ≡ w.waits
  pub unclaimed_is : is_claimed (last_of a) ≡ false
  pub more : reserves_more w (Agent c) a ≡ 1
  pub less : reserves_less w (Agent c) a ≡ 0
  pub refused : is_never_refused a ≡ false
  pub owes : debt_more a ≡ 1
  pub keeps : debt_less w (Agent c) a ≡ 0
  pub calm : is_stop a ≡ false

same-seat : (w v : World) (c : Conn) → v.ended ≡ w.ended → v.closing ≡ w.closing → v.doom ≡ w.doom → v.waits ≡ w.waits → v.line ≡ w.line
    → v.setting ≡ w.setting → v.floor ≡ w.floor → IsSameSeat w v c
same-seat w v c e f g h i j k =
    record { phase_same = rw (e, f, g, h, i) refl; line_same = rw i refl; setting_same = rw j refl; doom_same = rw g refl; floor_same = rw k refl }

pub change-is : (head : Head) (w : World) (c : Conn) (a : Act) → is_change a ≡ true → IsChange head w c a
change-is head w c (Insert t r row) e = record {
  seat = same-seat w (after head w (by_agent c (Insert t r row))) c refl refl refl refl refl refl refl;
  waits = refl;
  unclaimed_is = refl;
  more = refl;
  less = refl;
  refused = refl;
  owes = refl;
  keeps = refl;
  calm = refl;
}
change-is head w c (Update t r row) e = record {
  seat = same-seat w (after head w (by_agent c (Update t r row))) c refl refl refl refl refl refl refl;
  waits = refl;
  unclaimed_is = refl;
  more = refl;
  less = refl;
  refused = refl;
  owes = refl;
  keeps = refl;
  calm = refl;
}
change-is head w c (Delete t r) e = record {
  seat = same-seat w (after head w (by_agent c (Delete t r))) c refl refl refl refl refl refl refl;
  waits = refl;
  unclaimed_is = refl;
  more = refl;
  less = refl;
  refused = refl;
  owes = refl;
  keeps = refl;
  calm = refl;
}
change-is head w c _ e = absurd (cc)

-- it leaves the dispatcher's state
calm-pace : (q : Pace) (c : Conn) (a : Act) → is_stop a ≡ false → pace_by q (Agent c) a ≡ q
calm-pace q c a e = ap (λ (b : Bool). record q { stopped = b || q.stopped }) e

-- there is room for all that is owed after it
change-room : (p : Content) (c : Conn) (a : Act) (old new log_new : ℕ) → Stands p → is_change a ≡ true
    → Allowed p.head (world p.head p.history) (by_agent c a) → p.reserved + 3 ≤ old → old ≤ new + 1
    → debt_of p.chain.book.works + 1 ≤ log_new → HasRoom p.head (world p.head (p.history ++ by_agent c a ∷ [])) new log_new
change-room p c a old new log_new s kind al room push log =
    let w = world p.head p.history in
    let b = change-is p.head w c a kind in
    let few = room-small a in
    let under = needs-le p.head w in
    let sum = s.parts.reserved in
    let owed = debt-pushed p.head p.history (p.history ++ by_agent c a ∷ []) (by_agent c a) refl al (apart-of s) (within-of s) in
    let one = b.owes in
    let none = b.keeps in
    let is = debt-of s in
    record {
      for_needs = needs-pushed p.head p.history (p.history ++ by_agent c a ∷ []) (by_agent c a) refl al (apart-of s) (within-of s) old new
          (enough _ _ _ _ _ few under sum room) push;
      for_debt = owes _ _ _ _ _ log_new owed one none is log;
    }
  where
    enough : (n x r q old : ℕ) → x ≤ 3 → n ≤ r → q ≡ r → q + 3 ≤ old → n + x ≤ old
    enough n x r q old few under sum room = omega (arith, few, under, sum, room)

    owes : (b d x y k new : ℕ) → b + y ≡ d + x → x ≡ 1 → y ≡ 0 → k ≡ d → k + 1 ≤ new → b ≤ new
    owes b d x y k new e f g h le = omega (arith, e, f, g, h, le)

-- what a change has to show of what it writes: the slots, log and units, the pairs of the indexes, the lock list, and its desk
pub record IsWritten (p : Content) (c : Conn) (a : Act) (k : Chained) (l : Ledger) (es : List (List (Value × Rid))) (d : Desk) (n : ℕ) : Type 0 where
  pub chain : AreChained (after p.head (world p.head p.history) (by_agent c a)) k
  pub carried : RowsMore p.chain.log k.log a
  pub works : length k.book.works ≡ length p.chain.book.works
  pub entries : (after p.head (world p.head p.history) (by_agent c a)).entries ≡ es
  pub locks : LocksAre (after p.head (world p.head p.history) (by_agent c a)).holds (after p.head (world p.head p.history) (by_agent c a)).waits l
  pub limits : IsSameLimits l p.locks
  pub desk : IsDeskOf (after p.head (world p.head p.history) (by_agent c a)) c d
  pub reserved : n + reserves_less (world p.head p.history) (Agent c) a ≡ p.reserved + reserves_more (world p.head p.history) (Agent c) a

same-sum : (n r a b less more : ℕ) → n + less ≡ r + more → b + less ≡ a + more → r ≡ a → n ≡ b
same-sum n r a b less more e f g = omega (arith, e, f, g)

-- then the content stands for the history with its entry
change-stands : (p : Content) (c : Conn) (a : Act) (k : Chained) (l : Ledger) (es : List (List (Value × Rid))) (d : Desk) (n : ℕ) → Stands p
    → Allowed p.head (world p.head p.history) (by_agent c a) → IsWritten p c a k l es d n
    → Stands (repaced (reentered (stepped p k l (slice_set p.desks c.0 d) n (by_agent c a)) es) (pace_by p.pace (Agent c) a))
change-stands p c a k l es d n s al i =
    let w = world p.head p.history in
    let sums = (totals-after p.head w (by_agent c a) al (apart-of s) (within-of s).course (none_left-of s)).reserves_move in
    record {
      parts = rw (world-snoc p.head p.history (by_agent c a)) (record {
        chain = i.chain;
        entries = sym i.entries;
        pace = ap (λ (q : Pace). pace_by q (Agent c) a) s.parts.pace;
        locks = i.locks;
        desks = desks-set (after p.head w (by_agent c a)) w p.desks c d i.desk (λ e x ne is. others-kept p.head w c a e x ne is) s.parts.desks;
        reserved = same-sum n p.reserved (reserves p.head w) _ _ _ i.reserved sums s.parts.reserved;
      });
      carried = carried-more p.chain.log k.log p.history (by_agent c a) s.carried i.carried;
      conns = length-set p.desks c.0 d ∙ s.conns;
      works = i.works ∙ s.works;
      limits = record {
        share = i.limits.share ∙ s.limits.share;
        slots = i.limits.slots ∙ s.limits.slots;
        index_tables = i.limits.index_tables ∙ s.limits.index_tables;
      };
      bounds = s.bounds;
      fits = s.fits;
      ground = Ground-snoc p.head p.history (by_agent c a) s.ground al;
    }

-- As a step meets it: `o` are the parts as it finds them, `p` those with room for the entry, `q` those that it leaves.
module _ (o p q : Parts) (k : Chained) (l : Ledger) (c : Conn) (a : Act) (s : StandsFor p) (same : content_of p ≡ content_of o)
    (free : (world_of o).pace.finished ≡ false) (lt : c.0 < length o.head.conns) (ready : IsReady p 2)
    (by : ByAgent o.head (world_of o) c a) (kind : is_change a ≡ true) where
  free-now : (world_of p).pace.finished ≡ false
  free-now = subst (λ (x : Content). (world x.head x.history).pace.finished ≡ false) (sym same) free

  pub lt-now : c.0 < length p.head.conns
  lt-now = subst (λ (x : Content). c.0 < length x.head.conns) (sym same) lt

  by-now : ByAgent p.head (world_of p) c a
  by-now = subst (λ (x : Content). ByAgent x.head (world x.head x.history) c a) (sym same) by

  pub change-allowed : Allowed p.head (world_of p) (by_agent c a)
  change-allowed =
      let b = change-is p.head (world_of p) c a kind in
      let one = b.more in
      let none = b.less in
      ready-allowed (content_of p) (Agent c) a 2 s.stands free-now (conn-is p.head c lt-now, by-now) b.refused (omega (arith, one, none)) ready.fits

  pub change-place : (es : List (List (Value × Rid))) → p.history.spare ≤ q.history.spare + 1 → debt_of p.units.works + 1 ≤ q.log.spare
      → AreChained (after p.head (world_of p) (by_agent c a)) k → RowsMore p.log.records k.log a → length k.book.works ≡ length p.units.works
      → (after p.head (world_of p) (by_agent c a)).entries ≡ es
      → LocksAre (after p.head (world_of p) (by_agent c a)).holds (world_of p).waits l → IsSameLimits l p.locks
      → content_of q ≡ entered (record (content_of p) { chain = k; entries = es; locks = l; reserved = p.reserved + 1 }) c (by_agent c a)
      → StandsFor q
  change-place es push log chain carried works entries are limits wrote =
      let w = world_of p in
      let b = change-is p.head w c a kind in
      let one = b.more in
      let none = b.less in
      rw wrote (record {
        stands = subst (λ (x : Pace). Stands (repaced (reentered (stepped (content_of p) k l (slice_set p.desks c.0 (unclaimed (desk_at p.desks c)))
            (p.reserved + 1) (by_agent c a)) es) x))
            (calm-pace (content_of p).pace c a b.calm)
            (change-stands (content_of p) c a k l es (unclaimed (desk_at p.desks c)) (p.reserved + 1) s.stands change-allowed (record {
              chain = chain;
              carried = carried;
              works = works;
              entries = entries;
              locks = rw b.waits are;
              limits = limits;
              desk = seat-kept w (after p.head w (by_agent c a)) c (desk_at p.desks c) false b.seat
                  (sym b.unclaimed_is ∙ claims-own w c a) (own-desk (content_of p) c (desk_at p.desks c) s.stands lt-now refl);
              reserved = omega (arith, one, none);
            }));
        room = change-room (content_of p) c a p.history.spare q.history.spare q.log.spare s.stands kind change-allowed ready.spare push log;
      })

-- Where `make_room` says that a change is past the limit, its entry is full.
pub change-full : (p : Parts) (c : Conn) (a : Act) → StandsFor p → (world_of p).pace.finished ≡ false → c.0 < length p.head.conns
    → ByAgent p.head (world_of p) c a → is_change a ≡ true → is_past (content_of p) 2 ≡ true → is_full p.head (world_of p) (by_agent c a) ≡ true
change-full p c a s free lt by kind past =
    let b = change-is p.head (world_of p) c a kind in
    let one = b.more in
    let none = b.less in
    full-is (content_of p) (Agent c) a 2 s.stands free (conn-is p.head c lt, by) b.refused (omega (arith, one, none)) ∙ past
