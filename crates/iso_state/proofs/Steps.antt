-- The parts after an entry: what a step has to show of its own, and the lemmas that do the rest.
use Rattle.std.proofs.Common.{◌≡◌, ◌≤◌, ◌<◌, ◌+◌, ◌⊎◌, inl, inr, ◌∷◌, ◌++◌, [], ℕ, Bool, true, false, not, ◌||◌, List, length, refl, ap, sym, ◌∙◌, arith, subst}
use Rattle.std.specs.Prelude.{slice_set}
use Rattle.std.proofs.Math.ListN.{length-set}
use Rattle.std.proofs.lemmas.Bool.Decides.{nat_tests}
use Rattle.iso_chain.proofs.Carries.{RowsMore, carried-more}
use Rattle.iso_chain.specs.Stands.{AreChained, Chained}
use Rattle.iso_history.proofs.Snoc.{Ground-snoc, world-snoc}
use Rattle.iso_history.proofs.limits.Limit.{needs-le}
use Rattle.iso_history.proofs.limits.Pushed.{debt-pushed, log-pushed, needs-pushed}
use Rattle.iso_history.proofs.limits.Room.{room-never, room-small}
use Rattle.iso_history.proofs.limits.Totals.{totals-after}
use Rattle.iso_history.specs.After.{after, world}
use Rattle.iso_history.specs.Legal.{Allowed}
use Rattle.iso_history.specs.Makers.{by_agent, by_dispatcher}
use Rattle.iso_history.specs.Records.{debt}
use Rattle.iso_history.specs.Reserves.{HasRoom, debt_less, debt_more, log_room_of, records_of, reserves_less, reserves_more, room_of}
use Rattle.iso_history.specs.Stops.{is_never_refused, needs, reserves}
use Rattle.iso_history.specs.Paces.{is_stop, pace_by}
use Rattle.iso_history.specs.World.{Pace, World}
use Rattle.iso_history.specs.declared.entry.Act.{Act}
use Rattle.iso_history.specs.declared.entry.Entry.{Entry}
use Rattle.iso_history.specs.declared.entry.Who.TheVariants.{Agent, Dispatcher}
use Rattle.iso_locklist.specs.Places.{IsSameLimits, Ledger}
use Rattle.iso_types.specs.Head.{is_conn}
use Rattle.iso_types.specs.Ids.{conn_eq}
use Rattle.iso_types.specs.declared.desk.Desk.{Desk}
use Rattle.iso_types.specs.declared.head.Head.{Head}
use Rattle.iso_types.specs.declared.value.Conn.{Conn}
use Rattle.iso_state.proofs.Desks.{desks-set, others-kept}
use Rattle.iso_state.proofs.FactsAlong.{apart-of, none_left-of, within-of}
use Rattle.iso_state.specs.Changes.{repaced, stepped}
use Rattle.iso_state.specs.Stands.{AreOf, Content, DesksStand, HasPlace, IsDeskOf, IsLimitedBy, Stands, desk_at}
use Rattle.iso_locklist.specs.Holding.{LocksAre}

-- a connection of the head, as a test
pub conn-is : (head : Head) (c : Conn) → c.0 < length head.conns → is_conn head c ≡ true
conn-is head c lt = grind (arith, nat_tests)

-- a history that has not finished, as a test
pub is-open : (w : World) → w.pace.finished ≡ false → not w.pace.finished ≡ true
is-open w h = ap not h

-- the limits stay over two changes
pub limits-after : (l m o : Ledger) → IsSameLimits m l → IsSameLimits o m → IsSameLimits o l
limits-after l m o a b = record { share = b.share ∙ a.share; slots = b.slots ∙ a.slots; index_tables = b.index_tables ∙ a.index_tables }

-- where nothing is written, they are the same
pub same-limits : (l : Ledger) → IsSameLimits l l
same-limits l = record { share = refl; slots = refl; index_tables = refl }

-- the desk of a connection is its own
pub own-desk : (p : Content) (c : Conn) (desk : Desk) → Stands p → c.0 < length p.head.conns → desk ≡ desk_at p.desks c
    → IsDeskOf (world p.head p.history) c desk
own-desk p c desk s lt is = subst (IsDeskOf (world p.head p.history) c) (sym is) (s.parts.desks c (rw s.conns lt))

-- the same limits
limits-stay : (head : Head) (l m : Ledger) → IsSameLimits m l → IsLimitedBy head l → IsLimitedBy head m
limits-stay head l m same is =
    record { share = same.share ∙ is.share; slots = same.slots ∙ is.slots; index_tables = same.index_tables ∙ is.index_tables }

-- what a step writes is what its entry makes of the world; `reserved` is the new sum of reserves
pub record IsStep (p : Content) (e : Entry) (k : Chained) (l : Ledger) (ds : List Desk) (n : ℕ) : Type 0 where
  pub chain : AreChained (after p.head (world p.head p.history) e) k
  pub carried : RowsMore p.chain.log k.log e.act
  pub works : length k.book.works ≡ length p.chain.book.works
  pub entries : (after p.head (world p.head p.history) e).entries ≡ (world p.head p.history).entries
  pub locks : LocksAre (after p.head (world p.head p.history) e).holds (after p.head (world p.head p.history) e).waits l
  pub limits : IsSameLimits l p.locks
  pub desks : DesksStand ds (after p.head (world p.head p.history) e)
  pub seats : length ds ≡ length p.desks
  pub reserved : n + reserves_less (world p.head p.history) e.who e.act ≡ p.reserved + reserves_more (world p.head p.history) e.who e.act

same-sum : (n r a b less more : ℕ) → n + less ≡ r + more → b + less ≡ a + more → r ≡ a → n ≡ b
same-sum n r a b less more e f g = omega (arith, e, f, g)

-- then the content stands for the history with the entry; at an entry that is literal and no Stopped of an agent, the state of the
-- dispatcher is as it was by computation
pub step-stands : (p : Content) (e : Entry) (k : Chained) (l : Ledger) (desks : List Desk) (n : ℕ) → Stands p
    → Allowed p.head (world p.head p.history) e → IsStep p e k l desks n → Stands (repaced (stepped p k l desks n e) (pace_by p.pace e.who e.act))
step-stands p e k l desks n s al i =
    let w = world p.head p.history in
    let sums = (totals-after p.head w e al (apart-of s) (within-of s).course (none_left-of s)).reserves_move in
    record {
      parts = rw (world-snoc p.head p.history e) (record {
        chain = i.chain;
        entries = s.parts.entries ∙ sym i.entries;
        pace = ap (λ (q : Pace). pace_by q e.who e.act) s.parts.pace;
        locks = i.locks;
        desks = i.desks;
        reserved = same-sum n p.reserved (reserves p.head w) _ _ _ i.reserved sums s.parts.reserved;
      });
      carried = carried-more p.chain.log k.log p.history e s.carried i.carried;
      conns = i.seats ∙ s.conns;
      works = i.works ∙ s.works;
      limits = limits-stay p.head p.locks l i.limits s.limits;
      bounds = s.bounds;
      fits = s.fits;
      ground = Ground-snoc p.head p.history e s.ground al;
    }

-- the room for a push: it was made, or the entry is never refused and goes into the room that is kept
pub record IsRoomFor (p : Content) (a : Act) (old new log_old log_new : ℕ) : Type 0 where
  pub made : (p.reserved + 3 ≤ old) ⊎ (is_never_refused a ≡ true)
  pub pushed : old ≤ new + 1
  pub logged : log_old ≤ log_new + records_of a
  pub bare : log_room_of a ≡ 0

needs-small : (head : Head) (w : World) (a : Act) (reserved old : ℕ) → reserved ≡ reserves head w → reserved + 3 ≤ old → needs head w + room_of a ≤ old
needs-small head w a reserved old e le = let few = room-small a in let under = needs-le head w in omega (arith, e, le, few, under)

needs-none : (head : Head) (w : World) (a : Act) (old : ℕ) → needs head w ≤ old → room_of a ≡ 0 → needs head w + room_of a ≤ old
needs-none head w a old le none = omega (arith, le, none)

-- and there is room for all that is owed after it
pub step-room : (p : Content) (e : Entry) (old new log_old log_new : ℕ) → HasPlace p old log_old → Allowed p.head (world p.head p.history) e
    → IsRoomFor p e.act old new log_old log_new → HasRoom p.head (world p.head (p.history ++ e ∷ [])) new log_new
step-room p e old new log_old log_new s al r =
    let w = world p.head p.history in
    let none = r.bare in
    let debt = s.room.for_debt in
    record {
      for_needs = needs-pushed p.head p.history (p.history ++ e ∷ []) e refl al (apart-of s.stands) (within-of s.stands) old new (enough r.made) r.pushed;
      for_debt = log-pushed p.head p.history (p.history ++ e ∷ []) e refl al (apart-of s.stands) (within-of s.stands) log_old log_new
          (omega (arith, none, debt)) r.logged;
    }
  where
    enough : (p.reserved + 3 ≤ old) ⊎ (is_never_refused e.act ≡ true) → needs p.head (world p.head p.history) + room_of e.act ≤ old
    enough (inl le) = needs-small p.head (world p.head p.history) e.act p.reserved old s.parts.reserved le
    enough (inr never) = needs-none p.head (world p.head p.history) e.act old s.room.for_needs (room-never e.act never)

-- the parts stand for the history with the entry
pub step-place : (p : Content) (e : Entry) (k : Chained) (l : Ledger) (desks : List Desk) (n old new log_old log_new : ℕ) → HasPlace p old log_old
    → Allowed p.head (world p.head p.history) e → IsRoomFor p e.act old new log_old log_new → IsStep p e k l desks n
    → HasPlace (repaced (stepped p k l desks n e) (pace_by p.pace e.who e.act)) new log_new
step-place p e k l desks n old new log_old log_new s al r i =
    record { stands = step-stands p e k l desks n s.stands al i; room = step-room p e old new log_old log_new s al r }

-- what an agent's step has to show: as for any, but of the desks its own alone
pub record IsOwn (p : Content) (c : Conn) (a : Act) (k : Chained) (l : Ledger) (d : Desk) (n : ℕ) : Type 0 where
  pub chain : AreChained (after p.head (world p.head p.history) (by_agent c a)) k
  pub carried : RowsMore p.chain.log k.log a
  pub works : length k.book.works ≡ length p.chain.book.works
  pub entries : (after p.head (world p.head p.history) (by_agent c a)).entries ≡ (world p.head p.history).entries
  pub locks : LocksAre (after p.head (world p.head p.history) (by_agent c a)).holds (after p.head (world p.head p.history) (by_agent c a)).waits l
  pub limits : IsSameLimits l p.locks
  pub desk : IsDeskOf (after p.head (world p.head p.history) (by_agent c a)) c d
  pub reserved : n + reserves_less (world p.head p.history) (Agent c) a ≡ p.reserved + reserves_more (world p.head p.history) (Agent c) a

pub own-step : (p : Content) (c : Conn) (a : Act) (k : Chained) (l : Ledger) (desk : Desk) (n : ℕ) → Stands p → IsOwn p c a k l desk n
    → IsStep p (by_agent c a) k l (slice_set p.desks c.0 desk) n
own-step p c a k l desk n s i =
    let w = world p.head p.history in
    record {
      chain = i.chain;
      carried = i.carried;
      works = i.works;
      entries = i.entries;
      locks = i.locks;
      limits = i.limits;
      desks = desks-set (after p.head w (by_agent c a)) w p.desks c desk i.desk (λ d x ne is. others-kept p.head w c a d x ne is) s.parts.desks;
      seats = length-set p.desks c.0 desk;
      reserved = i.reserved;
    }

-- the parts after an agent's entry
pub own-place : (p : Content) (c : Conn) (a : Act) (k : Chained) (l : Ledger) (desk : Desk) (n old new log_old log_new : ℕ) → HasPlace p old log_old
    → Allowed p.head (world p.head p.history) (by_agent c a) → IsRoomFor p a old new log_old log_new → IsOwn p c a k l desk n
    → HasPlace (repaced (stepped p k l (slice_set p.desks c.0 desk) n (by_agent c a)) (pace_by p.pace (Agent c) a)) new log_new
own-place p c a k l desk n old new log_old log_new s al r i =
    step-place p (by_agent c a) k l (slice_set p.desks c.0 desk) n old new log_old log_new s al r (own-step p c a k l desk n s.stands i)

-- an entry of an agent that is no Stopped leaves the dispatcher's state
calm-pace : (q : Pace) (c : Conn) (a : Act) → is_stop a ≡ false → pace_by q (Agent c) a ≡ q
calm-pace q c a e = ap (λ (b : Bool). record q { stopped = b || q.stopped }) e

-- so the parts after such an entry, where it is not literal, have it as it was
pub calm-place : (p : Content) (c : Conn) (a : Act) (k : Chained) (l : Ledger) (desk : Desk) (n old new log_old log_new : ℕ) → HasPlace p old log_old
    → Allowed p.head (world p.head p.history) (by_agent c a) → IsRoomFor p a old new log_old log_new → IsOwn p c a k l desk n → is_stop a ≡ false
    → HasPlace (stepped p k l (slice_set p.desks c.0 desk) n (by_agent c a)) new log_new
calm-place p c a k l desk n old new log_old log_new s al r i calm =
    subst (λ (q : Pace). HasPlace (repaced (stepped p k l (slice_set p.desks c.0 desk) n (by_agent c a)) q) new log_new)
    (calm-pace p.pace c a calm) (own-place p c a k l desk n old new log_old log_new s al r i)
