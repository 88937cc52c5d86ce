-- Each name that is held is there.
use Rattle.std.proofs.Common.{◌≡◌, ◌<◌, ◌≤◌, ◌+◌, ℕ, zero, suc, Bool, true, false, ◌&&◌, if◌then◌else◌, List, [], ◌∷◌, map, length, refl, ap, sym, ◌∙◌, subst, arith, Some, None, Option, option_map, filter}
use Rattle.std.specs.Prelude.{slice_get}
use Rattle.std.specs.List.{list_any, range_with_len}
use Rattle.std.specs.Option.{option_map_or}
use Rattle.std.proofs.lemmas.Bool.{and_parts, eqb-false, lt-ltb}
use Rattle.iso_history.proofs.facts.Single.{hold_on-filter, single-hand, single-settled}
use Rattle.iso_history.proofs.locks.Finds.{find-is}
use Rattle.iso_history.proofs.locks.Holds.{hold_on-other, hold_on-settled, of-is}
use Rattle.iso_history.proofs.locks.Inherits.{each-inherited, is_index_of}
use Rattle.iso_history.proofs.locks.Joins.{escalated-there}
use Rattle.iso_history.proofs.locks.Lists.{any-filter, any-found}
use Rattle.iso_history.proofs.locks.Placing.{EachOf, all-keep, along-each}
use Rattle.iso_history.proofs.locks.Same.{index_is, name_is, name_same, the_index}
use Rattle.iso_history.proofs.locks.There.{agent-spares, dispatcher-spares, key-gained, slot-new, there-stays}
use Rattle.iso_history.specs.After.{after}
use Rattle.iso_history.specs.Entries.{is_in_use, pairing_of}
use Rattle.iso_history.specs.Entries.Pairing.{Gains}
use Rattle.iso_history.specs.Facts.{AreSingle, HoldsThere, LocksSound, WaitsThere}
use Rattle.iso_history.specs.Holds.{Hand, claimed, guarded_next, hand_of, holds_by, holds_by_hand, inheriting, looked, next_name, placed_by_want, request_on, spared}
use Rattle.iso_history.specs.Holds.Hand.{Collapses, Drops, Frees, Leaves, Places}
use Rattle.iso_history.specs.Legal.{Allowed, By, ByAgent, LockStands}
use Rattle.iso_history.specs.Nexts.{may_next}
use Rattle.iso_history.specs.Requests.{is_there}
use Rattle.iso_history.specs.Units.{unit_of}
use Rattle.iso_history.specs.Versions.{is_dead, next_rid, slots, versions}
use Rattle.iso_history.specs.World.{World}
use Rattle.iso_history.specs.declared.entry.Act.{Act}
use Rattle.iso_history.specs.declared.entry.Act.TheVariants.{Claim, Insert, Lock, Look, Next, Update}
use Rattle.iso_history.specs.declared.entry.Entry.{Entry}
use Rattle.iso_history.specs.declared.entry.Got.{Got}
use Rattle.iso_history.specs.declared.entry.Stand.{Stand}
use Rattle.iso_history.specs.declared.entry.Stand.TheVariants.{At, Past}
use Rattle.iso_history.specs.declared.entry.Want.{Want}
use Rattle.iso_history.specs.declared.entry.Who.{Who}
use Rattle.iso_history.specs.declared.entry.Who.TheVariants.{Agent, Dispatcher}
use Rattle.iso_history.specs.declared.entry.Why.{Why}
use Rattle.iso_history.specs.declared.entry.Why.TheVariants.{Asked, Blocked, Escalation}
use Rattle.iso_modes.specs.declared.Mode.{Mode}
use Rattle.iso_modes.specs.declared.Term.{Term}
use Rattle.iso_queue.specs.Locks.{Hold, Request, added, hold_on, is_hold_of, settled, settled_one}
use Rattle.iso_queue.specs.Queues.{Wait, wait_of}
use Rattle.iso_types.specs.Head.{indexes, indexes_of, is_index, row_fits, table_of_index}
use Rattle.iso_types.specs.Ids.{conn_eq, index_eq, name_eq}
use Rattle.iso_types.specs.declared.head.Head.{Head}
use Rattle.iso_types.specs.declared.head.Range.{Range}
use Rattle.iso_types.specs.declared.value.Conn.{Conn}
use Rattle.iso_types.specs.declared.value.IndexId.{IndexId}
use Rattle.iso_types.specs.declared.value.Name.{Name}
use Rattle.iso_types.specs.declared.value.Name.TheVariants.{Row, Table}
use Rattle.iso_types.specs.declared.value.Rid.{Rid}
use Rattle.iso_types.specs.declared.value.TableId.{TableId}
use Rattle.iso_types.specs.declared.value.Value.{Value}

-- what is got stands within
got-within : {A : Type 0} (xs : List A) (k : ℕ) (x : A) → slice_get xs k ≡ Some x → k < length xs
got-within [] k x e = cc
got-within (y ∷ ys) zero x e = omega arith
got-within (y ∷ ys) (suc k) x e = let lt = got-within ys k x e in omega arith

some-from : {A : Type 0} (f : A → Bool) (x : Option A) → option_map_or f x false ≡ true → (y : A) × (x ≡ Some y)
some-from f None e = cc
some-from f (Some y) e = (y, refl)

mapped-from : {A B : Type 0} (f : A → B) (x : Option A) (y : B) → option_map f x ≡ Some y → (z : A) × (x ≡ Some z)
mapped-from f None y e = cc
mapped-from f (Some z) y e = (z, refl)

-- a table whose rows fit is the head's
fits-table : (head : Head) (t : TableId) (row : List Value) → row_fits head t row ≡ true → t.0 < length head.tables
fits-table head t row e = let d = some-from _ (slice_get head.tables t.0) e in got-within head.tables t.0 d.0 d.1

-- an index of a table is the head's
index-within : (head : Head) (t : TableId) (i : IndexId) → is_index_of head t i ≡ true → i.0 < length head.indexes
index-within head t i e =
    let u = some-from _ (table_of_index head i) e in
    let d = mapped-from _ (slice_get head.indexes i.0) u.0 u.1 in
    got-within head.indexes i.0 d.0 d.1

-- an index within a range is found in it
in-indexes : (i : IndexId) (n a : ℕ) → a ≤ i.0 → i.0 < a + n → list_any (index_eq i) (map (λ k. the_index k) (range_with_len a n)) ≡ true
in-indexes i zero a le lt = absurd (omega arith)
in-indexes i (suc n) a le lt = go (index_eq i (the_index a)) refl (in-indexes i n (a + 1))
  where
    go : (b : Bool) → index_eq i (the_index a) ≡ b
        → (a + 1 ≤ i.0 → i.0 < a + 1 + n → list_any (index_eq i) (map (λ k. the_index k) (range_with_len (a + 1) n)) ≡ true)
        → list_any (index_eq i) (map (λ k. the_index k) (range_with_len a (suc n))) ≡ true
    go true k ih = rw k refl
    go false k ih =
        let ne = eqb-false i.0 a k in
        rw k (ih (omega arith) (omega arith))

-- the index is among its table's
among-indexes : (head : Head) (t : TableId) (i : IndexId) → is_index_of head t i ≡ true → list_any (index_eq i) (indexes_of head t) ≡ true
among-indexes head t i e =
    any-filter (index_eq i) (is_index_of head t) (λ x k. ap (is_index_of head t) (sym (index_is i x k)) ∙ e) (indexes head)
    (in-indexes i (length head.indexes) 0 (omega arith) (let lt = index-within head t i e in omega arith))

module _ (head : Head) (w : World) (c : Conn) (s : LocksSound head w) where
  -- what the name's entry leaves there
  abbrev ThereAfter : Act → Name → Type 0
  ThereAfter a n = is_there head (after head w (record { who = Agent c; act = a })) n ≡ true

  -- each name that a hand places is there after the entry
  abbrev HandThere : Act → Hand → Type 0
  HandThere a (Places rs) = EachOf (λ r. ThereAfter a r.name) rs
  HandThere a _ = Unit {0}

  stays : (a : Act) → ByAgent head w c a → (n : Name) → is_there head w n ≡ true → ThereAfter a n
  stays a al n k = there-stays head w (record { who = Agent c; act = a }) s.parts n (agent-spares head w c a al n) k

  lock-there : (n : Name) (m : Mode) (t : Term) (why : Why) (got : Got) → LockStands head w c n m t why got → is_there head w n ≡ true
  lock-there n m t Asked got al = (and_parts _ _ al.1).0
  lock-there (Table u) m t Escalation got al = escalated-there head w c s u m al.1.1
  lock-there n m t Escalation got al = absurd al.1
  lock-there n m t Blocked got al = (and_parts _ _ al.1).0

  look-there : (a : Act) (t : TableId) (r : Rid) (want : Want) → ThereAfter a (Row t r) → EachOf (λ r. ThereAfter a r.name) (looked w t r want)
  look-there a t r want k = go (is_dead (versions w t r)) (placed_by_want want)
    where
      go : (b : Bool) (x : Option (Mode × Term)) → EachOf (λ q. ThereAfter a q.name) (if b then [] else option_map_or (λ m. request_on (Row t r) m ∷ []) x [])
      go true x = tt
      go false None = tt
      go false (Some m) = (k, tt)

  next-there : (a : Act) (i : IndexId) (range : Range) (at : Option (Value × Rid)) (guarded : Bool)
      → (is_there head w (next_name w i range at) ≡ true → ThereAfter a (next_name w i range at)) → may_next head w c i range at guarded ≡ true
      → EachOf (λ r. ThereAfter a r.name) (guarded_next w i range at guarded)
  next-there a i range at false h may = tt
  next-there a i range at true h may = (h ((and_parts _ _ ((and_parts (is_index head i) _ may).1)).0), tt)

  claim-there : (a : Act) → ((n : Name) → is_there head w n ≡ true → ThereAfter a n) → HandThere a (claimed w c)
  unfolding WaitsThere
  claim-there a h = go (wait_of w.waits c) refl
    where
      go : (x : Option Wait) → wait_of w.waits c ≡ x
          → HandThere a (option_map_or (λ y. Places (record { name = y.name; mode = y.target; term = y.term } ∷ [])) x Leaves)
      go None k = tt
      go (Some x) k = (h x.name (s.awaited_there c x k), tt)

  row-new : (t : TableId) (r : Rid) (row : List Value) → r ≡ next_rid w t → t.0 < length head.tables → ThereAfter (Insert t r row) (Row t r)
  row-new t r row e lt =
      let more = slot-new w (unit_of w c) t row (let same = s.parts.tables in omega arith) in
      let at : r.0 ≡ slots w t = ap (λ (x : Rid). x.0) e in
      lt-ltb r.0 (slots (after head w (record { who = Agent c; act = Insert t r row })) t) (omega arith)

  inherited-there : (a : Act) (t : TableId) (r : Rid) (row : List Value) → pairing_of a ≡ Gains t r row
      → EachOf (λ q. ThereAfter a q.name) (inheriting head w c t row)
  inherited-there a t r row e =
      each-inherited head w c t row (λ q. ThereAfter a q.name)
      (λ i on inh. rw e (key-gained head w t r row i (lt-ltb _ _ (index-within head t i on)) (among-indexes head t i on)))

  hand-there : (a : Act) → ByAgent head w c a → HandThere a (hand_of head w c a)
  hand-there (Lock n m t why Got.Granted) al = (stays (Lock n m t why Got.Granted) al n (lock-there n m t why Got.Granted al.1), tt)
  hand-there (Lock n m t why (Got.Queued q)) al = tt
  hand-there (Lock n m t why Got.TimedOut) al = tt
  hand-there (Look t r want Got.Granted) al =
      look-there (Look t r want Got.Granted) t r want (stays (Look t r want Got.Granted) al (Row t r) ((and_parts _ _ al.1).0))
  hand-there (Look t r want (Got.Queued q)) al = tt
  hand-there (Look t r want Got.TimedOut) al = tt
  hand-there (Next i range at guarded (At v r)) al =
      next-there (Next i range at guarded (At v r)) i range at guarded (stays (Next i range at guarded (At v r)) al (next_name w i range at)) al.1
  hand-there (Next i range at guarded Past) al =
      next-there (Next i range at guarded Past) i range at guarded (stays (Next i range at guarded Past) al (next_name w i range at)) al.1
  hand-there (Next i range at guarded (Stand.Queued n)) al = tt
  hand-there (Next i range at guarded (Stand.TimedOut n)) al = tt
  hand-there Claim al = claim-there Claim (stays Claim al)
  hand-there (Insert t r row) al =
      (row-new t r row al.3 (fits-table head t row al.2), inherited-there (Insert t r row) t r row refl)
  hand-there (Update t r row) al = inherited-there (Update t r row) t r row refl
  hand-there _ al = tt

  -- each name that is held is there after the entry
  abbrev ThereIn : Act → List Hold → Type 0
  ThereIn a hs = (d : Conn) (n : Name) (h : Hold) → hold_on hs d n ≡ Some h → ThereAfter a n

  there-settled : (a : Act) (spare : Option Name) (hs : List Hold) → ThereIn a hs → ThereIn a (settled c spare hs)
  there-settled a spare hs k d n h e = go (hold_on hs d n) refl
    where
      go : (x : Option Hold) → hold_on hs d n ≡ x → ThereAfter a n
      go None f = cc (sym (hold_on-settled c spare hs d n ∙ ap (option_map (settled_one c spare)) f) ∙ e)
      go (Some g) f = k d n g f

  there-added : (a : Act) (hs : List Hold) (r : Request) → ThereAfter a r.name → ThereIn a hs → ThereIn a (added hs c r)
  there-added a hs r new k d n h e = go (conn_eq c d && name_eq r.name n) refl
    where
      go : (b : Bool) → (conn_eq c d && name_eq r.name n) ≡ b → ThereAfter a n
      go true f = subst (λ (x : Name). ThereAfter a x) (name_is r.name n ((and_parts _ _ f).1)) new
      go false f = k d n h (sym (hold_on-other c r d n f hs) ∙ e)

  there-filter : (a : Act) (q : Hold → Bool) (hs : List Hold) → AreSingle hs → ThereIn a hs → ThereIn a (filter q hs)
  there-filter a q hs one k d n h e = k d n h (hold_on-filter q hs one d n h e)

  there-hand : (a : Act) (hand : Hand) (hs : List Hold) → AreSingle hs → HandThere a hand → ThereIn a hs → ThereIn a (holds_by_hand head c hand hs)
  there-hand a Leaves hs one f k = k
  there-hand a (Places rs) hs one f k =
      all-keep head c (λ xs r. ThereAfter a r.name) (ThereIn a) (λ xs r e g l. there-added a xs r g l) hs rs
      (along-each head c (λ r. ThereAfter a r.name) hs rs f) k
  there-hand a (Frees n) hs one f k = there-filter a _ hs one k
  there-hand a (Collapses t) hs one f k = there-filter a _ hs one k
  there-hand a Drops hs one f k = there-filter a _ hs one k

  there-agent : (a : Act) → ByAgent head w c a → ThereIn a (holds_by head w (Agent c) a)
  unfolding HoldsThere
  there-agent a al =
      let spare = spared a (w.last c) in
      let hs : List Hold = settled c spare w.holds in
      let one : AreSingle hs = single-settled c spare w.holds s.single in
      let hand = hand_of head w c a in
      there-filter a _ (holds_by_hand head c hand hs) (single-hand head c hand hs one)
      (there-hand a hand hs one (hand-there a al) (there-settled a spare w.holds (λ d n h e. stays a al n (s.there d n h e))))

-- what is held is in use
pub held-used : (w : World) (d : Conn) (n : Name) (h : Hold) → hold_on w.holds d n ≡ Some h → is_in_use w n ≡ true
held-used w d n h e =
    let named : h.name ≡ n = (of-is d n h (find-is (is_hold_of d n) w.holds h e)).1 in
    let same : name_eq h.name n ≡ true = ap (λ (x : Name). name_eq x n) named ∙ name_same n in
    let used : list_any (λ x. name_eq x.name n) w.holds ≡ true = any-found (is_hold_of d n) (λ (x : Hold). name_eq x.name n) w.holds h e same in
    rw used refl

there-by : (head : Head) (w : World) (who : Who) (a : Act) → By head w who a → LocksSound head w
    → HoldsThere head (after head w (record { who = who; act = a }))
unfolding HoldsThere
there-by head w Dispatcher a al s d n h e =
    there-stays head w (record { who = Dispatcher; act = a }) s.parts n (dispatcher-spares head w a al n (held-used w d n h e)) (s.there d n h e)
there-by head w (Agent c) a al s d n h e = there-agent head w c s a al.1 d n h e

pub there-after : (head : Head) (w : World) (e : Entry) → Allowed head w e → LocksSound head w → HoldsThere head (after head w e)
there-after head w e al s = there-by head w e.who e.act al.2 s
