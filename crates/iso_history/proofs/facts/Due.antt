-- Where a Collapse is due or awaited, the table's lock covers all that its connection holds on the table.
use Rattle.std.proofs.Common.{◌≡◌, Bool, true, false, not, ◌&&◌, List, [], ◌∷◌, refl, ap, sym, ◌∙◌, subst, Some, None, Option, option_map, filter, ◌⊎◌, inl, inr}
use Rattle.std.specs.Option.{option_map_or}
use Rattle.std.proofs.lemmas.Bool.{and_parts}
use Rattle.iso_history.proofs.facts.AwaitedThere.{dispatcher-waits}
use Rattle.iso_history.proofs.facts.Backed.{brief-kept}
use Rattle.iso_history.proofs.facts.Others.{hold_on-others, wait-others}
use Rattle.iso_history.proofs.facts.Single.{held-filter, single-hand, single-settled}
use Rattle.iso_history.proofs.facts.Tables.{at_table, tables-hand, tables-settled}
use Rattle.iso_history.proofs.locks.Finds.{find-filter_kept}
use Rattle.iso_history.proofs.locks.Fits.{apart-turned, held-from, queued_by}
use Rattle.iso_history.proofs.locks.Hands.{hand-stands}
use Rattle.iso_history.proofs.locks.Holds.{held-other, held-own, held-settled}
use Rattle.iso_history.proofs.locks.Joins.{runs-alone}
use Rattle.iso_history.proofs.locks.Modes.{escalated-covers, joined-twice, row-suits}
use Rattle.iso_history.proofs.locks.Queues.{wait-queued}
use Rattle.iso_history.proofs.locks.Same.{conn_is}
use Rattle.iso_history.specs.After.{after}
use Rattle.iso_history.specs.Facts.{AreSingle, AwaitedCovers, CoversAll, DuesCover, HoldsBacked, LocksSound, ModesSuit}
use Rattle.iso_history.specs.Holds.{Hand, hand_of, holds_by, holds_by_hand, spared}
use Rattle.iso_history.specs.Holds.Hand.{Leaves, Places}
use Rattle.iso_history.specs.Lasts.{due_of, due_of_claim, last_of}
use Rattle.iso_history.specs.Legal.{Allowed, By, ByAgent}
use Rattle.iso_history.specs.Requests.{asking, escalation, is_had, is_limited, is_row_mode, need_of, table_mode}
use Rattle.iso_history.specs.Waits.{joining_of_agent, waits_by}
use Rattle.iso_history.specs.World.{Last, World}
use Rattle.iso_history.specs.World.Last.{Awaits, Claimed, Looked, Other}
use Rattle.iso_history.specs.declared.entry.Act.{Act}
use Rattle.iso_history.specs.declared.entry.Act.TheVariants.{Claim, Lock, Look}
use Rattle.iso_history.specs.declared.entry.Entry.{Entry}
use Rattle.iso_history.specs.declared.entry.Got.{Got}
use Rattle.iso_history.specs.declared.entry.Who.{Who}
use Rattle.iso_history.specs.declared.entry.Who.TheVariants.{Agent, Dispatcher}
use Rattle.iso_history.specs.declared.entry.Why.TheVariants.{Asked, Blocked, Escalation}
use Rattle.iso_modes.specs.Modes.{at_least, covers, escalated, joined}
use Rattle.iso_modes.specs.Terms.{is_kept}
use Rattle.iso_modes.specs.declared.Mode.{Mode}
use Rattle.iso_modes.specs.declared.Mode.TheVariants.{X}
use Rattle.iso_modes.specs.declared.Term.{Term}
use Rattle.iso_queue.specs.Limits.{prey}
use Rattle.iso_queue.specs.Locks.{Hold, Request, added, held, hold_on, holds_at_least, is_hold_of, settled, target, without_briefs}
use Rattle.iso_queue.specs.Queues.{Wait, has_edge, wait_of, would_wait}
use Rattle.iso_types.specs.Head.{table_of}
use Rattle.iso_types.specs.Ids.{conn_eq, name_eq}
use Rattle.iso_types.specs.declared.head.Head.{Head}
use Rattle.iso_types.specs.declared.value.Conn.{Conn}
use Rattle.iso_types.specs.declared.value.Name.{Name}
use Rattle.iso_types.specs.declared.value.Name.TheVariants.{End, Key, Row, Table}
use Rattle.iso_types.specs.declared.value.TableId.{TableId}

module _ (head : Head) (c : Conn) (t : TableId) where
  -- the same, of modes
  abbrev pub CoversHeld : List Hold → Mode → Type 0
  CoversHeld hs m = (n : Name) (a : Mode) → table_of head n ≡ Some t → held hs c n ≡ Some a → covers m a ≡ true

  pub to_held : (hs : List Hold) (m : Mode) → CoversAll head hs c t m → CoversHeld hs m
  to_held hs m s n a on e = let g = held-from (hold_on hs c n) a e in rw g.2 at (s n g.0 on g.1)

  pub from_held : (hs : List Hold) (m : Mode) → CoversHeld hs m → CoversAll head hs c t m
  from_held hs m s n h on e = s n h.mode on (ap (option_map (λ (x : Hold). x.mode)) e)

  -- no name on a table is that table
  off-table : (n : Name) → table_of head n ≡ Some t → name_eq (Table t) n ≡ false
  unfolding name_eq
  off-table (Table u) on = cc
  off-table (Row u r) on = refl
  off-table (Key i v) on = refl
  off-table (End i) on = refl

  and_false : (a b : Bool) → b ≡ false → (a && b) ≡ false
  and_false true b e = e
  and_false false b e = refl

  -- a lock on the table, placed, leaves its target, and what it covers
  covers-added : (hs : List Hold) (m : Mode) (k : Term) → CoversHeld hs (target hs c (Table t) m)
      → (held (added hs c (record { name = Table t; mode = m; term = k })) c (Table t) ≡ Some (target hs c (Table t) m))
      × CoversHeld (added hs c (record { name = Table t; mode = m; term = k })) (target hs c (Table t) m)
  covers-added hs m k s = (
    held-own c (record { name = Table t; mode = m; term = k }) hs,
    λ n a on e. s n a on (sym (held-other c (record { name = Table t; mode = m; term = k }) c n (and_false _ _ (off-table n on)) hs) ∙ e),
  )

  -- a filter that leaves the table
  covers-filter : (q : Hold → Bool) (hs : List Hold) (m : Mode) → AreSingle hs → ((g : Hold) → hold_on hs c (Table t) ≡ Some g → q g ≡ true)
      → (held hs c (Table t) ≡ Some m) × CoversHeld hs m → (held (filter q hs) c (Table t) ≡ Some m) × CoversHeld (filter q hs) m
  covers-filter q hs m one keep s =
      let g = held-from (hold_on hs c (Table t)) m s.0 in (
        ap (option_map (λ (x : Hold). x.mode)) (find-filter_kept (is_hold_of c (Table t)) q hs g.0 g.1 (keep g.0 g.1)) ∙ ap Some g.2,
        λ n a on e. s.1 n a on (held-filter q hs one c n a e),
      )

-- to ask for the target twice changes nothing
target-twice : (hs : List Hold) (c : Conn) (n : Name) (m : Mode) → target hs c n (target hs c n m) ≡ target hs c n m
target-twice hs c n m = go (held hs c n)
  where
    of : Option Mode → Mode → Mode
    of x z = option_map_or (λ h. joined h z) x z

    go : (x : Option Mode) → of x (of x m) ≡ of x m
    go None = refl
    go (Some a) = joined-twice a m

module _ (head : Head) (w : World) (c : Conn) (s : LocksSound head w) (t : TableId) where
  -- the table of a held row or key name is held
  table-held : (n : Name) (a : Mode) → table_of head n ≡ Some t → held w.holds c n ≡ Some a
      → (b : Mode) × (held w.holds c (Table t) ≡ Some b) × (at_least b (table_mode a) ≡ true) × (is_row_mode a ≡ true)
  unfolding HoldsBacked ModesSuit
  table-held n a on e = go (held w.holds c (Table t)) refl backed
    where
      g : (h : Hold) × (hold_on w.holds c n ≡ Some h) × (h.mode ≡ a)
      g = held-from (hold_on w.holds c n) a e

      backed : holds_at_least w.holds c (Table t) (table_mode a) ≡ true
      backed = rw g.2 at (s.backed c n t g.0 on g.1)

      suits : is_row_mode a ≡ true
      suits = row-suits head n t a on (rw g.2 at (s.suits c n g.0 g.1))

      go : (x : Option Mode) → held w.holds c (Table t) ≡ x → option_map_or (λ z. at_least z (table_mode a)) x false ≡ true
          → (b : Mode) × (held w.holds c (Table t) ≡ Some b) × (at_least b (table_mode a) ≡ true) × (is_row_mode a ≡ true)
      go None k f = cc
      go (Some b) k f = (b, k, f, suits)

  -- the mode that an escalation asks for covers what is held
  escalation-covers : (m : Mode) → escalation head w c ≡ Some (t, m) → CoversHeld head c t w.holds (target w.holds c (Table t) m)
  escalation-covers m e n a on f = go (prey head w.holds c) e
    where
      prey_mode : TableId → TableId × Mode
      prey_mode u = (u, option_map_or escalated (held w.holds c (Table u)) X)

      go : (x : Option TableId) → option_map prey_mode x ≡ Some (t, m) → covers (target w.holds c (Table t) m) a ≡ true
      go None k = cc
      go (Some u) k =
          let same : u ≡ t = ap (λ (p : Option (TableId × Mode)). option_map_or (λ y. y.0) p u) k in
          let also : option_map_or escalated (held w.holds c (Table u)) X ≡ m = ap (λ (p : Option (TableId × Mode)). option_map_or (λ y. y.1) p m) k in
          let b = table-held n a on f in
          let is : escalated b.0 ≡ m =
          sym (ap (λ (x : Option Mode). option_map_or escalated x X) b.1)
          ∙ ap (λ (z : TableId). option_map_or escalated (held w.holds c (Table z)) X) (sym same) ∙ also in
          let joint : target w.holds c (Table t) m ≡ joined b.0 (escalated b.0) =
          ap (λ (x : Option Mode). option_map_or (λ h. joined h m) x m) b.1 ∙ ap (joined b.0) (sym is) in
          ap (λ (z : Mode). covers z a) joint ∙ escalated-covers b.0 a b.3 b.2

  -- after an entry that places a lock on the table
  own-covers : (a : Act) (m : Mode) (k : Term) → ByAgent head w c a → hand_of head w c a ≡ Places (record { name = Table t; mode = m; term = k } ∷ [])
      → CoversHeld head c t w.holds (target w.holds c (Table t) m)
      → (b : Mode) × (held (holds_by head w (Agent c) a) c (Table t) ≡ Some b) × CoversAll head (holds_by head w (Agent c) a) c t b
  own-covers a m k al e old =
      let spare = spared a (w.last c) in
      let hs : List Hold = settled c spare w.holds in
      let one : AreSingle hs = single-settled c spare w.holds s.single in
      let hand = hand_of head w c a in
      let fits = hand-stands head w c spare a s al in
      let kept = tables-hand head c hand hs one fits (tables-settled c spare w.holds s.tables) in
      let r : Request = record { name = Table t; mode = m; term = k } in
      let b : Mode = target hs c (Table t) m in
      let same : b ≡ target w.holds c (Table t) m = ap (λ (x : Option Mode). option_map_or (λ h. joined h m) x m) (held-settled c spare w.holds c (Table t)) in
      let base : CoversHeld head c t hs b = λ n z on f. ap (λ (y : Mode). covers y z) same ∙ old n z on (sym (held-settled c spare w.holds c n) ∙ f) in
      let is : holds_by_hand head c hand hs ≡ added hs c r = ap (λ (h : Hand). holds_by_hand head c h hs) e in
      let moved = subst (λ (xs : List Hold). (held xs c (Table t) ≡ Some b) × CoversHeld head c t xs b) (sym is) (covers-added head c t hs m k base) in
      let done = covers-filter head c t _ (holds_by_hand head c hand hs) b (single-hand head c hand hs one)
      (λ g f. brief-kept w.holds c g (at_table (holds_by_hand head c hand hs) kept c t g f)) moved in
      (b, done.0, from_held head c t (holds_by head w (Agent c) a) b done.1)

  -- after an entry that places nothing
  idle-covers : (a : Act) (q : Mode) → hand_of head w c a ≡ Leaves → CoversHeld head c t w.holds (target w.holds c (Table t) q)
      → CoversAll head (holds_by head w (Agent c) a) c t (target (holds_by head w (Agent c) a) c (Table t) q)
  idle-covers a q e old = from_held head c t holds (target holds c (Table t) q) covered
    where
      holds : List Hold
      holds = holds_by head w (Agent c) a

      hs : List Hold
      hs = settled c (spared a (w.last c)) w.holds

      one : AreSingle hs
      one = single-settled c (spared a (w.last c)) w.holds s.single

      same : holds ≡ without_briefs w.holds c hs
      same = ap (λ (h : Hand). without_briefs w.holds c (holds_by_hand head c h hs)) e

      stays : (b : Mode) → held w.holds c (Table t) ≡ Some b → held holds c (Table t) ≡ Some b
      stays b k =
          let g = held-from (hold_on hs c (Table t)) b (held-settled c (spared a (w.last c)) w.holds c (Table t) ∙ k) in
          let kept : is_kept g.0.term ≡ true = at_table hs (tables-settled c (spared a (w.last c)) w.holds s.tables) c t g.0 g.1 in
          ap (λ (xs : List Hold). held xs c (Table t)) same
          ∙ ap (option_map (λ (x : Hold). x.mode)) (find-filter_kept (is_hold_of c (Table t)) _ hs g.0 g.1 (brief-kept w.holds c g.0 kept)) ∙ ap Some g.2

      was : (n : Name) (z : Mode) → held holds c n ≡ Some z → held w.holds c n ≡ Some z
      was n z f =
          sym (held-settled c (spared a (w.last c)) w.holds c n) ∙ held-filter _ hs one c n z (sym (ap (λ (xs : List Hold). held xs c n) same) ∙ f)

      covered : CoversHeld head c t holds (target holds c (Table t) q)
      covered n z on f =
          let b = table-held n z on (was n z f) in
          let new : target holds c (Table t) q ≡ joined b.0 q = ap (λ (x : Option Mode). option_map_or (λ h. joined h q) x q) (stays b.0 b.1) in
          let past : target w.holds c (Table t) q ≡ joined b.0 q = ap (λ (x : Option Mode). option_map_or (λ h. joined h q) x q) b.1 in
          ap (λ (m : Mode). covers m z) (new ∙ sym past) ∙ old n z on (was n z f)

  -- a granted escalation, and a claimed one
  lock-due : (m : Mode) (k : Term) → ByAgent head w c (Lock (Table t) m k Escalation Got.Granted)
      → (b : Mode) × (held (holds_by head w (Agent c) (Lock (Table t) m k Escalation Got.Granted)) c (Table t) ≡ Some b)
      × CoversAll head (holds_by head w (Agent c) (Lock (Table t) m k Escalation Got.Granted)) c t b
  lock-due m k al = own-covers (Lock (Table t) m k Escalation Got.Granted) m k al refl (escalation-covers m al.1.1.1)

  claim-due : (m : Mode) → ByAgent head w c Claim → w.last c ≡ Awaits t m
      → (b : Mode) × (held (holds_by head w (Agent c) Claim) c (Table t) ≡ Some b) × CoversAll head (holds_by head w (Agent c) Claim) c t b
  unfolding AwaitedCovers
  claim-due m al e = go (wait_of w.waits c) refl (and_parts _ _ al).1
    where
      go : (x : Option Wait) → wait_of w.waits c ≡ x → option_map_or (λ y. not (has_edge w.holds w.waits y)) x false ≡ true
          → (b : Mode) × (held (holds_by head w (Agent c) Claim) c (Table t) ≡ Some b) × CoversAll head (holds_by head w (Agent c) Claim) c t b
      go None k f = cc
      go (Some x) k f =
          let old = s.awaited_dues c t m x e k in
          let hand : hand_of head w c Claim ≡ Places (record { name = Table t; mode = x.target; term = x.term } ∷ []) =
          ap (claimed_by) k ∙ ap (λ (n : Name). Places (record { name = n; mode = x.target; term = x.term } ∷ [])) old.0 in
          own-covers Claim x.target x.term al hand (to_held head c t w.holds (target w.holds c (Table t) x.target) old.1)
        where
          claimed_by : Option Wait → Hand
          claimed_by z = option_map_or (λ y. Places (record { name = y.name; mode = y.target; term = y.term } ∷ [])) z Leaves

  -- one that queues
  lock-awaits : (m q : Mode) (k : Term) → ByAgent head w c (Lock (Table t) m k Escalation (Got.Queued q))
      → CoversAll head (holds_by head w (Agent c) (Lock (Table t) m k Escalation (Got.Queued q))) c t
      (target (holds_by head w (Agent c) (Lock (Table t) m k Escalation (Got.Queued q))) c (Table t) q)
  lock-awaits m q k al = idle-covers (Lock (Table t) m k Escalation (Got.Queued q)) q refl old
    where
      had : (is_had head w c (Table t) m ≡ false) × (target w.holds c (Table t) m ≡ q)
      had =
          queued_by (is_had head w c (Table t) m) (is_limited head w c (need_of w c (Table t))) (would_wait w.holds w.waits (asking w c (Table t) m))
          (w.setting c).may_wait (target w.holds c (Table t) m) q al.1.1.2

      old : CoversHeld head c t w.holds (target w.holds c (Table t) q)
      old n z on f =
          ap (λ (x : Mode). covers (target w.holds c (Table t) x) z) (sym had.1) ∙ ap (λ (x : Mode). covers x z) (target-twice w.holds c (Table t) m)
          ∙ escalation-covers m al.1.1.1 n z on f

-- what covers the table's names, and is its mode
abbrev IsCovering : Head → List Hold → Conn → TableId → Type 0
IsCovering head holds c t = (b : Mode) × (held holds c (Table t) ≡ Some b) × CoversAll head holds c t b

module _ (head : Head) (w : World) (c : Conn) (s : LocksSound head w) where
  -- what an own entry makes due
  own-due : (a : Act) → ByAgent head w c a → (t : TableId) (m : Mode) → due_of a (w.last c) ≡ Some (t, m) → IsCovering head (holds_by head w (Agent c) a) c t
  own-due (Lock (Table u) n k Escalation Got.Granted) al t m e =
      let same : u ≡ t = ap (λ (p : Option (TableId × Mode)). option_map_or (λ y. y.0) p u) e in
      subst (λ (x : TableId). IsCovering head (holds_by head w (Agent c) (Lock (Table u) n k Escalation Got.Granted)) c x) same (lock-due head w c s u n k al)
  own-due (Lock (Table u) n k Escalation (Got.Queued q)) al t m e = cc
  own-due (Lock (Table u) n k Escalation Got.TimedOut) al t m e = cc
  own-due (Lock (Row u r) n k Escalation got) al t m e = absurd al.1.1
  own-due (Lock (Key i v) n k Escalation got) al t m e = absurd al.1.1
  own-due (Lock (End i) n k Escalation got) al t m e = absurd al.1.1
  own-due (Lock name n k Asked got) al t m e = cc
  own-due (Lock name n k Blocked got) al t m e = cc
  own-due Claim al t m e = go (w.last c) refl e
    where
      go : (x : Last) → w.last c ≡ x → due_of_claim x ≡ Some (t, m) → IsCovering head (holds_by head w (Agent c) Claim) c t
      go (Awaits u n) k f =
          let same : u ≡ t = ap (λ (p : Option (TableId × Mode)). option_map_or (λ y. y.0) p u) f in
          subst (λ (x : TableId). IsCovering head (holds_by head w (Agent c) Claim) c x) same (claim-due head w c s u n al k)
      go (Looked u r) k f = cc
      go Claimed k f = cc
      go Other k f = cc
  own-due _ al t m e = cc

  -- another connection's holds stay as they are
  others-covering : (d : Conn) (t : TableId) (a : Act) → conn_eq c d ≡ false → IsCovering head w.holds d t → IsCovering head (holds_by head w (Agent c) a) d t
  others-covering d t a away x = (
    x.0,
    ap (option_map (λ (h : Hold). h.mode)) (hold_on-others c d (Table t) away head w a) ∙ x.1,
    λ n h on e. x.2 n h on (sym (hold_on-others c d n away head w a) ∙ e),
  )

  -- what an own entry leaves to be awaited
  own-awaits : (a : Act) → ByAgent head w c a → (t : TableId) (m : Mode) (y : Wait) → last_of a ≡ Awaits t m
      → wait_of (waits_by w (joining_of_agent w c a)) c ≡ Some y
      → (y.name ≡ Table t) × CoversAll head (holds_by head w (Agent c) a) c t (target (holds_by head w (Agent c) a) c (Table t) y.target)
  own-awaits (Lock (Table u) n k Escalation (Got.Queued q)) al t m y e f = go (wait-queued w.holds x w.waits c y (runs-alone w c al.0.0) f)
    where
      x : Wait
      x = record { name = Table u; conn = c; target = q; term = k }

      holds : List Hold
      holds = holds_by head w (Agent c) (Lock (Table u) n k Escalation (Got.Queued q))

      same : u ≡ t
      same = cc

      go : (wait_of w.waits c ≡ Some y) ⊎ (y ≡ x) → (y.name ≡ Table t) × CoversAll head holds c t (target holds c (Table t) y.target)
      go (inl old) = cc (sym (runs-alone w c al.0.0) ∙ old)
      go (inr new) =
          subst (λ (z : Wait). (z.name ≡ Table t) × CoversAll head holds c t (target holds c (Table t) z.target)) (sym new)
          (ap Table same, subst (λ (v : TableId). CoversAll head holds c v (target holds c (Table v) q)) same (lock-awaits head w c s u n q k al))
  own-awaits (Lock (Table u) n k Escalation Got.Granted) al t m y e f = cc
  own-awaits (Lock (Table u) n k Escalation Got.TimedOut) al t m y e f = cc
  own-awaits (Lock (Row u r) n k Escalation got) al t m y e f = absurd al.1.1
  own-awaits (Lock (Key i v) n k Escalation got) al t m y e f = absurd al.1.1
  own-awaits (Lock (End i) n k Escalation got) al t m y e f = absurd al.1.1
  own-awaits (Lock name n k Asked got) al t m y e f = cc
  own-awaits (Lock name n k Blocked got) al t m y e f = cc
  own-awaits (Look u r want Got.Granted) al t m y e f = cc
  own-awaits (Look u r want (Got.Queued q)) al t m y e f = cc
  own-awaits (Look u r want Got.TimedOut) al t m y e f = cc
  own-awaits Claim al t m y e f = cc
  own-awaits _ al t m y e f = cc

dues-by : (head : Head) (w : World) (who : Who) (a : Act) → By head w who a → LocksSound head w → DuesCover head (after head w (record { who = who; act = a }))
unfolding DuesCover
dues-by head w Dispatcher a al s d t m e = s.dues d t m e
dues-by head w (Agent c) a al s d t m e = go (conn_eq d c) refl
  where
    go : (b : Bool) → conn_eq d c ≡ b → IsCovering head (holds_by head w (Agent c) a) d t
    go true k =
        let own : due_of a (w.last c) ≡ Some (t, m) = rw k at e in
        subst (λ (x : Conn). IsCovering head (holds_by head w (Agent c) a) x t) (sym (conn_is d c k)) (own-due head w c s a al.1 t m own)
    go false k = others-covering head w c s d t a (apart-turned d c k) (s.dues d t m (rw k at e))

pub dues-after : (head : Head) (w : World) (e : Entry) → Allowed head w e → LocksSound head w → DuesCover head (after head w e)
dues-after head w e al s = dues-by head w e.who e.act al.2 s

awaited_dues-by : (head : Head) (w : World) (who : Who) (a : Act) → By head w who a → LocksSound head w
    → AwaitedCovers head (after head w (record { who = who; act = a }))
unfolding AwaitedCovers
awaited_dues-by head w Dispatcher a al s d t m y e f = s.awaited_dues d t m y e (dispatcher-waits w a d y f)
awaited_dues-by head w (Agent c) a al s d t m y e f = go (conn_eq d c) refl
  where
    holds : List Hold
    holds = holds_by head w (Agent c) a

    go : (b : Bool) → conn_eq d c ≡ b → (y.name ≡ Table t) × CoversAll head holds d t (target holds d (Table t) y.target)
    go true k =
        subst (λ (x : Conn). (y.name ≡ Table t) × CoversAll head holds x t (target holds x (Table t) y.target)) (sym (conn_is d c k))
        (own-awaits head w c s a al.1 t m y (rw k at e) (ap (wait_of (waits_by w (joining_of_agent w c a))) (sym (conn_is d c k)) ∙ f))
    go false k =
        let away : conn_eq c d ≡ false = apart-turned d c k in
        let old = s.awaited_dues d t m y (rw k at e) (sym (wait-others w c d a away) ∙ f) in
        let same : target holds d (Table t) y.target ≡ target w.holds d (Table t) y.target =
        ap (λ (x : Option Hold). option_map_or (λ h. joined h y.target) (option_map (λ h. h.mode) x) y.target) (hold_on-others c d (Table t) away head w a) in
        (old.0, λ n h on g. ap (λ (x : Mode). covers x h.mode) same ∙ old.1 n h on (sym (hold_on-others c d n away head w a) ∙ g))

pub awaited_dues-after : (head : Head) (w : World) (e : Entry) → Allowed head w e → LocksSound head w → AwaitedCovers head (after head w e)
awaited_dues-after head w e al s = awaited_dues-by head w e.who e.act al.2 s
