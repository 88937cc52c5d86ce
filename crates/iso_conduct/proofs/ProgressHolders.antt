-- Who holds or awaits a name is a connection of the head that has not ended.
use Rattle.std.proofs.Common.{◌≡◌, ℕ, zero, suc, Bool, true, false, not, ◌&&◌, ◌||◌, List, [], ◌∷◌, take, filter, refl, sym, ap, subst, Option, Some, None}
use Rattle.std.specs.List.{AllByRecursion}
use Rattle.std.specs.Option.{option_map_or}
use Rattle.std.proofs.lemmas.Bool.{and_parts, both_ways, not-true}
use Rattle.iso_history.proofs.Snoc.{along}
use Rattle.iso_history.specs.After.{after, world}
use Rattle.iso_history.specs.Holds.{Hand, hand_of, holds_by_agent, holds_by_hand, spared}
use Rattle.iso_history.specs.Holds.Hand.{Collapses, Drops, Frees, Leaves, Places}
use Rattle.iso_history.specs.Legal.{By, ByAgent, Ground, RollbackStands}
use Rattle.iso_history.specs.Phases.{ended_by, is_phase, phase, victim}
use Rattle.iso_history.specs.Waits.{Joining, joining_of_agent, joining_of_dispatcher, waits_by}
use Rattle.iso_history.specs.Waits.Joining.{Joins, Passes, Quits}
use Rattle.iso_history.specs.World.{World, at_conn}
use Rattle.iso_history.specs.declared.entry.Act.{Act}
use Rattle.iso_history.specs.declared.entry.Act.TheVariants.{Back, Claim, Collapse, Commit, Delete, Expire, Free, Insert, Lock, Look, Mark, Next, Refused, Reply, Rollback, ScanEnd, Set, Stopped, Undo, Update, Victim}
use Rattle.iso_history.specs.declared.entry.Cause.{Cause}
use Rattle.iso_history.specs.declared.entry.Entry.{Entry}
use Rattle.iso_history.specs.declared.entry.Got.{Got}
use Rattle.iso_history.specs.declared.entry.Stand.{Stand}
use Rattle.iso_history.specs.declared.entry.Who.{Who}
use Rattle.iso_history.specs.declared.entry.Who.TheVariants.{Agent, Dispatcher}
use Rattle.iso_modes.specs.Terms.{is_fresh}
use Rattle.iso_queue.specs.Locks.{Hold, Request, added, all_placed, is_covered, is_hold_of, is_spared, placed, settled, settled_one}
use Rattle.iso_queue.specs.Queues.{Wait, is_new_beside, queued}
use Rattle.iso_queue.specs.Locks.{is_held}
use Rattle.iso_types.specs.Head.{is_conn}
use Rattle.iso_types.specs.Ids.{conn_eq}
use Rattle.iso_types.specs.declared.desk.Phase.{Phase}
use Rattle.iso_types.specs.declared.desk.Phase.TheVariants.{Closing, Rolling, Running}
use Rattle.iso_types.specs.declared.head.Head.{Head}
use Rattle.iso_types.specs.declared.value.Conn.{Conn}
use Rattle.iso_types.specs.declared.value.Name.{Name}

-- ---- lists

pub all-filter : {A : Type 0} (P Q : A → Type 0) (q : A → Bool) → ((x : A) → P x → q x ≡ true → Q x) → (xs : List A) → AllByRecursion P xs
    → AllByRecursion Q (filter q xs)
all-filter P Q q sub [] h = tt
all-filter P Q q sub (x ∷ xs) h = decide (all-filter P Q q sub xs h.1) (q x) refl where
  decide : AllByRecursion Q (filter q xs) → (b : Bool) → q x ≡ b → AllByRecursion Q (filter q (x ∷ xs))
  decide ih true e = rw e (sub x h.0 e, ih)
  decide ih false e = rw e ih

pub all-take : {A : Type 0} (P : A → Type 0) (n : ℕ) (xs : List A) → AllByRecursion P xs → AllByRecursion P (take n xs)
all-take P zero xs h = tt
all-take P (suc n) [] h = tt
all-take P (suc n) (x ∷ xs) h = (h.0, all-take P n xs h.1)

-- ---- the holds after an entry

module _ (P : Conn → Type 0) (c : Conn) where
  -- each hold's connection has the property
  abbrev Held : List Hold → Type 0
  Held hs = AllByRecursion (λ h. P h.conn) hs

  held-filter : (q : Hold → Bool) (hs : List Hold) → Held hs → Held (filter q hs)
  held-filter q hs h = all-filter (λ (x : Hold). P x.conn) (λ (x : Hold). P x.conn) q (λ x p e. p) hs h

  held-settled : (spare : Option Name) (hs : List Hold) → Held hs → Held (settled c spare hs)
  held-settled spare [] h = tt
  held-settled spare (x ∷ xs) h = (subst P (sym (same x)) h.0, held-settled spare xs h.1) where
    same : (x : Hold) → (settled_one c spare x).conn ≡ x.conn
    same x = decide (conn_eq x.conn c && (is_fresh x.term && not (is_spared spare x))) refl where
      decide : (b : Bool) → (conn_eq x.conn c && (is_fresh x.term && not (is_spared spare x))) ≡ b → (settled_one c spare x).conn ≡ x.conn
      decide true e = rw e refl
      decide false e = rw e refl

  module _ (own : P c) where
    held-added : (r : Request) (hs : List Hold) → Held hs → Held (added hs c r)
    held-added r [] h = (own, tt)
    held-added r (x ∷ xs) h = decide (held-added r xs h.1) (is_hold_of c r.name x) refl where
      decide : Held (added xs c r) → (b : Bool) → is_hold_of c r.name x ≡ b → Held (added (x ∷ xs) c r)
      decide ih true e = rw e (h.0, h.1)
      decide ih false e = rw e (h.0, ih)

    held-placed : (head : Head) (r : Request) (hs : List Hold) → Held hs → Held (placed head hs c r)
    held-placed head r hs h = decide (is_covered head hs c r.name r.mode) refl where
      decide : (b : Bool) → is_covered head hs c r.name r.mode ≡ b → Held (placed head hs c r)
      decide true e = rw e h
      decide false e = rw e (held-added r hs h)

    held-all_placed : (head : Head) (rs : List Request) (hs : List Hold) → Held hs → Held (all_placed head hs c rs)
    held-all_placed head [] hs h = h
    held-all_placed head (r ∷ rs) hs h = held-all_placed head rs (placed head hs c r) (held-placed head r hs h)

    held-hand : (head : Head) (hand : Hand) (hs : List Hold) → Held hs → Held (holds_by_hand head c hand hs)
    held-hand head Leaves hs h = h
    held-hand head (Places rs) hs h = held-all_placed head rs hs h
    held-hand head (Frees n) hs h = held-filter _ hs h
    held-hand head (Collapses t) hs h = held-filter _ hs h
    held-hand head Drops hs h = held-filter _ hs h

    pub held-by : (head : Head) (w : World) (a : Act) → Held w.holds → Held (holds_by_agent head w c a)
    held-by head w a h =
        held-filter _ (holds_by_hand head c (hand_of head w c a) (settled c (spared a (w.last c)) w.holds))
        (held-hand head (hand_of head w c a) (settled c (spared a (w.last c)) w.holds) (held-settled (spared a (w.last c)) w.holds h))

  -- the end of a connection drops its own
  pub held-ended : (Q : Conn → Type 0) → ((d : Conn) → P d → conn_eq d c ≡ false → Q d) → (head : Head) (w : World)
      → AllByRecursion (λ h. P h.conn) w.holds → AllByRecursion (λ h. Q h.conn) (holds_by_agent head w c Act.Ended)
  held-ended Q sub head w h =
      all-filter (λ (x : Hold). Q x.conn) (λ (x : Hold). Q x.conn) _ (λ x p e. p) _
      (all-filter (λ (x : Hold). P x.conn) (λ (x : Hold). Q x.conn) _ (λ x p e. sub x.conn p (not-true (conn_eq x.conn c) e)) _
      (held-settled (spared Act.Ended (w.last c)) w.holds h))

-- ---- who makes an entry has not ended

pub alive-of : (w : World) (c : Conn) (P : Phase → Type 0) → (P Phase.Ended → ⊥) → P (phase w c) → w.ended c ≡ false
alive-of w c P none h = decide (w.ended c) refl where
  decide : (b : Bool) → w.ended c ≡ b → w.ended c ≡ false
  decide true e = let at : phase w c ≡ Phase.Ended = rw e refl in absurd (none (subst P at h))
  decide false e = e

-- the maker of this entry has not ended
module _ (w : World) (c : Conn) where
  in-phase : (p : Phase) → is_phase Phase.Ended p ≡ false → phase w c ≡ p → w.ended c ≡ false
  in-phase p out e =
      alive-of w c (λ x. x ≡ p)
      (λ k. both_ways (is_phase Phase.Ended p) out (ap (λ (x : Phase). is_phase Phase.Ended x) (sym k)))
      e

  running : phase w c ≡ Running → w.ended c ≡ false
  running e = in-phase Running refl e

  tested : (q : Phase → Bool) → q Phase.Ended ≡ false → q (phase w c) ≡ true → w.ended c ≡ false
  tested q out e = alive-of w c (λ x. q x ≡ true) (λ k. both_ways (q Phase.Ended) out k) e

  either : (a b : Bool) → (a ≡ true → w.ended c ≡ false) → (b ≡ true → w.ended c ≡ false) → (a || b) ≡ true → w.ended c ≡ false
  either true b f g h = f refl
  either false b f g h = g h

  pub maker-alive : (head : Head) (a : Act) → ByAgent head w c a → w.ended c ≡ false
  maker-alive head (Lock n m t why got) al = running al.0.0
  maker-alive head Claim al = tested (λ x. is_phase x Phase.Waiting) refl (and_parts _ _ al).0
  maker-alive head (Look t r want got) al = running al.0.0
  maker-alive head (ScanEnd t n) al = running al.0.0
  maker-alive head (Next i range at guarded got) al = running al.0.0
  maker-alive head (Free t r) al = running al.0.0
  maker-alive head (Collapse t m) al = running al.0
  maker-alive head (Insert t r row) al = running al.0.0
  maker-alive head (Update t r row) al = running al.0.0
  maker-alive head (Delete t r) al = running al.0.0
  maker-alive head (Refused code) al = running al.0.0
  maker-alive head (Undo n) al = tested (λ x. is_phase x Running || is_phase x Rolling || is_phase x Closing) refl (and_parts _ _ al.0).0
  maker-alive head (Mark name) al = running al.0
  maker-alive head (Back name) al = running al.0.0
  maker-alive head (Set level may_wait) al = running al.0
  maker-alive head Commit al = running al.0
  maker-alive head (Rollback code reason) al = alive-of w c (λ x. RollbackStands w c code reason x) (λ k. k) al.0
  maker-alive head (Reply code changed rows) al = running al.0
  maker-alive head Act.Ended al = in-phase Closing refl al.0
  maker-alive head (Stopped Cause.Memory) al =
      either _ _ (tested (λ x. is_phase x Running) refl) (λ k. tested (λ x. is_phase x Phase.Waiting) refl (and_parts _ _ k).0) al
  maker-alive head (Stopped Cause.History) al =
      either _ _ (tested (λ x. is_phase x Running) refl) (λ k. tested (λ x. is_phase x Phase.Waiting) refl (and_parts _ _ k).0) (and_parts _ _ al).0
  maker-alive head (Stopped Cause.Table) al = tested (λ x. is_phase x Running) refl (and_parts _ _ al).0
  maker-alive head _ al = absurd al

-- ---- the fact

-- a connection of the head that has not ended
abbrev pub IsLive : Head → (Conn → Bool) → Conn → Type 0
IsLive head ended c = (is_conn head c ≡ true) × (ended c ≡ false)

-- so is each that holds or awaits a name
pub record AreLive (head : Head) (w : World) : Type 0 where
  pub holds : AllByRecursion (λ h. IsLive head w.ended h.conn) w.holds
  pub waits : AllByRecursion (λ x. IsLive head w.ended x.conn) w.waits

-- what joins is of such a connection
abbrev JoinsLive : (Conn → Type 0) → Joining → Type 0
JoinsLive P (Joins x) = P x.conn
JoinsLive P _ = Unit {0}

joins-own : (P : Conn → Type 0) (w : World) (c : Conn) (a : Act) → P c → JoinsLive P (joining_of_agent w c a)
joins-own P w c (Lock n m t y Got.Granted) p = tt
joins-own P w c (Lock n m t y (Got.Queued q)) p = p
joins-own P w c (Lock n m t y Got.TimedOut) p = tt
joins-own P w c (Look t r want Got.Granted) p = tt
joins-own P w c (Look t r want (Got.Queued q)) p = p
joins-own P w c (Look t r want Got.TimedOut) p = tt
joins-own P w c (Next i range at guarded (Stand.At v r)) p = tt
joins-own P w c (Next i range at guarded Stand.Past) p = tt
joins-own P w c (Next i range at guarded (Stand.Queued n)) p = p
joins-own P w c (Next i range at guarded (Stand.TimedOut n)) p = tt
joins-own P w c _ p = tt

joins-none : (P : Conn → Type 0) (w : World) (a : Act) → JoinsLive P (joining_of_dispatcher w a)
joins-none P w (Victim cycle) = by (victim w cycle) where
  by : (o : Option Conn) → JoinsLive P (option_map_or Quits o Passes)
  by None = tt
  by (Some c) = tt
joins-none P w (Expire line c true) = tt
joins-none P w (Expire line c false) = tt
joins-none P w _ = tt

queued-all : (P : Wait → Type 0) (holds : List Hold) (x : Wait) (ws : List Wait) → P x → AllByRecursion P ws → AllByRecursion P (queued holds x ws)
queued-all P holds x [] p h = (p, tt)
queued-all P holds x (y ∷ ys) p h = decide (queued-all P holds x ys p h.1) (is_held holds x.conn x.name && is_new_beside holds x y) refl where
  decide : AllByRecursion P (queued holds x ys) → (b : Bool) → (is_held holds x.conn x.name && is_new_beside holds x y) ≡ b
      → AllByRecursion P (queued holds x (y ∷ ys))
  decide ih true e = rw e (p, h)
  decide ih false e = rw e (h.0, ih)

waits-all : (P : Conn → Type 0) (w : World) (j : Joining) → JoinsLive P j → AllByRecursion (λ (x : Wait). P x.conn) w.waits
    → AllByRecursion (λ (x : Wait). P x.conn) (waits_by w j)
waits-all P w Passes j h = h
waits-all P w (Joins x) j h = queued-all (λ (y : Wait). P y.conn) w.holds x w.waits j h
waits-all P w (Quits c) j h = all-filter (λ (y : Wait). P y.conn) (λ (y : Wait). P y.conn) _ (λ x p e. p) w.waits h

live-by : (head : Head) (w : World) (who : Who) (a : Act) → By head w who a → AreLive head w → AreLive head (after head w (record { who = who; act = a }))
live-by head w Dispatcher a al l =
    record { holds = l.holds; waits = waits-all (IsLive head w.ended) w (joining_of_dispatcher w a) (joins-none (IsLive head w.ended) w a) l.waits }
live-by head w (Agent c) a al l = go a al.1 where
  alive : (b : Act) → ByAgent head w c b → IsLive head w.ended c
  alive b by = (al.0, maker-alive w c head b by)

  later : (d : Conn) → IsLive head w.ended d → conn_eq d c ≡ false → IsLive head (at_conn w.ended c true) d
  later d p e = (p.0, rw e p.1)

  kept : (b : Act) → ByAgent head w c b → ended_by w.ended (Agent c) b ≡ w.ended → AreLive head (after head w (record { who = Agent c; act = b }))
  kept b by same =
      record {
        holds = subst (λ (f : Conn → Bool). AllByRecursion (λ (h : Hold). IsLive head f h.conn) (holds_by_agent head w c b)) (sym same)
            (held-by (IsLive head w.ended) c (alive b by) head w b l.holds);
        waits = subst (λ (f : Conn → Bool). AllByRecursion (λ (x : Wait). IsLive head f x.conn) (waits_by w (joining_of_agent w c b))) (sym same)
            (waits-all (IsLive head w.ended) w (joining_of_agent w c b) (joins-own (IsLive head w.ended) w c b (alive b by)) l.waits);
      }

  go : (b : Act) → ByAgent head w c b → AreLive head (after head w (record { who = Agent c; act = b }))
  go Act.Ended by =
      record {
        holds = held-ended (IsLive head w.ended) c (IsLive head (at_conn w.ended c true)) later head w l.holds;
        waits = all-filter (λ (y : Wait). IsLive head w.ended y.conn) (λ (y : Wait). IsLive head (at_conn w.ended c true) y.conn) _
            (λ x p e. later x.conn p (not-true (conn_eq x.conn c) e)) w.waits l.waits;
      }
  go (Stopped cause) by = kept (Stopped cause) by refl
  go b by = kept b by refl

-- so it is in every legal history
pub live-world : (head : Head) (es : List Entry) → Ground head es → AreLive head (world head es)
live-world head es g = along head (AreLive head) (λ w e al l. live-by head w e.who e.act al.2 l) es (record { holds = tt; waits = tt }) g
