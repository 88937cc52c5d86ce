-- Who awaits a row or key name holds its table.
use Rattle.std.proofs.Common.{◌≡◌, true, false, not, List, refl, ap, sym, ◌∙◌, Some, ◌⊎◌, inl, inr}
use Rattle.iso_history.proofs.facts.Backed.{at_least-filter, brief-kept, collapse-keeps, free-keeps}
use Rattle.iso_history.proofs.facts.Single.{single-settled}
use Rattle.iso_history.proofs.facts.Tables.{at_table, tables-hand, tables-settled}
use Rattle.iso_history.proofs.locks.Finds.{find-is}
use Rattle.iso_history.proofs.locks.Hands.{hand-stands}
use Rattle.iso_history.proofs.locks.Holds.{held-settled, of-is}
use Rattle.iso_history.proofs.locks.Joins.{JoinStands, joins-stand}
use Rattle.iso_history.proofs.locks.Modes.{at_least-added}
use Rattle.iso_history.proofs.locks.Placing.{all-keep, at_least-alike}
use Rattle.iso_history.proofs.locks.Fits.{MayStand, apart-turned}
use Rattle.iso_history.proofs.locks.Queues.{wait-queued, wait-unqueued}
use Rattle.iso_history.proofs.locks.Same.{conn_is}
use Rattle.iso_history.proofs.locks.Stands.{HandStands}
use Rattle.iso_history.specs.After.{after}
use Rattle.iso_history.specs.Facts.{LocksSound, WaitsBacked}
use Rattle.iso_history.specs.Holds.{Hand, hand_of, holds_by, holds_by_hand, spared}
use Rattle.iso_history.specs.Holds.Hand.{Collapses, Drops, Frees, Leaves, Places}
use Rattle.iso_history.specs.Legal.{Allowed, By}
use Rattle.iso_history.specs.Requests.{table_mode}
use Rattle.iso_history.specs.Waits.{Joining, joining_of, joining_of_agent, waits_by}
use Rattle.iso_history.specs.Waits.Joining.{Joins, Passes, Quits}
use Rattle.iso_history.specs.World.{World}
use Rattle.iso_history.specs.declared.entry.Act.{Act}
use Rattle.iso_history.specs.declared.entry.Act.TheVariants.{Claim, Commit, Lock, Look, Next, Rollback}
use Rattle.iso_history.specs.declared.entry.Entry.{Entry}
use Rattle.iso_history.specs.declared.entry.Got.{Got}
use Rattle.iso_history.specs.declared.entry.Stand.{Stand}
use Rattle.iso_history.specs.declared.entry.Stand.TheVariants.{At, Past}
use Rattle.iso_history.specs.declared.entry.Who.{Who}
use Rattle.iso_history.specs.declared.entry.Who.TheVariants.{Agent, Dispatcher}
use Rattle.iso_modes.specs.declared.Mode.{Mode}
use Rattle.iso_queue.specs.Locks.{Hold, hold_on, holds_at_least, is_hold_of, settled}
use Rattle.iso_queue.specs.Queues.{Wait, queued, wait_of}
use Rattle.iso_types.specs.Head.{table_of}
use Rattle.iso_types.specs.Ids.{conn_eq}
use Rattle.iso_types.specs.declared.head.Head.{Head}
use Rattle.iso_types.specs.declared.value.Conn.{Conn}
use Rattle.iso_types.specs.declared.value.Name.TheVariants.{Table}
use Rattle.iso_types.specs.declared.value.TableId.{TableId}

module _ (head : Head) (d : Conn) (t : TableId) (m : Mode) where
  -- the connection holds the table in the mode or more
  abbrev pub HasTable : List Hold → Type 0
  HasTable hs = holds_at_least hs d (Table t) m ≡ true

  table-named : (hs : List Hold) (g : Hold) → hold_on hs d (Table t) ≡ Some g → (g.conn ≡ d) × (g.name ≡ Table t)
  table-named hs g e = of-is d (Table t) g (find-is (is_hold_of d (Table t)) hs g e)

  -- a table stays held, unless all goes
  table-hand : (c : Conn) (hand : Hand) (hs : List Hold) → HandStands head c hs hand → (hand ≡ Drops → conn_eq c d ≡ false) → HasTable hs
      → HasTable (holds_by_hand head c hand hs)
  table-hand c Leaves hs f other e = e
  table-hand c (Places rs) hs f other e = all-keep head c (MayStand head c) HasTable (λ xs r u g k. at_least-added c r xs d (Table t) m k) hs rs f e
  table-hand c (Frees n) hs f other e = at_least-filter _ hs d (Table t) (λ g k. free-keeps c d n t g (f t) (table-named hs g k).1) m e
  table-hand c (Collapses u) hs f other e = at_least-filter _ hs d (Table t) (λ g k. collapse-keeps head c u t g (table-named hs g k).1) m e
  table-hand c Drops hs f other e =
      at_least-filter _ hs d (Table t) (λ g k. ap (λ (z : Conn). not (conn_eq z c)) (table-named hs g k).0 ∙ ap not (apart-turned c d (other refl))) m e

  -- after an agent's entry
  pub table-stays : (w : World) (c : Conn) (a : Act) → By head w (Agent c) a → LocksSound head w → (hand_of head w c a ≡ Drops → conn_eq c d ≡ false)
      → HasTable w.holds → HasTable (holds_by head w (Agent c) a)
  table-stays w c a al s other e =
      let spare = spared a (w.last c) in
      let hs : List Hold = settled c spare w.holds in
      let one = single-settled c spare w.holds s.single in
      let hand = hand_of head w c a in
      let fits = hand-stands head w c spare a s al.1 in
      let kept = tables-hand head c hand hs one fits (tables-settled c spare w.holds s.tables) in
      let old : HasTable hs = at_least-alike hs w.holds d (Table t) m (held-settled c spare w.holds) ∙ e in
      at_least-filter _ (holds_by_hand head c hand hs) d (Table t) (λ g k. brief-kept w.holds c g (at_table (holds_by_hand head c hand hs) kept d t g k)) m
      (table-hand c hand hs fits other old)

-- whose unit ends quits
drop-quits : (head : Head) (w : World) (c d : Conn) (a : Act) (y : Wait) → wait_of (waits_by w (joining_of_agent w c a)) d ≡ Some y
    → hand_of head w c a ≡ Drops → conn_eq c d ≡ false
drop-quits head w c d Commit y e h = (wait-unqueued c d w.waits y e).1
drop-quits head w c d (Rollback code reason) y e h = (wait-unqueued c d w.waits y e).1
drop-quits head w c d Act.Ended y e h = (wait-unqueued c d w.waits y e).1
drop-quits head w c d Claim y e h = (wait-unqueued c d w.waits y e).1
drop-quits head w c d (Lock n m t why Got.Granted) y e h = cc
drop-quits head w c d (Lock n m t why (Got.Queued q)) y e h = cc
drop-quits head w c d (Lock n m t why Got.TimedOut) y e h = cc
drop-quits head w c d (Look t r want Got.Granted) y e h = cc
drop-quits head w c d (Look t r want (Got.Queued q)) y e h = cc
drop-quits head w c d (Look t r want Got.TimedOut) y e h = cc
drop-quits head w c d (Next i range at guarded (At v r)) y e h = cc
drop-quits head w c d (Next i range at guarded Past) y e h = cc
drop-quits head w c d (Next i range at guarded (Stand.Queued n)) y e h = cc
drop-quits head w c d (Next i range at guarded (Stand.TimedOut n)) y e h = cc
drop-quits head w c d _ y e h = cc

module _ (head : Head) (w : World) (s : LocksSound head w) where
  -- what is awaited is backed by the old holds
  before-backed : (j : Joining) → JoinStands head w j → (d : Conn) (t : TableId) (y : Wait) → wait_of (waits_by w j) d ≡ Some y → table_of head y.name ≡ Some t
      → holds_at_least w.holds d (Table t) (table_mode y.target) ≡ true
  unfolding WaitsBacked
  before-backed Passes f d t y e on = s.awaited d t y e on
  before-backed (Joins x) f d t y e on = go (wait-queued w.holds x w.waits d y f.alone e)
    where
      go : (wait_of w.waits d ≡ Some y) ⊎ (y ≡ x) → holds_at_least w.holds d (Table t) (table_mode y.target) ≡ true
      go (inl old) = s.awaited d t y old on
      go (inr new) =
          let own : x.conn ≡ d =
          ap (λ (z : Wait). z.conn) (sym new) ∙ conn_is y.conn d (find-is (λ (z : Wait). conn_eq z.conn d) (queued w.holds x w.waits) y e) in
          ap (λ (z : Wait). holds_at_least w.holds d (Table t) (table_mode z.target)) new
          ∙ ap (λ (c : Conn). holds_at_least w.holds c (Table t) (table_mode x.target)) (sym own)
          ∙ f.backed t (ap (λ (z : Wait). table_of head z.name) (sym new) ∙ on)
  before-backed (Quits c) f d t y e on = s.awaited d t y (wait-unqueued c d w.waits y e).0 on

  awaited-by : (who : Who) (a : Act) → By head w who a → WaitsBacked head (holds_by head w who a) (waits_by w (joining_of w who a))
  unfolding WaitsBacked
  awaited-by Dispatcher a al d t y e on = before-backed (joining_of w Dispatcher a) (joins-stand head w Dispatcher a al s) d t y e on
  awaited-by (Agent c) a al d t y e on =
      table-stays head d t (table_mode y.target) w c a al s (drop-quits head w c d a y e)
      (before-backed (joining_of w (Agent c) a) (joins-stand head w (Agent c) a al s) d t y e on)

pub awaited-after : (head : Head) (w : World) (e : Entry) → Allowed head w e → LocksSound head w
    → WaitsBacked head (after head w e).holds (after head w e).waits
awaited-after head w e al s = awaited-by head w s e.who e.act al.2
