-- No wait is covered by its connection's table lock.
use Rattle.std.proofs.Common.{◌≡◌, ◌⊎◌, inl, inr, Bool, true, false, List, refl, ap, sym, ◌∙◌, Some, None, Option, option_map}
use Rattle.std.specs.Option.{option_map_or}
use Rattle.iso_history.proofs.facts.Keeping.{waiter-leaves}
use Rattle.iso_history.proofs.facts.Others.{hold_on-others}
use Rattle.iso_history.proofs.locks.Finds.{find-is}
use Rattle.iso_history.proofs.locks.Fits.{apart-turned}
use Rattle.iso_history.proofs.locks.Joins.{JoinStands, joins-stand}
use Rattle.iso_history.proofs.locks.Queues.{wait-queued, wait-unqueued}
use Rattle.iso_history.proofs.locks.Same.{conn_is}
use Rattle.iso_history.proofs.pending.Dues.{table-leaves}
use Rattle.iso_history.specs.After.{after, start}
use Rattle.iso_history.specs.Facts.{LocksSound, WaitsUncovered}
use Rattle.iso_history.specs.Holds.{holds_by_agent}
use Rattle.iso_history.specs.Legal.{Allowed, By}
use Rattle.iso_history.specs.Waits.{Joining, joining_of, joining_of_agent, waits_by}
use Rattle.iso_history.specs.Waits.Joining.{Joins, Passes, Quits}
use Rattle.iso_history.specs.World.{World}
use Rattle.iso_history.specs.declared.entry.Act.{Act}
use Rattle.iso_history.specs.declared.entry.Entry.{Entry}
use Rattle.iso_history.specs.declared.entry.Who.{Who}
use Rattle.iso_history.specs.declared.entry.Who.TheVariants.{Agent, Dispatcher}
use Rattle.iso_modes.specs.Modes.{covers}
use Rattle.iso_modes.specs.declared.Mode.{Mode}
use Rattle.iso_queue.specs.Locks.{Hold, held, is_covered, is_covered_on}
use Rattle.iso_queue.specs.Queues.{Wait, wait_of}
use Rattle.iso_types.specs.Head.{table_of}
use Rattle.iso_types.specs.Ids.{conn_eq}
use Rattle.iso_types.specs.declared.head.Head.{Head}
use Rattle.iso_types.specs.declared.value.Conn.{Conn}
use Rattle.iso_types.specs.declared.value.Name.{Name}
use Rattle.iso_types.specs.declared.value.Name.TheVariants.{Table}
use Rattle.iso_types.specs.declared.value.TableId.{TableId}

-- the same table locks cover the same
covered-like : (head : Head) (xs ys : List Hold) (c : Conn) (n : Name) (m : Mode) → ((t : TableId) → held xs c (Table t) ≡ held ys c (Table t))
    → is_covered head xs c n m ≡ is_covered head ys c n m
covered-like head xs ys c n m same = go (table_of head n)
  where
    go : (o : Option TableId) → option_map_or (is_covered_on xs c m) o false ≡ option_map_or (is_covered_on ys c m) o false
    go None = refl
    go (Some t) = ap (λ (o : Option Mode). option_map_or (λ h. covers h m) o false) (same t)

module _ (head : Head) (w : World) (s : LocksSound head w) (f : WaitsUncovered head w) where
  -- a wait of now is an old one or a new one, and neither is covered on the holds before the entry
  bare-before : (who : Who) (a : Act) → By head w who a → (d : Conn) (x : Wait) → wait_of (waits_by w (joining_of w who a)) d ≡ Some x
      → is_covered head w.holds d x.name x.target ≡ false
  unfolding WaitsUncovered
  bare-before who a al d x e = go (joining_of w who a) (joins-stand head w who a al s) e
    where
      found-own : (ws : List Wait) → wait_of ws d ≡ Some x → conn_eq x.conn d ≡ true
      found-own ws h = find-is (λ y. conn_eq y.conn d) ws x h

      go : (j : Joining) → JoinStands head w j → wait_of (waits_by w j) d ≡ Some x → is_covered head w.holds d x.name x.target ≡ false
      go Passes k h = f d x h
      go (Quits c) k h = f d x (wait-unqueued c d w.waits x h).0
      go (Joins y) k h = either (wait-queued w.holds y w.waits d x k.alone h)
        where
          own : x ≡ y → d ≡ y.conn
          own same = sym (conn_is x.conn d (found-own (waits_by w (Joins y)) h)) ∙ ap (λ (z : Wait). z.conn) same

          either : (wait_of w.waits d ≡ Some x) ⊎ (x ≡ y) → is_covered head w.holds d x.name x.target ≡ false
          either (inl old) = f d x old
          either (inr same) =
              ap (λ (z : Conn). is_covered head w.holds z x.name x.target) (own same)
              ∙ ap (λ (z : Wait). is_covered head w.holds y.conn z.name z.target) same ∙ k.bare

  uncovered-by : (who : Who) (a : Act) → By head w who a → (d : Conn) (x : Wait) → wait_of (waits_by w (joining_of w who a)) d ≡ Some x
      → is_covered head (after head w (record { who = who; act = a })).holds d x.name x.target ≡ false
  uncovered-by Dispatcher a al d x e = bare-before Dispatcher a al d x e
  uncovered-by (Agent c) a al d x e = go (conn_eq d c) refl
    where
      old : is_covered head w.holds d x.name x.target ≡ false
      old = bare-before (Agent c) a al d x e

      go : (b : Bool) → conn_eq d c ≡ b → is_covered head (holds_by_agent head w c a) d x.name x.target ≡ false
      go true k =
          let same : d ≡ c = conn_is d c k in
          let own : wait_of (waits_by w (joining_of_agent w c a)) c ≡ Some x = ap (wait_of (waits_by w (joining_of_agent w c a))) (sym same) ∙ e in
          ap (λ (z : Conn). is_covered head (holds_by_agent head w c a) z x.name x.target) same
          ∙ covered-like head (holds_by_agent head w c a) w.holds c x.name x.target
          (λ t. table-leaves head w s.tables c a t (waiter-leaves head w c a al.1 x own))
          ∙ ap (λ (z : Conn). is_covered head w.holds z x.name x.target) (sym same) ∙ old
      go false k =
          covered-like head (holds_by_agent head w c a) w.holds d x.name x.target
          (λ t. ap (option_map (λ (h : Hold). h.mode)) (hold_on-others c d (Table t) (apart-turned d c k) head w a)) ∙ old

pub uncovered-after : (head : Head) (w : World) (e : Entry) → Allowed head w e → LocksSound head w → WaitsUncovered head w
    → WaitsUncovered head (after head w e)
unfolding WaitsUncovered
uncovered-after head w e al s f d x some = uncovered-by head w s f e.who e.act al.2 d x some

pub start-uncovered : (head : Head) → WaitsUncovered head (start head)
unfolding WaitsUncovered
start-uncovered head c x e = cc
