-- An entry leaves the other connections where they stand.
use Rattle.std.proofs.Common.{◌≡◌, ℕ, Bool, true, false, List, refl, ◌∙◌, Some, None, Option}
use Rattle.iso_history.specs.After.{after}
use Rattle.iso_history.specs.Lines.{line_by, stage_of_agent}
use Rattle.std.specs.Option.{option_map_or}
use Rattle.iso_history.specs.Makers.{by_agent, by_dispatcher}
use Rattle.iso_history.specs.Phases.{closing_by, doom_by, doom_of_agent, ended_by, victim}
use Rattle.iso_history.specs.Phases.Doom.{Dooms, Spares}
use Rattle.iso_history.specs.Waits.Joining.{Passes, Quits}
use Rattle.iso_history.specs.Units.{turn_of_agent, unit_by}
use Rattle.iso_history.specs.Waits.{joining_of_agent, waits_by}
use Rattle.iso_history.specs.World.{World, at_conn}
use Rattle.iso_history.specs.declared.entry.Act.{Act}
use Rattle.iso_history.specs.declared.entry.Act.TheVariants.{Claim, Close, Commit, Dispatch, Expire, Lock, Look, Next, Reply, Rollback, Stopped, Victim}
use Rattle.iso_history.specs.declared.entry.Got.{Got}
use Rattle.iso_history.specs.declared.entry.Stand.{Stand}
use Rattle.iso_history.specs.declared.entry.Who.TheVariants.{Agent}
use Rattle.iso_queue.specs.Queues.{is_waiting}
use Rattle.iso_types.specs.Ids.{conn_eq}
use Rattle.iso_types.specs.declared.head.Head.{Head}
use Rattle.iso_types.specs.declared.value.Conn.{Conn}
use Rattle.iso_history.proofs.limits.Waiting.{conn_eq-refl, conn_eq-sym, waiting-queued-other, waiting-unqueued-other}

-- another connection keeps its value
pub at-other : {A : Type 0} (f : Conn → A) (c : Conn) (v : A) (d : Conn) → conn_eq d c ≡ false → at_conn f c v d ≡ f d
at-other f c v d e = rw e refl

-- the connection has the new one
pub at-same : {A : Type 0} (f : Conn → A) (c : Conn) (v : A) → at_conn f c v c ≡ v
at-same f c v = rw (conn_eq-refl c) refl

-- the connection stands in the second world as in the first, but for the records
pub record IsSameAt (w v : World) (d : Conn) : Type 0 where
  pub ended_same : v.ended d ≡ w.ended d
  pub closing_same : v.closing d ≡ w.closing d
  pub doom_same : v.doom d ≡ w.doom d
  pub waiting_same : is_waiting v.waits d ≡ is_waiting w.waits d
  pub line_same : v.line d ≡ w.line d
  pub unit_same : v.unit d ≡ w.unit d

ended-other : (f : Conn → Bool) (c : Conn) (a : Act) (d : Conn) → conn_eq d c ≡ false → ended_by f (Agent c) a d ≡ f d
ended-other f c Act.Ended d e = at-other f c true d e
ended-other f c _ d e = refl

closing-other : (f : Conn → Bool) (c : Conn) (a : Act) (d : Conn) → conn_eq d c ≡ false → closing_by f (Agent c) a d ≡ f d
closing-other f c (Stopped cause) d e = at-other f c true d e
closing-other f c _ d e = refl

doom-other : (f : Conn → Option ℕ) (c : Conn) (a : Act) (d : Conn) → conn_eq d c ≡ false → doom_by f (doom_of_agent c a) d ≡ f d
doom-other f c (Lock name mode term why Got.TimedOut) d e = at-other f c (Some 68) d e
doom-other f c (Look table rid want Got.TimedOut) d e = at-other f c (Some 68) d e
doom-other f c (Next index range past guarded (Stand.TimedOut name)) d e = at-other f c (Some 68) d e
doom-other f c (Rollback code reason) d e = at-other f c None d e
doom-other f c _ d e = refl

line-other : (f : Conn → Option ℕ) (c : Conn) (a : Act) (d : Conn) → conn_eq d c ≡ false → line_by f (stage_of_agent c a) d ≡ f d
line-other f c (Reply code changed rows) d e = at-other f c None d e
line-other f c Commit d e = at-other f c None d e
line-other f c (Rollback code reason) d e = at-other f c None d e
line-other f c Act.Ended d e = at-other f c None d e
line-other f c _ d e = refl

unit-other : (w : World) (c : Conn) (a : Act) (d : Conn) → conn_eq d c ≡ false → unit_by w (turn_of_agent c a) d ≡ w.unit d
unit-other w c Commit d e = at-other w.unit c None d e
unit-other w c (Rollback code reason) d e = at-other w.unit c None d e
unit-other w c Act.Ended d e = at-other w.unit c None d e
unit-other w c _ d e = refl

waits-other : (w : World) (c : Conn) (a : Act) (d : Conn) → conn_eq d c ≡ false
    → is_waiting (waits_by w (joining_of_agent w c a)) d ≡ is_waiting w.waits d
waits-other w c (Lock name mode term why (Got.Queued m)) d e = waiting-queued-other w.holds _ w.waits d (conn_eq-sym c d ∙ e)
waits-other w c (Look t r want (Got.Queued m)) d e = waiting-queued-other w.holds _ w.waits d (conn_eq-sym c d ∙ e)
waits-other w c (Next i range at guarded (Stand.Queued n)) d e = waiting-queued-other w.holds _ w.waits d (conn_eq-sym c d ∙ e)
waits-other w c Claim d e = waiting-unqueued-other c w.waits d e
waits-other w c Commit d e = waiting-unqueued-other c w.waits d e
waits-other w c (Rollback code reason) d e = waiting-unqueued-other c w.waits d e
waits-other w c Act.Ended d e = waiting-unqueued-other c w.waits d e
waits-other w c (Stopped cause) d e = waiting-unqueued-other c w.waits d e
waits-other w c _ d e = refl

-- an agent's entry leaves the other connections
pub others-agent : (head : Head) (w : World) (c : Conn) (a : Act) (d : Conn) → conn_eq d c ≡ false
    → IsSameAt w (after head w (by_agent c a)) d
others-agent head w c a d e = record {
  ended_same = ended-other w.ended c a d e;
  closing_same = closing-other w.closing c a d e;
  doom_same = doom-other w.doom c a d e;
  waiting_same = waits-other w c a d e;
  line_same = line-other w.line c a d e;
  unit_same = unit-other w c a d e;
}

-- an entry that changes nothing of it
pub same-at : (w v : World) (d : Conn) → v.ended d ≡ w.ended d → v.closing d ≡ w.closing d → v.doom d ≡ w.doom d
    → is_waiting v.waits d ≡ is_waiting w.waits d → v.line d ≡ w.line d → v.unit d ≡ w.unit d → IsSameAt w v d
same-at w v d e f g h i j = record { ended_same = e; closing_same = f; doom_same = g; waiting_same = h; line_same = i; unit_same = j }

-- a Dispatch and a Close leave the other connections
pub others-dispatch : (head : Head) (w : World) (line : ℕ) (c d : Conn) → conn_eq d c ≡ false
    → IsSameAt w (after head w (by_dispatcher (Dispatch line c))) d
others-dispatch head w line c d e = same-at _ _ d refl refl refl refl (at-other w.line c (Some line) d e) (at-other w.unit c _ d e)

pub others-close : (head : Head) (w : World) (c d : Conn) → conn_eq d c ≡ false → IsSameAt w (after head w (by_dispatcher (Close c))) d
others-close head w c d e = same-at _ _ d refl (at-other w.closing c true d e) refl refl refl refl

-- an Expire that ends a wait leaves the others
pub others-expire : (head : Head) (w : World) (line : ℕ) (c d : Conn) → conn_eq d c ≡ false
    → IsSameAt w (after head w (by_dispatcher (Expire line c true))) d
others-expire head w line c d e = same-at _ _ d refl refl (at-other w.doom c (Some 68) d e) (waiting-unqueued-other c w.waits d e) refl refl

-- a Victim leaves the others
pub others-victim : (head : Head) (w : World) (cycle : List Conn) (c d : Conn) → victim w cycle ≡ Some c → conn_eq d c ≡ false
    → IsSameAt w (after head w (by_dispatcher (Victim cycle))) d
others-victim head w cycle c d is e =
    same-at _ _ d refl refl (doomed (victim w cycle) is) (quit (victim w cycle) is) refl refl
  where
    doomed : (o : Option Conn) → o ≡ Some c → doom_by w.doom (option_map_or (λ x. Dooms x 2) o Spares) d ≡ w.doom d
    doomed o is = rw is (at-other w.doom c (Some 2) d e)

    quit : (o : Option Conn) → o ≡ Some c → is_waiting (waits_by w (option_map_or Quits o Passes)) d ≡ is_waiting w.waits d
    quit o is = rw is (waiting-unqueued-other c w.waits d e)
