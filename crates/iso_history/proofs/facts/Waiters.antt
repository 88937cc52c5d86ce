-- Who waits has an open statement, and need not roll back, does not close and has not ended.
use Rattle.std.proofs.Common.{◌≡◌, ℕ, Bool, true, false, ◌||◌, if◌then◌else◌, refl, ap, sym, ◌∙◌, subst, Some, None, Option, is_some, is_none}
use Rattle.std.specs.Option.{option_map_or}
use Rattle.std.proofs.lemmas.Bool.{and_parts}
use Rattle.iso_history.proofs.facts.AwaitedThere.{dispatcher-waits}
use Rattle.iso_history.proofs.facts.Others.{wait-others}
use Rattle.iso_history.proofs.locks.Finds.{find-is}
use Rattle.iso_history.proofs.locks.Fits.{apart-turned}
use Rattle.iso_history.proofs.locks.Queues.{wait-unqueued}
use Rattle.iso_history.proofs.locks.Same.{conn_is, conn_same}
use Rattle.iso_history.specs.After.{after}
use Rattle.iso_history.specs.Facts.{IsOpen, LocksSound, WaitersOpen}
use Rattle.iso_history.specs.Legal.{Allowed, By, ByAgent, ByDispatcher}
use Rattle.iso_history.specs.Lines.{line_by, stage_of_agent}
use Rattle.iso_history.specs.Phases.{closing_by, doom_by, doom_of_agent, ended_by, is_active, is_phase, phase, phase_of, victim}
use Rattle.iso_history.specs.Phases.Doom.{Dooms, Spares}
use Rattle.iso_history.specs.Waits.{joining_of_agent, joining_of_dispatcher, waits_by}
use Rattle.iso_history.specs.Waits.Joining.{Passes, Quits}
use Rattle.iso_history.specs.World.{World, at_conn}
use Rattle.iso_history.specs.declared.entry.Act.{Act}
use Rattle.iso_history.specs.declared.entry.Act.TheVariants.{Back, Claim, Close, Collapse, Commit, Delete, Dispatch, Expire, Free, Insert, Lock, Look, Mark, Next, Refused, Reply, Rollback, ScanEnd, Set, Stopped, Undo, Update, Victim}
use Rattle.iso_history.specs.declared.entry.Entry.{Entry}
use Rattle.iso_history.specs.declared.entry.Got.{Got}
use Rattle.iso_history.specs.declared.entry.Stand.{Stand}
use Rattle.iso_history.specs.declared.entry.Stand.TheVariants.{At, Past}
use Rattle.iso_history.specs.declared.entry.Who.{Who}
use Rattle.iso_history.specs.declared.entry.Who.TheVariants.{Agent, Dispatcher}
use Rattle.iso_queue.specs.Queues.{Wait, unqueued, wait_of}
use Rattle.iso_types.specs.Head.{conns}
use Rattle.iso_types.specs.Ids.{conn_eq}
use Rattle.iso_types.specs.declared.desk.Phase.{Phase}
use Rattle.iso_types.specs.declared.desk.Phase.TheVariants.{Closing, Idle, Rolling, Running}
use Rattle.iso_types.specs.declared.head.Head.{Head}
use Rattle.iso_types.specs.declared.value.Conn.{Conn}

at-other : {A : Type 0} (f : Conn → A) (c d : Conn) (v : A) → conn_eq d c ≡ false → at_conn f c v d ≡ f d
at-other f c d v e = rw e refl

-- what the phase Running says
running-parts : (ended closing doomed waiting shut : Bool) → phase_of ended closing doomed waiting shut ≡ Running
    → (shut ≡ false) × (doomed ≡ false) × (closing ≡ false) × (ended ≡ false)
running-parts true closing doomed waiting shut e = cc
running-parts false true doomed waiting shut e = cc
running-parts false false true waiting shut e = cc
running-parts false false false true shut e = cc
running-parts false false false false true e = cc
running-parts false false false false false e = (refl, refl, refl, refl)

pub runs-open : (w : World) (c : Conn) → phase w c ≡ Running → IsOpen w c
runs-open w c e = let p = running-parts _ _ _ _ _ e in record { line = p.0; doom = p.1; closing = p.2; ended = p.3 }

-- the phase of who waits with an open statement
pub open-waits : (w : World) (c : Conn) (x : Wait) → IsOpen w c → wait_of w.waits c ≡ Some x → phase w c ≡ Phase.Waiting
open-waits w c x o e = rw (o.ended, o.closing, o.doom, e) refl

-- who waits does not act
waits-idle : (w : World) (c : Conn) (x : Wait) → IsOpen w c → wait_of w.waits c ≡ Some x → is_active w c ≡ false
waits-idle w c x o e = ap active (open-waits w c x o e)
  where
    active : Phase → Bool
    active p = is_phase p Running || is_phase p Rolling || is_phase p Closing

runs-active : (w : World) (c : Conn) → phase w c ≡ Running → is_active w c ≡ true
runs-active w c e = rw e refl

module _ (w : World) (c d : Conn) (away : conn_eq d c ≡ false) where
  ended-other : (a : Act) → ended_by w.ended (Agent c) a d ≡ w.ended d
  ended-other Act.Ended = at-other w.ended c d true away
  ended-other _ = refl

  closing-other : (a : Act) → closing_by w.closing (Agent c) a d ≡ w.closing d
  closing-other (Stopped cause) = at-other w.closing c d true away
  closing-other _ = refl

  line-other : (a : Act) → line_by w.line (stage_of_agent c a) d ≡ w.line d
  line-other (Reply code changed rows) = at-other w.line c d None away
  line-other Commit = at-other w.line c d None away
  line-other (Rollback code reason) = at-other w.line c d None away
  line-other Act.Ended = at-other w.line c d None away
  line-other _ = refl

  doom-other : (a : Act) → doom_by w.doom (doom_of_agent c a) d ≡ w.doom d
  doom-other (Lock n m t why Got.TimedOut) = at-other w.doom c d (Some 68) away
  doom-other (Lock n m t why Got.Granted) = refl
  doom-other (Lock n m t why (Got.Queued q)) = refl
  doom-other (Look t r want Got.TimedOut) = at-other w.doom c d (Some 68) away
  doom-other (Look t r want Got.Granted) = refl
  doom-other (Look t r want (Got.Queued q)) = refl
  doom-other (Next i range at guarded (Stand.TimedOut n)) = at-other w.doom c d (Some 68) away
  doom-other (Next i range at guarded (Stand.Queued n)) = refl
  doom-other (Next i range at guarded (At v r)) = refl
  doom-other (Next i range at guarded Past) = refl
  doom-other (Rollback code reason) = at-other w.doom c d None away
  doom-other _ = refl

  -- another connection's entry leaves it open
  open-other : (head : Head) (a : Act) → IsOpen w d → IsOpen (after head w (record { who = Agent c; act = a })) d
  open-other head a o = record {
    line = ap (λ (x : Option ℕ). is_none x) (line-other a) ∙ o.line;
    doom = ap (λ (x : Option ℕ). is_some x) (doom-other a) ∙ o.doom;
    closing = closing-other a ∙ o.closing;
    ended = ended-other a ∙ o.ended;
  }

module _ (head : Head) (w : World) (s : WaitersOpen w) where
  abbrev after_own : Conn → Act → World
  after_own c a = after head w (record { who = Agent c; act = a })

  -- an entry that changes none of this leaves it
  kept-open : (c : Conn) (a : Act) → IsOpen w c → line_by w.line (stage_of_agent c a) c ≡ w.line c → doom_by w.doom (doom_of_agent c a) c ≡ w.doom c
      → closing_by w.closing (Agent c) a c ≡ w.closing c → ended_by w.ended (Agent c) a c ≡ w.ended c → IsOpen (after_own c a) c
  kept-open c a o l m k e = record {
    line = ap (λ (x : Option ℕ). is_none x) l ∙ o.line;
    doom = ap (λ (x : Option ℕ). is_some x) m ∙ o.doom;
    closing = k ∙ o.closing;
    ended = e ∙ o.ended;
  }

  -- who acts does not wait
  acting : (c : Conn) (a : Act) (y : Wait) → is_active w c ≡ true → wait_of w.waits c ≡ Some y → IsOpen (after_own c a) c
  unfolding WaitersOpen
  acting c a y h e = cc (sym (waits-idle w c y (s c y e) e) ∙ h)

  running : (c : Conn) (a : Act) (y : Wait) → phase w c ≡ Running → wait_of w.waits c ≡ Some y → IsOpen (after_own c a) c
  running c a y h e = acting c a y (runs-active w c h) e

  quitting : (c : Conn) (a : Act) (y : Wait) → wait_of (unqueued c w.waits) c ≡ Some y → IsOpen (after_own c a) c
  quitting c a y e = cc (sym (wait-unqueued c c w.waits y e).1 ∙ conn_same c)

  own-open : (c : Conn) (a : Act) → ByAgent head w c a → (y : Wait) → wait_of (waits_by w (joining_of_agent w c a)) c ≡ Some y → IsOpen (after_own c a) c
  own-open c (Lock n m t why (Got.Queued q)) al y e = kept-open c (Lock n m t why (Got.Queued q)) (runs-open w c al.0.0) refl refl refl refl
  own-open c (Lock n m t why Got.Granted) al y e = running c (Lock n m t why Got.Granted) y al.0.0 e
  own-open c (Lock n m t why Got.TimedOut) al y e = running c (Lock n m t why Got.TimedOut) y al.0.0 e
  own-open c (Look t r want (Got.Queued q)) al y e = kept-open c (Look t r want (Got.Queued q)) (runs-open w c al.0.0) refl refl refl refl
  own-open c (Look t r want Got.Granted) al y e = running c (Look t r want Got.Granted) y al.0.0 e
  own-open c (Look t r want Got.TimedOut) al y e = running c (Look t r want Got.TimedOut) y al.0.0 e
  own-open c (Next i range at guarded (Stand.Queued n)) al y e =
      kept-open c (Next i range at guarded (Stand.Queued n)) (runs-open w c al.0.0) refl refl refl refl
  own-open c (Next i range at guarded (At v r)) al y e = running c (Next i range at guarded (At v r)) y al.0.0 e
  own-open c (Next i range at guarded Past) al y e = running c (Next i range at guarded Past) y al.0.0 e
  own-open c (Next i range at guarded (Stand.TimedOut n)) al y e = running c (Next i range at guarded (Stand.TimedOut n)) y al.0.0 e
  own-open c Claim al y e = quitting c Claim y e
  own-open c Commit al y e = quitting c Commit y e
  own-open c (Rollback code reason) al y e = quitting c (Rollback code reason) y e
  own-open c Act.Ended al y e = quitting c Act.Ended y e
  own-open c (Stopped cause) al y e = quitting c (Stopped cause) y e
  own-open c (ScanEnd t n) al y e = running c (ScanEnd t n) y al.0.0 e
  own-open c (Free t r) al y e = running c (Free t r) y al.0.0 e
  own-open c (Collapse t m) al y e = running c (Collapse t m) y al.0 e
  own-open c (Insert t r row) al y e = running c (Insert t r row) y al.0.0 e
  own-open c (Update t r row) al y e = running c (Update t r row) y al.0.0 e
  own-open c (Delete t r) al y e = running c (Delete t r) y al.0.0 e
  own-open c (Refused code) al y e = running c (Refused code) y al.0.0 e
  own-open c (Undo n) al y e = acting c (Undo n) y (and_parts _ _ al.0).0 e
  own-open c (Mark name) al y e = running c (Mark name) y al.0 e
  own-open c (Back name) al y e = running c (Back name) y al.0.0 e
  own-open c (Set level may_wait) al y e = running c (Set level may_wait) y al.0 e
  own-open c (Reply code changed rows) al y e = running c (Reply code changed rows) y al.0 e
  own-open c _ al y e = absurd al

  abbrev after_dispatcher : Act → World
  after_dispatcher a = after head w (record { who = Dispatcher; act = a })

  dispatcher-open : (a : Act) → ByDispatcher head w a → (d : Conn) (y : Wait) → wait_of (waits_by w (joining_of_dispatcher w a)) d ≡ Some y
      → IsOpen w d → IsOpen (after_dispatcher a) d
  dispatcher-open (Dispatch line c) al d y e o = record { line = go (conn_eq d c); doom = o.doom; closing = o.closing; ended = o.ended }
    where
      go : (b : Bool) → is_none (if b then Some line else w.line d) ≡ false
      go true = refl
      go false = o.line
  dispatcher-open (Expire line c true) al d y e o =
      record {
        line = o.line;
        doom = ap (λ (x : Option ℕ). is_some x) (at-other w.doom c d (Some 68) (apart-turned c d (wait-unqueued c d w.waits y e).1)) ∙ o.doom;
        closing = o.closing;
        ended = o.ended;
      }
  dispatcher-open (Expire line c false) al d y e o = record { line = o.line; doom = o.doom; closing = o.closing; ended = o.ended }
  dispatcher-open (Victim cycle) al d y e o = record { line = o.line; doom = go (victim w cycle) e; closing = o.closing; ended = o.ended }
    where
      go : (x : Option Conn) → wait_of (waits_by w (option_map_or Quits x Passes)) d ≡ Some y
          → is_some (doom_by w.doom (option_map_or (λ c. Dooms c 2) x Spares) d) ≡ false
      go None f = o.doom
      go (Some c) f = ap (λ (x : Option ℕ). is_some x) (at-other w.doom c d (Some 2) (apart-turned c d (wait-unqueued c d w.waits y f).1)) ∙ o.doom
  dispatcher-open (Close c) al d y e o =
      record { line = o.line; doom = o.doom; closing = go (conn_eq d c) refl; ended = o.ended }
    where
      idle : is_phase (phase w c) Idle ≡ true
      idle = find-is (λ (x : Conn). is_phase (phase w x) Idle) (conns head) c al.1

      go : (b : Bool) → conn_eq d c ≡ b → at_conn w.closing c true d ≡ false
      go true k =
          let waits : phase w c ≡ Phase.Waiting = ap (phase w) (sym (conn_is d c k)) ∙ open-waits w d y o e in
          cc (sym (ap (λ (p : Phase). is_phase p Idle) waits) ∙ idle)
      go false k = at-other w.closing c d true k ∙ o.closing
  dispatcher-open _ al d y e o = record { line = o.line; doom = o.doom; closing = o.closing; ended = o.ended }

  open-by : (who : Who) (a : Act) → By head w who a → WaitersOpen (after head w (record { who = who; act = a }))
  unfolding WaitersOpen
  open-by Dispatcher a al d y e = dispatcher-open a al d y e (s d y (dispatcher-waits w a d y e))
  open-by (Agent c) a al d y e = go (conn_eq d c) refl
    where
      go : (b : Bool) → conn_eq d c ≡ b → IsOpen (after_own c a) d
      go true k =
          subst (λ (x : Conn). IsOpen (after_own c a) x) (sym (conn_is d c k))
          (own-open c a al.1 y (ap (wait_of (waits_by w (joining_of_agent w c a))) (sym (conn_is d c k)) ∙ e))
      go false k = open-other w c d k head a (s d y (sym (wait-others w c d a (apart-turned d c k)) ∙ e))

pub open_waits-after : (head : Head) (w : World) (e : Entry) → Allowed head w e → LocksSound head w → WaitersOpen (after head w e)
open_waits-after head w e al s = open-by head w s.open_waits e.who e.act al.2
