-- By how much each kind of an agent's entry moves its maker's reserve and need.
use Rattle.std.proofs.Common.{◌≡◌, ◌+◌, ℕ, Bool, true, false, ◌&&◌, ◌||◌, [], length, refl, ap, sym, ◌∙◌, arith, Some, None, Option, is_some, is_none, subst}
use Rattle.std.specs.Prelude.{ℤ, if◌then◌else◌}
use Rattle.iso_history.specs.After.{after}
use Rattle.iso_history.specs.Courses.{CourseAt, NoneLeft}
use Rattle.iso_history.specs.Legal.{ByAgent, RollbackStands}
use Rattle.iso_history.specs.Phases.{is_active, is_phase, phase, waits_grantable}
use Rattle.iso_history.specs.Records.{left_of}
use Rattle.iso_history.specs.Reserves.{lowered_by_agent, needs_less, needs_more, raised_by_agent}
use Rattle.iso_history.specs.Stops.{may_be_full, may_stop}
use Rattle.iso_history.specs.World.{World}
use Rattle.iso_history.specs.declared.entry.Act.{Act}
use Rattle.iso_history.specs.declared.entry.Act.TheVariants.{Claim, Commit, Delete, Insert, Lock, Look, Next, Reply, Rollback, Stopped, Undo, Update}
use Rattle.iso_history.specs.declared.entry.Cause.{Cause}
use Rattle.iso_history.specs.declared.entry.Cause.TheVariants.{History, Memory}
use Rattle.iso_history.specs.declared.entry.Got.{Got}
use Rattle.iso_history.specs.declared.entry.Stand.{Stand}
use Rattle.iso_history.specs.declared.entry.Who.TheVariants.{Agent}
use Rattle.iso_queue.specs.Queues.{is_waiting}
use Rattle.iso_types.specs.declared.desk.Phase.{Phase}
use Rattle.iso_types.specs.declared.desk.Phase.TheVariants.{Closing, Idle, Rolling, Running}
use Rattle.iso_types.specs.declared.head.Head.{Head}
use Rattle.iso_types.specs.declared.value.Conn.{Conn}
use Rattle.iso_history.proofs.limits.Begun.{undo-unit}
use Rattle.iso_history.proofs.limits.Courses.{is_phase-is, running, running-unit, waiting}
use Rattle.iso_history.proofs.limits.LeftOf.{left_of-add, left_of-none, left_of-take}
use Rattle.iso_history.proofs.limits.Moves.{Moved, and-left, at-clear, at-phase, doomed-at, idle-at, moved, queued-at, stop-moves, undo-moves}
use Rattle.iso_history.specs.Makers.{by_agent}
use Rattle.iso_history.proofs.limits.Others.{at-same}
use Rattle.iso_history.proofs.limits.Stations.{At, phase-at, rolling-parts}
use Rattle.iso_history.proofs.limits.Waiting.{conn_eq-refl, waiting-queued, waiting-unqueued}

-- an agent may stop only where it runs, or waits and is grantable
pub stop-able : (head : Head) (w : World) (c : Conn) (cause : Cause) → may_stop head w c cause ≡ true
    → (is_phase (phase w c) Running || waits_grantable w c) ≡ true
stop-able head w c Memory e = e
stop-able head w c History e = and-left (is_phase (phase w c) Running || waits_grantable w c) (may_be_full head w 1) e
stop-able head w c Cause.Table e = left-of (is_phase (phase w c) Running) _ (waits_grantable w c) e
  where
    left-of : (a b d : Bool) → (a && b) ≡ true → (a || d) ≡ true
    left-of true b d e = refl
    left-of false b d e = absurd (cc)

-- a request that queues
queued-moves : (w v : World) (c : Conn) → At v c Phase.Waiting (is_some (w.unit c)) (length (left_of w c)) → phase w c ≡ Running
    → Moved w v c 0 0 0 0
queued-moves w v c a is = moved w v c Running Phase.Waiting _ _ _ _ 0 0 0 0 (at-phase w c Running is) a refl refl

-- a request that timed out
timed_out-moves : (w v : World) (c : Conn) → At v c Rolling (is_some (w.unit c)) (length (left_of w c)) → phase w c ≡ Running
    → Moved w v c 0 1 0 1
timed_out-moves w v c a is = moved w v c Running Rolling _ _ _ _ 0 1 0 1 (at-phase w c Running is) a (omega arith) (omega arith)

-- a Claim
claim-moves : (w v : World) (c : Conn) → CourseAt w c → phase w c ≡ Phase.Waiting → v.ended c ≡ w.ended c → v.closing c ≡ w.closing c
    → v.doom c ≡ w.doom c → is_waiting v.waits c ≡ false → v.line c ≡ w.line c → v.unit c ≡ w.unit c → left_of v c ≡ left_of w c
    → Moved w v c 0 0 0 0
claim-moves w v c s is e f d x l u m =
    let h = waiting w c s is in
    moved w v c Phase.Waiting Running _ _ _ _ 0 0 0 0 (at-phase w c Phase.Waiting is) (record {
      phase_is = phase-at v c false false false false false (record {
        ended_is = e ∙ h.ended_is;
        closing_is = f ∙ h.closing_is;
        doomed_is = ap (λ o. is_some o) d ∙ h.doomed_is;
        waiting_is = x;
        shut_is = ap (λ o. is_none o) l ∙ h.shut_is;
      });
      unit_is = ap (λ o. is_some o) u;
      left_is = ap length m;
    }) refl refl

-- a change
change-moves : (w v : World) (c : Conn) → phase w c ≡ Running → phase v c ≡ phase w c → v.unit c ≡ w.unit c
    → length (left_of v c) ≡ length (left_of w c) + 1 → Moved w v c 1 0 1 0
change-moves w v c is p u l =
    moved w v c Running Running _ _ _ _ 1 0 1 0 (at-phase w c Running is)
    (record { phase_is = p ∙ is; unit_is = ap (λ o. is_some o) u; left_is = l }) (omega arith) (omega arith)

-- a Reply
reply-moves : (w v : World) (c : Conn) → CourseAt w c → phase w c ≡ Running → v.ended c ≡ w.ended c → v.closing c ≡ w.closing c
    → v.doom c ≡ w.doom c → v.waits ≡ w.waits → v.line c ≡ None → v.unit c ≡ w.unit c → left_of v c ≡ left_of w c → Moved w v c 0 0 0 0
reply-moves w v c s is e f d x l u m =
    let h = running w c is in
    moved w v c Running Idle _ true _ _ 0 0 0 0 (at-phase w c Running is) (record {
      phase_is = phase-at v c false false false false true (record {
        ended_is = e ∙ h.ended_is;
        closing_is = f ∙ h.closing_is;
        doomed_is = ap (λ o. is_some o) d ∙ h.doomed_is;
        waiting_is = ap (λ ws. is_waiting ws c) x ∙ h.waiting_is;
        shut_is = ap (λ o. is_none o) l;
      });
      unit_is = ap (λ o. is_some o) u ∙ running-unit w c s is;
      left_is = ap length m;
    }) refl refl

-- a Rollback, with nothing left
rollback-moves : (w v : World) (c : Conn) (code : ℤ) (reason : ℕ) → RollbackStands w c code reason (phase w c) → left_of w c ≡ []
    → v.ended c ≡ w.ended c → v.closing c ≡ w.closing c → v.doom c ≡ None → is_waiting v.waits c ≡ false → v.line c ≡ None → v.unit c ≡ None
    → Moved w v c 0 (if is_phase (phase w c) Running then 2 else 1) 0 (if is_phase (phase w c) Running then 2 else 1)
rollback-moves w v c code reason al none e f d x l u = go (phase w c) refl al
  where
    go : (p : Phase) → phase w c ≡ p → RollbackStands w c code reason p
        → Moved w v c 0 (if is_phase (phase w c) Running then 2 else 1) 0 (if is_phase (phase w c) Running then 2 else 1)
    go Running is y =
        let h = running w c is in
        let m = moved w v c Running Idle _ false _ _ 0 2 0 2 (at-clear w c Running is none)
        (idle-at v c (e ∙ h.ended_is) (f ∙ h.closing_is) d x l u) (omega arith) (omega arith) in
        subst (λ (p : Phase). Moved w v c 0 (if is_phase p Running then 2 else 1) 0 (if is_phase p Running then 2 else 1)) (sym is) m
    go Rolling is y =
        let h = rolling-parts _ _ _ _ _ is in
        let m = moved w v c Rolling Idle _ false _ _ 0 1 0 1 (at-clear w c Rolling is none)
        (idle-at v c (e ∙ h.ended_is) (f ∙ h.closing_is) d x l u) (omega arith) (omega arith) in
        subst (λ (p : Phase). Moved w v c 0 (if is_phase p Running then 2 else 1) 0 (if is_phase p Running then 2 else 1)) (sym is) m
    go Idle is y = absurd y
    go Phase.Waiting is y = absurd y
    go Closing is y = absurd y
    go Phase.Ended is y = absurd y

-- a connection that has ended
ended-at : (v : World) (c : Conn) → v.ended c ≡ true → v.unit c ≡ None → At v c Phase.Ended false 0
ended-at v c e u = record {
  phase_is = phase-at v c true (v.closing c) (is_some (v.doom c)) (is_waiting v.waits c) (is_none (v.line c))
      (record { ended_is = e; closing_is = refl; doomed_is = refl; waiting_is = refl; shut_is = refl });
  unit_is = ap (λ o. is_some o) u;
  left_is = ap length (left_of-none v c u);
}

-- by how much an agent's entry moves its maker's reserve and need
abbrev pub AgentMoves : Head → World → Conn → Act → Type 0
AgentMoves head w c a = Moved w (after head w (by_agent c a)) c (raised_by_agent a) (lowered_by_agent w c a)
    (needs_more w (Agent c) a) (needs_less w (Agent c) a)

pub agent-moves : (head : Head) (w : World) (c : Conn) (a : Act) → ByAgent head w c a → CourseAt w c → NoneLeft w.begun w.records
    → AgentMoves head w c a
agent-moves head w c (Lock name mode term why (Got.Queued m)) al s n =
    queued-moves w _ c (queued-at w _ c al.0.0 refl refl refl (waiting-queued w.holds _ w.waits c (conn_eq-refl c)) refl refl refl) al.0.0
agent-moves head w c (Look t r want (Got.Queued m)) al s n =
    queued-moves w _ c (queued-at w _ c al.0.0 refl refl refl (waiting-queued w.holds _ w.waits c (conn_eq-refl c)) refl refl refl) al.0.0
agent-moves head w c (Next i range at guarded (Stand.Queued name)) al s n =
    queued-moves w _ c (queued-at w _ c al.0.0 refl refl refl (waiting-queued w.holds _ w.waits c (conn_eq-refl c)) refl refl refl) al.0.0
agent-moves head w c (Lock name mode term why Got.TimedOut) al s n = let h = running w c al.0.0 in
    timed_out-moves w _ c (doomed-at w _ c Running 68 h.ended_is h.closing_is (at-same w.doom c (Some 68)) refl refl) al.0.0
agent-moves head w c (Look t r want Got.TimedOut) al s n = let h = running w c al.0.0 in
    timed_out-moves w _ c (doomed-at w _ c Running 68 h.ended_is h.closing_is (at-same w.doom c (Some 68)) refl refl) al.0.0
agent-moves head w c (Next i range at guarded (Stand.TimedOut name)) al s n = let h = running w c al.0.0 in
    timed_out-moves w _ c (doomed-at w _ c Running 68 h.ended_is h.closing_is (at-same w.doom c (Some 68)) refl refl) al.0.0
agent-moves head w c Claim al s n =
    claim-moves w _ c s (is_phase-is (phase w c) Phase.Waiting (and-left (is_phase (phase w c) Phase.Waiting) _ al))
    refl refl refl (waiting-unqueued c w.waits) refl refl refl
agent-moves head w c (Insert t r row) al s n =
    change-moves w _ c al.0.0 refl refl (left_of-add w c _ (running-unit w c s al.0.0) refl refl)
agent-moves head w c (Update t r row) al s n =
    change-moves w _ c al.0.0 refl refl (left_of-add w c _ (running-unit w c s al.0.0) refl refl)
agent-moves head w c (Delete t r) al s n =
    change-moves w _ c al.0.0 refl refl (left_of-add w c _ (running-unit w c s al.0.0) refl refl)
agent-moves head w c (Undo k) al s n =
    undo-moves w _ c k (and-left (is_active w c) _ al.0) refl refl (left_of-take w c _ k (undo-unit w c k n al.1) refl refl al.1)
agent-moves head w c (Reply code changed rows) al s n = reply-moves w _ c s al.0 refl refl refl refl (at-same w.line c None) refl refl
agent-moves head w c Commit al s n =
    let h = running w c al.0 in
    moved w _ c Running Idle _ false _ _ 0 (length (left_of w c) + 2) 0 (length (left_of w c) + 2) (at-phase w c Running al.0)
    (idle-at _ c h.ended_is h.closing_is (gone (w.doom c) h.doomed_is) (waiting-unqueued c w.waits) (at-same w.line c None) (at-same w.unit c None))
    (omega arith) (omega arith)
  where
    gone : (o : Option ℕ) → is_some o ≡ false → o ≡ None
    gone None e = refl
    gone (Some k) e = absurd (cc)
agent-moves head w c (Rollback code reason) al s n =
    rollback-moves w _ c code reason al.0 al.1 refl refl (at-same w.doom c None) (waiting-unqueued c w.waits) (at-same w.line c None) (at-same w.unit c None)
agent-moves head w c Act.Ended al s n =
    moved w _ c Closing Phase.Ended _ false _ _ 0 3 0 1 (at-clear w c Closing al.0 al.1)
    (ended-at _ c (at-same w.ended c true) (at-same w.unit c None)) (omega arith) (omega arith)
agent-moves head w c (Stopped cause) al s n = stop-moves w _ c (stop-able head w c cause al) refl (at-same w.closing c true) refl refl
agent-moves head w c _ al s n = record { reserve_moves = refl; need_moves = refl }
