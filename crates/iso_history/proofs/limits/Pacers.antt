-- By how much each kind of a dispatcher's entry moves the reserve and need of the connection that it names.
use Rattle.std.proofs.Common.{◌≡◌, ◌+◌, ◌<◌, inr, ℕ, true, false, List, [], length, refl, ap, sym, ◌∙◌, arith, Some, None, Option, is_some, is_none, subst}
use Rattle.std.specs.Option.{option_map_or}
use Rattle.std.specs.Prelude.{if◌then◌else◌, unwrap_or}
use Rattle.iso_history.specs.After.{after}
use Rattle.iso_history.specs.Courses.{CourseAt, NoneLeft}
use Rattle.iso_history.specs.Phases.{doom_by, phase, victim}
use Rattle.iso_history.specs.Phases.Doom.{Dooms, Spares}
use Rattle.iso_history.specs.Records.{left, left_of}
use Rattle.iso_history.specs.World.{World}
use Rattle.iso_history.specs.declared.entry.Act.TheVariants.{Close, Dispatch, Expire, Victim}
use Rattle.iso_queue.specs.Queues.{is_waiting}
use Rattle.iso_types.specs.declared.desk.Phase.{Phase}
use Rattle.iso_types.specs.declared.desk.Phase.TheVariants.{Closing, Idle, Rolling, Running}
use Rattle.iso_types.specs.declared.head.Head.{Head}
use Rattle.iso_types.specs.declared.value.Conn.{Conn}
use Rattle.iso_history.proofs.limits.Courses.{idle, waiting}
use Rattle.iso_history.proofs.limits.LeftOf.{left_of-none}
use Rattle.iso_history.proofs.limits.Moves.{Moved, at-phase, doomed-at, moved}
use Rattle.iso_history.specs.Makers.{by_dispatcher}
use Rattle.iso_history.proofs.limits.Others.{at-same}
use Rattle.iso_history.proofs.limits.Stations.{At, phase-at}

-- a Dispatch
dispatch-at : (head : Head) (w : World) (line : ℕ) (c : Conn) (u : ℕ) (n : ℕ) → phase w c ≡ Idle → unwrap_or (w.unit c) (w.begun + 1) ≡ u
    → length (left w.records u) ≡ n → At (after head w (by_dispatcher (Dispatch line c))) c Running true n
dispatch-at head w line c u n is e l =
    let h = idle w c is in
    let at = at-same w.unit c (Some (unwrap_or (w.unit c) (w.begun + 1))) in
    record {
      phase_is = phase-at (after head w (by_dispatcher (Dispatch line c))) c false false false false false (record {
        ended_is = h.ended_is;
        closing_is = h.closing_is;
        doomed_is = h.doomed_is;
        waiting_is = h.waiting_is;
        shut_is = ap (λ o. is_none o) (at-same w.line c (Some line));
      });
      unit_is = ap (λ o. is_some o) at;
      left_is = ap (λ o. length (option_map_or (left w.records) o [])) (at ∙ ap (λ k. Some k) e) ∙ l;
    }

pub dispatch-moves : (head : Head) (w : World) (line : ℕ) (c : Conn) → phase w c ≡ Idle → NoneLeft w.begun w.records
    → Moved w (after head w (by_dispatcher (Dispatch line c))) c (if is_some (w.unit c) then 0 else 2) 0 (if is_some (w.unit c) then 0 else 2) 0
unfolding NoneLeft
dispatch-moves head w line c is n = go (w.unit c) refl
  where
    new : w.unit c ≡ None → unwrap_or (w.unit c) (w.begun + 1) ≡ w.begun + 1
    new e = rw e refl

    old : (u : ℕ) → w.unit c ≡ Some u → unwrap_or (w.unit c) (w.begun + 1) ≡ u
    old u e = rw e refl

    has : (u : ℕ) → w.unit c ≡ Some u → length (left w.records u) ≡ length (left_of w c)
    has u e = rw e refl

    past : w.begun < w.begun + 1
    past = omega arith

    go : (o : Option ℕ) → w.unit c ≡ o
        → Moved w (after head w (by_dispatcher (Dispatch line c))) c (if is_some (w.unit c) then 0 else 2) 0 (if is_some (w.unit c) then 0 else 2) 0
    go None e =
        let m = moved w (after head w (by_dispatcher (Dispatch line c))) c Idle Running false true 0 0 2 0 2 0
        (record { phase_is = is; unit_is = ap (λ o. is_some o) e; left_is = ap length (left_of-none w c e) })
        (dispatch-at head w line c (w.begun + 1) 0 is (new e) (ap length (n (w.begun + 1) (inr past)))) (omega arith) (omega arith) in
        subst (λ (o : Option ℕ). Moved w (after head w (by_dispatcher (Dispatch line c))) c (if is_some o then 0 else 2) 0 (if is_some o then 0 else 2) 0)
        (sym e) m
    go (Some u) e =
        let k = length (left_of w c) in
        let m = moved w (after head w (by_dispatcher (Dispatch line c))) c Idle Running true true k k 0 0 0 0
        (record { phase_is = is; unit_is = ap (λ o. is_some o) e; left_is = refl })
        (dispatch-at head w line c u k is (old u e) (has u e)) refl refl in
        subst (λ (o : Option ℕ). Moved w (after head w (by_dispatcher (Dispatch line c))) c (if is_some o then 0 else 2) 0 (if is_some o then 0 else 2) 0)
        (sym e) m

-- a Close
close-at : (head : Head) (w : World) (c : Conn) → phase w c ≡ Idle
    → At (after head w (by_dispatcher (Close c))) c Closing (is_some (w.unit c)) (length (left_of w c))
close-at head w c is = let h = idle w c is in record {
  phase_is = phase-at (after head w (by_dispatcher (Close c))) c false true (is_some (w.doom c)) (is_waiting w.waits c) (is_none (w.line c)) (record {
    ended_is = h.ended_is;
    closing_is = at-same w.closing c true;
    doomed_is = refl;
    waiting_is = refl;
    shut_is = refl;
  });
  unit_is = refl;
  left_is = refl;
}

pub close-moves : (head : Head) (w : World) (c : Conn) → phase w c ≡ Idle
    → Moved w (after head w (by_dispatcher (Close c))) c (if is_some (w.unit c) then 0 else 1) (if is_some (w.unit c) then 1 else 0)
    0 (if is_some (w.unit c) then 3 else 1)
close-moves head w c is = go (w.unit c) refl (close-at head w c is)
  where
    v : World
    v = after head w (by_dispatcher (Close c))

    go : (o : Option ℕ) → w.unit c ≡ o → At v c Closing (is_some (w.unit c)) (length (left_of w c))
        → Moved w v c (if is_some (w.unit c) then 0 else 1) (if is_some (w.unit c) then 1 else 0) 0 (if is_some (w.unit c) then 3 else 1)
    go None e b =
        let a : At w c Idle false 0 = record { phase_is = is; unit_is = ap (λ o. is_some o) e; left_is = ap length (left_of-none w c e) } in
        let l : At v c Closing false 0 = record {
          phase_is = b.phase_is;
          unit_is = b.unit_is ∙ ap (λ o. is_some o) e;
          left_is = b.left_is ∙ ap length (left_of-none w c e);
        } in
        let m = moved w v c Idle Closing false false 0 0 1 0 0 1 a l (omega arith) (omega arith) in
        subst (λ (o : Option ℕ). Moved w v c (if is_some o then 0 else 1) (if is_some o then 1 else 0) 0 (if is_some o then 3 else 1)) (sym e) m
    go (Some u) e b =
        let k = length (left_of w c) in
        let a : At w c Idle true k = record { phase_is = is; unit_is = ap (λ o. is_some o) e; left_is = refl } in
        let l : At v c Closing true k = record { phase_is = b.phase_is; unit_is = b.unit_is ∙ ap (λ o. is_some o) e; left_is = b.left_is } in
        let m = moved w v c Idle Closing true true k k 0 1 0 3 a l (omega arith) (omega arith) in
        subst (λ (o : Option ℕ). Moved w v c (if is_some o then 0 else 1) (if is_some o then 1 else 0) 0 (if is_some o then 3 else 1)) (sym e) m

-- an end of a wait leaves its connection rolling
ends-moves : (w v : World) (c : Conn) (r : ℕ) → CourseAt w c → phase w c ≡ Phase.Waiting → v.ended c ≡ w.ended c → v.closing c ≡ w.closing c
    → v.doom c ≡ Some r → v.unit c ≡ w.unit c → left_of v c ≡ left_of w c → Moved w v c 0 1 0 1
ends-moves w v c r s is e f d u m =
    let h = waiting w c s is in
    moved w v c Phase.Waiting Rolling _ _ _ _ 0 1 0 1 (at-phase w c Phase.Waiting is)
    (doomed-at w v c Phase.Waiting r (e ∙ h.ended_is) (f ∙ h.closing_is) d u m) (omega arith) (omega arith)

-- an Expire that ends a wait
pub expire-moves : (head : Head) (w : World) (line : ℕ) (c : Conn) → CourseAt w c → phase w c ≡ Phase.Waiting
    → Moved w (after head w (by_dispatcher (Expire line c true))) c 0 1 0 1
expire-moves head w line c s is = ends-moves w _ c 68 s is refl refl (at-same w.doom c (Some 68)) refl refl

-- a Victim
pub victim-moves : (head : Head) (w : World) (cycle : List Conn) (c : Conn) → victim w cycle ≡ Some c → CourseAt w c → phase w c ≡ Phase.Waiting
    → Moved w (after head w (by_dispatcher (Victim cycle))) c 0 1 0 1
victim-moves head w cycle c is s p = ends-moves w _ c 2 s p refl refl (doomed (victim w cycle) is) refl refl
  where
    doomed : (o : Option Conn) → o ≡ Some c → doom_by w.doom (option_map_or (λ x. Dooms x 2) o Spares) c ≡ Some 2
    doomed o e = rw e (at-same w.doom c (Some 2))
