-- Where an agent's entry leaves its maker, by kind.
use Rattle.std.proofs.Common.{◌≡◌, ◌+◌, ℕ, Bool, true, false, ◌&&◌, ◌||◌, ◌⊎◌, inl, inr, [], length, refl, ap, sym, ◌∙◌, arith, Some, None, Option, is_some, is_none}
use Rattle.iso_history.specs.Phases.{is_active, is_phase, phase, waits_grantable}
use Rattle.iso_history.specs.Records.{left_of}
use Rattle.iso_history.specs.Stops.{need, reserve, reserve_in}
use Rattle.iso_history.specs.World.{World}
use Rattle.iso_queue.specs.Queues.{is_waiting}
use Rattle.iso_types.specs.declared.desk.Phase.{Phase}
use Rattle.iso_types.specs.declared.desk.Phase.TheVariants.{Closing, Idle, Rolling, Running}
use Rattle.iso_types.specs.declared.value.Conn.{Conn}
use Rattle.iso_history.proofs.limits.Courses.{is_phase-is, running}
use Rattle.iso_history.proofs.limits.LeftOf.{left_of-none}
use Rattle.iso_history.proofs.limits.Stations.{At, need-at, need_in, phase-at, reserve-at, waiting-parts}

pub and-left : (a b : Bool) → (a && b) ≡ true → a ≡ true
and-left true b e = refl
and-left false b e = e

pub or-either : (a b : Bool) → (a || b) ≡ true → (a ≡ true) ⊎ (b ≡ true)
or-either true b e = inl refl
or-either false b e = inr e

-- where a connection stands before the entry
pub at-phase : (w : World) (c : Conn) (p : Phase) → phase w c ≡ p → At w c p (is_some (w.unit c)) (length (left_of w c))
at-phase w c p is = record { phase_is = is; unit_is = refl; left_is = refl }

-- the same with nothing left
pub at-clear : (w : World) (c : Conn) (p : Phase) → phase w c ≡ p → left_of w c ≡ [] → At w c p (is_some (w.unit c)) 0
at-clear w c p is none = record { phase_is = is; unit_is = refl; left_is = ap length none }

pub some-at : (f : Conn → Option ℕ) (o : Option ℕ) (c : Conn) → f c ≡ o → is_some (f c) ≡ is_some o
some-at f o c e = ap (λ x. is_some x) e

none-at : (f : Conn → Option ℕ) (o : Option ℕ) (c : Conn) → f c ≡ o → is_none (f c) ≡ is_none o
none-at f o c e = ap (λ x. is_none x) e

-- a world in which the maker waits, as a request that queues leaves it
pub queued-at : (w v : World) (c : Conn) → phase w c ≡ Running → v.ended c ≡ w.ended c → v.closing c ≡ w.closing c → v.doom c ≡ w.doom c
    → is_waiting v.waits c ≡ true → v.line c ≡ w.line c → v.unit c ≡ w.unit c → left_of v c ≡ left_of w c
    → At v c Phase.Waiting (is_some (w.unit c)) (length (left_of w c))
queued-at w v c is e f d x l u m = let h = running w c is in record {
  phase_is = phase-at v c false false false true false (record {
    ended_is = e ∙ h.ended_is;
    closing_is = f ∙ h.closing_is;
    doomed_is = ap (λ o. is_some o) d ∙ h.doomed_is;
    waiting_is = x;
    shut_is = ap (λ o. is_none o) l ∙ h.shut_is;
  });
  unit_is = ap (λ o. is_some o) u;
  left_is = ap length m;
}

-- a request that timed out leaves its maker rolling
pub doomed-at : (w v : World) (c : Conn) (p : Phase) (r : ℕ) → v.ended c ≡ false → v.closing c ≡ false → v.doom c ≡ Some r → v.unit c ≡ w.unit c
    → left_of v c ≡ left_of w c → At v c Rolling (is_some (w.unit c)) (length (left_of w c))
doomed-at w v c p r e f d u m = record {
  phase_is = phase-at v c false false true (is_waiting v.waits c) (is_none (v.line c)) (record {
    ended_is = e;
    closing_is = f;
    doomed_is = ap (λ o. is_some o) d;
    waiting_is = refl;
    shut_is = refl;
  });
  unit_is = ap (λ o. is_some o) u;
  left_is = ap length m;
}

-- by how much a connection's reserve is raised and lowered, and its need
pub record Moved (w v : World) (c : Conn) (more less need_more need_less : ℕ) : Type 0 where
  pub reserve_moves : reserve v c + less ≡ reserve w c + more
  pub need_moves : need v c + need_less ≡ need w c + need_more

-- from where the connection stands before and after
pub moved : (w v : World) (c : Conn) (p q : Phase) (h k : Bool) (m n x y s t : ℕ) → At w c p h m → At v c q k n
    → reserve_in q k n + y ≡ reserve_in p h m + x → need_in q k n + t ≡ need_in p h m + s → Moved w v c x y s t
moved w v c p q h k m n x y s t a b e f = record {
  reserve_moves = ap (λ z. z + y) (reserve-at v c q k n b) ∙ e ∙ sym (ap (λ z. z + x) (reserve-at w c p h m a));
  need_moves = ap (λ z. z + t) (need-at v c q k n b) ∙ f ∙ sym (ap (λ z. z + s) (need-at w c p h m a));
}

-- an undo, in the phases that allow it
pub undo-moves : (w v : World) (c : Conn) (n : ℕ) → is_active w c ≡ true → phase v c ≡ phase w c → v.unit c ≡ w.unit c
    → length (left_of v c) + 1 ≡ length (left_of w c) → Moved w v c 0 1 0 1
undo-moves w v c n al is u l = go (phase w c) refl al
  where
    before : (p : Phase) → phase w c ≡ p → At w c p (is_some (w.unit c)) (length (left_of v c) + 1)
    before p e = record { phase_is = e; unit_is = refl; left_is = sym l }

    later : (p : Phase) → phase w c ≡ p → At v c p (is_some (w.unit c)) (length (left_of v c))
    later p e = record { phase_is = is ∙ e; unit_is = ap (λ o. is_some o) u; left_is = refl }

    go : (p : Phase) → phase w c ≡ p → (is_phase p Running || is_phase p Rolling || is_phase p Closing) ≡ true → Moved w v c 0 1 0 1
    go Running e x = moved w v c Running Running _ _ _ _ 0 1 0 1 (before Running e) (later Running e) (omega arith) (omega arith)
    go Rolling e x = moved w v c Rolling Rolling _ _ _ _ 0 1 0 1 (before Rolling e) (later Rolling e) (omega arith) (omega arith)
    go Closing e x = moved w v c Closing Closing _ _ _ _ 0 1 0 1 (before Closing e) (later Closing e) (omega arith) (omega arith)
    go Idle e x = absurd (cc)
    go Phase.Waiting e x = absurd (cc)
    go Phase.Ended e x = absurd (cc)

-- an entry that ends the unit and the statement leaves its maker idle
pub idle-at : (v : World) (c : Conn) → v.ended c ≡ false → v.closing c ≡ false → v.doom c ≡ None → is_waiting v.waits c ≡ false → v.line c ≡ None
    → v.unit c ≡ None → At v c Idle false 0
idle-at v c e f d x l u = record {
  phase_is = phase-at v c false false false false true (record {
    ended_is = e;
    closing_is = f;
    doomed_is = ap (λ o. is_some o) d;
    waiting_is = x;
    shut_is = ap (λ o. is_none o) l;
  });
  unit_is = ap (λ o. is_some o) u;
  left_is = ap length (left_of-none v c u);
}

-- a stop of a running or waiting connection
pub stop-moves : (w v : World) (c : Conn) → (is_phase (phase w c) Running || waits_grantable w c) ≡ true → v.ended c ≡ w.ended c → v.closing c ≡ true
    → v.unit c ≡ w.unit c → left_of v c ≡ left_of w c → Moved w v c 0 1 0 3
stop-moves w v c al e f u l = go (or-either (is_phase (phase w c) Running) (waits_grantable w c) al)
  where
    later : w.ended c ≡ false → At v c Closing (is_some (w.unit c)) (length (left_of w c))
    later g = record {
      phase_is = phase-at v c false true (is_some (v.doom c)) (is_waiting v.waits c) (is_none (v.line c)) (record {
        ended_is = e ∙ g;
        closing_is = f;
        doomed_is = refl;
        waiting_is = refl;
        shut_is = refl;
      });
      unit_is = ap (λ o. is_some o) u;
      left_is = ap length l;
    }

    go : (is_phase (phase w c) Running ≡ true) ⊎ (waits_grantable w c ≡ true) → Moved w v c 0 1 0 3
    go (inl x) = let is = is_phase-is (phase w c) Running x in
        moved w v c Running Closing _ _ _ _ 0 1 0 3 (at-phase w c Running is) (later (running w c is).ended_is) (omega arith) (omega arith)
    go (inr x) =
        let is = is_phase-is (phase w c) Phase.Waiting (and-left (is_phase (phase w c) Phase.Waiting) _ x) in
        let h = waiting-parts _ _ _ _ _ is in
        moved w v c Phase.Waiting Closing _ _ _ _ 0 1 0 3 (at-phase w c Phase.Waiting is) (later h.ended_is) (omega arith) (omega arith)
