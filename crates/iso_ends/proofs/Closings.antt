-- The parts after a Rollback, an Ended and a Stopped.
use Rattle.std.proofs.Common.{◌≡◌, ◌≤◌, ◌<◌, ◌-◌, ◌⊎◌, inl, inr, ℕ, Bool, true, false, ◌&&◌, ◌||◌, List, length, refl, ap, sym, subst, ◌∙◌, arith, None, Option}
use Rattle.std.specs.Prelude.{IfSome, ℤ, if◌then◌else◌, is_none, is_some, unwrap_or}
use Rattle.std.proofs.Math.ListN.{length-set}
use Rattle.iso_chain.proofs.Carries.{no-row}
use Rattle.iso_chain.proofs.Units.{ended-chained, kept-chained, rollback-chained}
use Rattle.iso_history.proofs.limits.Others.{at-same}
use Rattle.iso_history.specs.After.{after, world}
use Rattle.iso_history.specs.Legal.{RollbackStands}
use Rattle.iso_history.specs.Makers.{by_agent}
use Rattle.iso_history.specs.Phases.{is_phase, phase, phase_of}
use Rattle.iso_history.specs.Reserves.{reserves_less}
use Rattle.iso_history.specs.Stops.{may_stop}
use Rattle.iso_history.specs.World.{World, at_conn}
use Rattle.iso_history.specs.declared.entry.Act.{Act}
use Rattle.iso_history.specs.declared.entry.Act.TheVariants.{Rollback, Stopped}
use Rattle.iso_history.specs.declared.entry.Cause.{Cause}
use Rattle.iso_history.specs.declared.entry.Cause.TheVariants.{History, Memory}
use Rattle.iso_history.specs.declared.entry.Who.TheVariants.{Agent}
use Rattle.iso_locklist.proofs.SettledLists.{all_dropped}
use Rattle.iso_locklist.specs.Holding.{LocksAre}
use Rattle.iso_locklist.specs.Places.{IsSameLimits, Ledger}
use Rattle.iso_queue.specs.Locks.{Hold, dropped}
use Rattle.iso_queue.specs.Queues.{is_grantable, is_waiting, unqueued}
use Rattle.iso_types.specs.declared.desk.Desk.{Desk}
use Rattle.iso_types.specs.declared.desk.Phase.{Phase}
use Rattle.iso_types.specs.declared.desk.Phase.TheVariants.{Closing, Idle, Rolling, Running}
use Rattle.iso_types.specs.declared.head.Head.{Head}
use Rattle.iso_types.specs.declared.value.Conn.{Conn}
use Rattle.iso_state.proofs.Desks.{claims-own}
use Rattle.iso_state.proofs.Steps.{IsOwn, own-desk}
use Rattle.iso_state.proofs.Waits.{gone-own}
use Rattle.iso_state.specs.Stands.{Content, IsDeskOf, Stands, desk_at}
use Rattle.iso_ends.specs.Ends.{without_unit}

-- a Rollback is made by who runs or rolls back
rolls-or-runs : (w : World) (c : Conn) (code : ℤ) (reason : ℕ) (x : Phase) → RollbackStands w c code reason x → (x ≡ Running) ⊎ (x ≡ Rolling)
rolls-or-runs w c code reason Running h = inl refl
rolls-or-runs w c code reason Rolling h = inr refl
rolls-or-runs w c code reason Idle h = absurd h
rolls-or-runs w c code reason Phase.Waiting h = absurd h
rolls-or-runs w c code reason Closing h = absurd h
rolls-or-runs w c code reason Phase.Ended h = absurd h

-- who runs or rolls back is idle once it is not doomed, does not wait and has no open statement
lifts-by : (e f d v s : Bool) → (phase_of e f d v s ≡ Running) ⊎ (phase_of e f d v s ≡ Rolling) → phase_of e f false false true ≡ Idle
lifts-by true f d v s (inl h) = cc
lifts-by true f d v s (inr h) = cc
lifts-by false true d v s (inl h) = cc
lifts-by false true d v s (inr h) = cc
lifts-by false false d v s h = refl

-- the phase after a Rollback, from its parts
abbrev lifted-phase : World → Conn → Option ℕ → Bool → Option ℕ → Phase
lifted-phase w c doom waits line = phase_of (w.ended c) (w.closing c) (is_some doom) waits (is_none line)

lifted-at : (head : Head) (w : World) (c : Conn) (code : ℤ) (reason : ℕ) → RollbackStands w c code reason (phase w c)
    → phase (after head w (by_agent c (Rollback code reason))) c ≡ Idle
lifted-at head w c code reason ends =
    ap (λ (o : Option ℕ). lifted-phase w c o (is_waiting (unqueued c w.waits) c) (at_conn w.line c None c)) (at-same w.doom c None)
    ∙ ap (λ (b : Bool). lifted-phase w c None b (at_conn w.line c None c)) (gone-own c w.waits)
    ∙ ap (λ (o : Option ℕ). lifted-phase w c None false o) (at-same w.line c None)
    ∙ lifts-by (w.ended c) (w.closing c) (is_some (w.doom c)) (is_waiting w.waits c) (is_none (w.line c)) (rolls-or-runs w c code reason (phase w c) ends)

rollback-desk : (head : Head) (w : World) (c : Conn) (d : Desk) (code : ℤ) (reason : ℕ) → RollbackStands w c code reason (phase w c) → IsDeskOf w c d
    → IsDeskOf (after head w (by_agent c (Rollback code reason))) c (record d { phase = Idle; doom = 0; claimed = false })
rollback-desk head w c d code reason ends is = record {
  phase = sym (lifted-at head w c code reason ends);
  line = subst (λ (o : Option ℕ). IfSome o (λ n. d.line ≡ n)) (sym (at-same w.line c None)) tt;
  isolation = is.isolation;
  may_wait = is.may_wait;
  doom = ap (λ (o : Option ℕ). unwrap_or o 0) (sym (at-same w.doom c None));
  start = is.start;
  claimed = claims-own w c (Rollback code reason);
}

ended-desk : (head : Head) (w : World) (c : Conn) (d : Desk) → IsDeskOf w c d
    → IsDeskOf (after head w (by_agent c Act.Ended)) c (record d { phase = Phase.Ended; claimed = false })
ended-desk head w c d is = record {
  phase = sym (ap (λ (e : Bool). phase_of e (w.closing c) (is_some (w.doom c)) (is_waiting (unqueued c w.waits) c) (is_none (at_conn w.line c None c)))
      (at-same w.ended c true));
  line = subst (λ (o : Option ℕ). IfSome o (λ n. d.line ≡ n)) (sym (at-same w.line c None)) tt;
  isolation = is.isolation;
  may_wait = is.may_wait;
  doom = is.doom;
  start = is.start;
  claimed = claims-own w c Act.Ended;
}

-- who may stop has not ended
stops-by : (head : Head) (w : World) (c : Conn) (cause : Cause) → may_stop head w c cause ≡ true → w.ended c ≡ false
stops-by head w c cause may = go (w.ended c) refl may
  where
    none : w.ended c ≡ true → (is_phase (phase w c) Running || (is_phase (phase w c) Phase.Waiting && is_grantable w.holds w.waits c)) ≡ false
    none e = rw e refl

    also : w.ended c ≡ true → is_phase (phase w c) Running ≡ false
    also e = rw e refl

    by-cause : (a : Cause) → w.ended c ≡ true → may_stop head w c a ≡ false
    by-cause Memory e = none e
    by-cause History e = rw (none e) refl
    by-cause Cause.Table e = rw (also e) refl

    go : (b : Bool) → w.ended c ≡ b → may_stop head w c cause ≡ true → w.ended c ≡ false
    go true e m = let no = by-cause cause e in absurd (let q : true ≡ false = sym m ∙ no in cc)
    go false e m = e

stop-desk : (head : Head) (w : World) (c : Conn) (d : Desk) (cause : Cause) → may_stop head w c cause ≡ true → IsDeskOf w c d
    → IsDeskOf (after head w (by_agent c (Stopped cause))) c (record d { phase = Closing; claimed = false })
stop-desk head w c d cause may is = record {
  phase = sym (ap (λ (b : Bool). phase_of (w.ended c) b (is_some (w.doom c)) (is_waiting (unqueued c w.waits) c) (is_none (w.line c))) (at-same w.closing c true)
      ∙ ap (λ (b : Bool). phase_of b true (is_some (w.doom c)) (is_waiting (unqueued c w.waits) c) (is_none (w.line c))) (stops-by head w c cause may));
  line = is.line;
  isolation = is.isolation;
  may_wait = is.may_wait;
  doom = is.doom;
  start = is.start;
  claimed = claims-own w c (Stopped cause);
}

-- what each step has to show
module _ (p : Content) (c : Conn) (s : Stands p) (lt : c.0 < length p.head.conns) (l : Ledger) (limits : IsSameLimits l p.locks) where
  pub rollback-own : (code : ℤ) (reason : ℕ) → RollbackStands (world p.head p.history) c code reason (phase (world p.head p.history) c)
      → LocksAre (dropped c (world p.head p.history).holds) (unqueued c (world p.head p.history).waits) l
      → reserves_less (world p.head p.history) (Agent c) (Rollback code reason) ≤ p.reserved
      → IsOwn p c (Rollback code reason) (without_unit p.chain c) l (record (desk_at p.desks c) { phase = Idle; doom = 0; claimed = false })
      (p.reserved - (if is_phase (phase (world p.head p.history) c) Running then 2 else 1))
  rollback-own code reason ends are covers = record {
    chain = rollback-chained p.head (world p.head p.history) p.chain c code reason s.parts.chain;
    carried = no-row p.chain.log (Rollback code reason) refl;
    works = length-set p.chain.book.works c.0 None;
    entries = refl;
    locks = subst (λ (hs : List Hold). LocksAre hs (unqueued c (world p.head p.history).waits) l) (all_dropped c None (world p.head p.history).holds) are;
    limits = limits;
    desk = rollback-desk p.head (world p.head p.history) c (desk_at p.desks c) code reason ends (own-desk p c (desk_at p.desks c) s lt refl);
    reserved = omega (arith, covers);
  }

  pub ended-own : LocksAre (dropped c (world p.head p.history).holds) (unqueued c (world p.head p.history).waits) l → 3 ≤ p.reserved
      → IsOwn p c Act.Ended (without_unit p.chain c) l (record (desk_at p.desks c) { phase = Phase.Ended; claimed = false }) (p.reserved - 3)
  ended-own are covers = record {
    chain = ended-chained p.head (world p.head p.history) p.chain c s.parts.chain;
    carried = no-row p.chain.log Act.Ended refl;
    works = length-set p.chain.book.works c.0 None;
    entries = refl;
    locks = subst (λ (hs : List Hold). LocksAre hs (unqueued c (world p.head p.history).waits) l) (all_dropped c None (world p.head p.history).holds) are;
    limits = limits;
    desk = ended-desk p.head (world p.head p.history) c (desk_at p.desks c) (own-desk p c (desk_at p.desks c) s lt refl);
    reserved = omega (arith, covers);
  }

  pub stop-own : (cause : Cause) → may_stop p.head (world p.head p.history) c cause ≡ true
      → LocksAre (after p.head (world p.head p.history) (by_agent c (Stopped cause))).holds (unqueued c (world p.head p.history).waits) l → 1 ≤ p.reserved
      → IsOwn p c (Stopped cause) p.chain l (record (desk_at p.desks c) { phase = Closing; claimed = false }) (p.reserved - 1)
  stop-own cause may are covers = record {
    chain = kept-chained (world p.head p.history) (after p.head (world p.head p.history) (by_agent c (Stopped cause))) p.chain refl refl refl refl refl refl
        s.parts.chain;
    carried = no-row p.chain.log (Stopped cause) refl;
    works = refl;
    entries = refl;
    locks = are;
    limits = limits;
    desk = stop-desk p.head (world p.head p.history) c (desk_at p.desks c) cause may (own-desk p c (desk_at p.desks c) s lt refl);
    reserved = omega (arith, covers);
  }
