-- Where a connection stands: its phase, whether a unit is open, and how much that has left to undo.
use Rattle.std.proofs.Common.{◌≡◌, ℕ, ◌+◌, ◌≤◌, Bool, true, false, length, refl, arith, is_some, is_none}
use Rattle.std.specs.Prelude.{if◌then◌else◌}
use Rattle.iso_history.specs.Phases.{is_phase, phase, phase_of}
use Rattle.iso_history.specs.Records.{left_of}
use Rattle.iso_history.specs.Stops.{need, reserve, reserve_in}
use Rattle.iso_history.specs.World.{World}
use Rattle.iso_queue.specs.Queues.{is_waiting}
use Rattle.iso_types.specs.declared.desk.Phase.{Phase}
use Rattle.iso_types.specs.declared.desk.Phase.TheVariants.{Closing, Idle, Rolling, Running}
use Rattle.iso_types.specs.declared.value.Conn.{Conn}

-- the truth values from which a phase is found
pub record IsIn (e f d x s : Bool) (ended closing doomed waiting shut : Bool) : Type 0 where
  pub ended_is : ended ≡ e
  pub closing_is : closing ≡ f
  pub doomed_is : doomed ≡ d
  pub waiting_is : waiting ≡ x
  pub shut_is : shut ≡ s

pub running-parts : (e f d x s : Bool) → phase_of e f d x s ≡ Running → IsIn false false false false false e f d x s
running-parts true f d x s is = absurd (cc)
running-parts false true d x s is = absurd (cc)
running-parts false false true x s is = absurd (cc)
running-parts false false false true s is = absurd (cc)
running-parts false false false false true is = absurd (cc)
running-parts false false false false false is = record { ended_is = refl; closing_is = refl; doomed_is = refl; waiting_is = refl; shut_is = refl }

pub idle-parts : (e f d x s : Bool) → phase_of e f d x s ≡ Idle → IsIn false false false false true e f d x s
idle-parts true f d x s is = absurd (cc)
idle-parts false true d x s is = absurd (cc)
idle-parts false false true x s is = absurd (cc)
idle-parts false false false true s is = absurd (cc)
idle-parts false false false false true is = record { ended_is = refl; closing_is = refl; doomed_is = refl; waiting_is = refl; shut_is = refl }
idle-parts false false false false false is = absurd (cc)

pub waiting-parts : (e f d x s : Bool) → phase_of e f d x s ≡ Phase.Waiting → IsIn false false false true s e f d x s
waiting-parts true f d x s is = absurd (cc)
waiting-parts false true d x s is = absurd (cc)
waiting-parts false false true x s is = absurd (cc)
waiting-parts false false false true s is = record { ended_is = refl; closing_is = refl; doomed_is = refl; waiting_is = refl; shut_is = refl }
waiting-parts false false false false true is = absurd (cc)
waiting-parts false false false false false is = absurd (cc)

pub rolling-parts : (e f d x s : Bool) → phase_of e f d x s ≡ Rolling → IsIn false false true x s e f d x s
rolling-parts true f d x s is = absurd (cc)
rolling-parts false true d x s is = absurd (cc)
rolling-parts false false true x s is = record { ended_is = refl; closing_is = refl; doomed_is = refl; waiting_is = refl; shut_is = refl }
rolling-parts false false false true s is = absurd (cc)
rolling-parts false false false false true is = absurd (cc)
rolling-parts false false false false false is = absurd (cc)

pub closing-parts : (e f d x s : Bool) → phase_of e f d x s ≡ Closing → IsIn false true d x s e f d x s
closing-parts true f d x s is = absurd (cc)
closing-parts false true d x s is = record { ended_is = refl; closing_is = refl; doomed_is = refl; waiting_is = refl; shut_is = refl }
closing-parts false false true x s is = absurd (cc)
closing-parts false false false true s is = absurd (cc)
closing-parts false false false false true is = absurd (cc)
closing-parts false false false false false is = absurd (cc)

-- the truth values of a connection
abbrev pub HasParts : World → Conn → Bool → Bool → Bool → Bool → Bool → Type 0
HasParts w c e f d x s = IsIn e f d x s (w.ended c) (w.closing c) (is_some (w.doom c)) (is_waiting w.waits c) (is_none (w.line c))

pub phase-at : (w : World) (c : Conn) (e f d x s : Bool) → HasParts w c e f d x s → phase w c ≡ phase_of e f d x s
phase-at w c e f d x s h = rw (h.ended_is, h.closing_is, h.doomed_is, h.waiting_is, h.shut_is) refl

-- where a connection stands
pub record At (w : World) (c : Conn) (p : Phase) (has_unit : Bool) (u : ℕ) : Type 0 where
  pub phase_is : phase w c ≡ p
  pub unit_is : is_some (w.unit c) ≡ has_unit
  pub left_is : length (left_of w c) ≡ u

-- the need, by phase, whether a unit is open, and how much that has left to undo
abbrev pub need_in : Phase → Bool → ℕ → ℕ
need_in p has_unit u = if is_phase p Closing then u + 1 else reserve_in p has_unit u

pub reserve-at : (w : World) (c : Conn) (p : Phase) (h : Bool) (u : ℕ) → At w c p h u → reserve w c ≡ reserve_in p h u
reserve-at w c p h u a = rw (a.phase_is, a.unit_is, a.left_is) refl

pub need-at : (w : World) (c : Conn) (p : Phase) (h : Bool) (u : ℕ) → At w c p h u → need w c ≡ need_in p h u
need-at w c p h u a = rw (a.phase_is, a.unit_is, a.left_is) refl

-- a need is never more than the reserve
pub need_in-le : (p : Phase) (h : Bool) (u : ℕ) → need_in p h u ≤ reserve_in p h u
need_in-le Idle true u = omega arith
need_in-le Idle false u = omega arith
need_in-le Running h u = omega arith
need_in-le Phase.Waiting h u = omega arith
need_in-le Rolling h u = omega arith
need_in-le Closing h u = omega arith
need_in-le Phase.Ended h u = omega arith

pub need-le : (w : World) (c : Conn) → need w c ≤ reserve w c
need-le w c = need_in-le (phase w c) (is_some (w.unit c)) (length (left_of w c))

-- and the reserve passes it by two at most
need_in-near : (p : Phase) (h : Bool) (u : ℕ) → reserve_in p h u ≤ need_in p h u + 2
need_in-near Idle true u = omega arith
need_in-near Idle false u = omega arith
need_in-near Running h u = omega arith
need_in-near Phase.Waiting h u = omega arith
need_in-near Rolling h u = omega arith
need_in-near Closing h u = omega arith
need_in-near Phase.Ended h u = omega arith

pub need-near : (w : World) (c : Conn) → reserve w c ≤ need w c + 2
need-near w c = need_in-near (phase w c) (is_some (w.unit c)) (length (left_of w c))
