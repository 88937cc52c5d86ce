-- The phase of a connection whose statement is shut, and whose wait is gone.
use Rattle.std.proofs.Common.{◌≡◌, ◌≢◌, ℕ, Bool, true, false, refl, ap, ◌∙◌}
use Rattle.std.specs.Prelude.{None, Option, is_none, is_some}
use Rattle.iso_history.specs.Phases.{phase, phase_of}
use Rattle.iso_history.specs.World.{World, at_conn}
use Rattle.iso_queue.specs.Queues.{is_waiting, unqueued}
use Rattle.iso_types.specs.declared.desk.Phase.{Phase}
use Rattle.iso_types.specs.declared.desk.Phase.TheVariants.{Idle, Running}
use Rattle.iso_types.specs.declared.value.Conn.{Conn}
use Rattle.iso_state.proofs.Phases.{at_conn-same}
use Rattle.iso_state.proofs.Waits.{gone-own}

rests-by : (e c d v s : Bool) → phase_of e c d v s ≡ Running → phase_of e c d false true ≡ Idle
rests-by true c d v s h = cc
rests-by false true d v s h = cc
rests-by false false true v s h = cc
rests-by false false false v s h = refl

-- the phase once the wait of a connection is gone and its statement is shut
abbrev pub shut-phase : World → Conn → Conn → Phase
shut-phase w c d = phase_of (w.ended d) (w.closing d) (is_some (w.doom d)) (is_waiting (unqueued c w.waits) d) (is_none (at_conn w.line c None d))

pub shut-at : (w : World) (c : Conn) → phase w c ≡ Running → shut-phase w c c ≡ Idle
shut-at w c running =
    ap (λ (b : Bool). phase_of (w.ended c) (w.closing c) (is_some (w.doom c)) b (is_none (at_conn w.line c None c))) (gone-own c w.waits)
    ∙ ap (λ (o : Option ℕ). phase_of (w.ended c) (w.closing c) (is_some (w.doom c)) false (is_none o)) (at_conn-same w.line c None)
    ∙ rests-by (w.ended c) (w.closing c) (is_some (w.doom c)) (is_waiting w.waits c) (is_none (w.line c)) running
