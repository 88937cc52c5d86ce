use Rattle.std.proofs.Common.{◌≡◌, ◌<◌, ℕ, false}
use Rattle.iso_history.specs.Phases.{is_phase, phase}
use Rattle.iso_state.specs.Stands.{world_of}
use Rattle.iso_types.specs.declared.desk.Phase.TheVariants.{Idle}
use Rattle.iso_pace.proofs.closing.first_idle.Given as goal

abbrev pub invariant-loop-at : goal.invariant-loop-at
invariant-loop-at l = (k : ℕ) → k < l.at → is_phase (phase (world_of l.parts) (record { 0 = k })) Idle ≡ false
