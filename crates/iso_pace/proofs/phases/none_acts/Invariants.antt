use Rattle.std.proofs.Common.{◌≡◌, ◌<◌, ℕ, not, true}
use Rattle.iso_history.specs.Phases.{is_active}
use Rattle.iso_state.specs.Stands.{world_of}
use Rattle.iso_pace.proofs.phases.none_acts.Given as goal

abbrev pub invariant-loop-at : goal.invariant-loop-at
invariant-loop-at l = (k : ℕ) → k < l.at → not (is_active (world_of l.parts) (record { 0 = k })) ≡ true
