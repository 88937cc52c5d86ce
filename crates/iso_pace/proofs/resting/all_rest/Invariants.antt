use Rattle.std.proofs.Common.{◌≡◌, ◌<◌, ℕ, true}
use Rattle.iso_history.specs.Quiet.{is_resting}
use Rattle.iso_state.specs.Stands.{world_of}
use Rattle.iso_pace.proofs.resting.all_rest.Given as goal

abbrev pub invariant-loop-at : goal.invariant-loop-at
invariant-loop-at l = (k : ℕ) → k < l.at → is_resting (world_of l.parts) (record { 0 = k }) ≡ true
