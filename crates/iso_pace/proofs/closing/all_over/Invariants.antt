use Rattle.std.proofs.Common.{◌≡◌, ◌<◌, ℕ, true}
use Rattle.iso_state.specs.Stands.{world_of}
use Rattle.iso_pace.proofs.closing.all_over.Given as goal

abbrev pub invariant-loop-at : goal.invariant-loop-at
invariant-loop-at l = (k : ℕ) → k < l.at → (world_of l.parts).ended (record { 0 = k }) ≡ true
