use Rattle.std.specs.Prelude.{if◌then◌else◌}
use Rattle.iso_history.specs.Phases.{is_phase, phase}
use Rattle.iso_pace.proofs.Walks.{IsCounted}
use Rattle.iso_state.specs.Stands.{world_of}
use Rattle.iso_types.specs.declared.desk.Phase.{Phase}
use Rattle.iso_pace.proofs.phases.two_wait.Given as goal

abbrev pub invariant-loop-at : goal.invariant-loop-at
invariant-loop-at l = IsCounted l.parts.head (λ c. is_phase (phase (world_of l.parts) c) Phase.Waiting) l.at (if l.one then 1 else 0)
