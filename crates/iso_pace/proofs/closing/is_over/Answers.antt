use Rattle.std.proofs.Common.{◌∙◌, ap}
use Rattle.iso_history.specs.Phases.{is_phase}
use Rattle.iso_state.specs.Stands.{world_of}
use Rattle.iso_types.specs.declared.desk.Phase.{Phase}
use Rattle.iso_pace.proofs.Closes.{ended-is}
use Rattle.iso_pace.proofs.closing.is_over.Goals as goal

pub returns : goal.returns
returns c =
    c.same_phase.ensures ∙ ap (λ (x : Phase). is_phase x Phase.Ended) c.phase_of.ensures ∙ ended-is (world_of c.args.parts.now) c.args.conn
