use Rattle.std.proofs.Common.{◌∙◌, ap, sym}
use Rattle.iso_agent.proofs.Quieting.{quiet-answers}
use Rattle.iso_conduct.specs.Conduct.{quiet}
use Rattle.iso_conduct.specs.Points.{due}
use Rattle.iso_state.specs.Stands.{world_of}
use Rattle.iso_agent.proofs.quiet.quieten_once.Goals as goal

pub told-requires-clause-answers : goal.told-requires-clause-answers
told-requires-clause-answers c =
    quiet-answers (world_of c.args.parts.now) c.args.conn (due c.args.task.now) c.in-Some.told
    (ap (quiet (world_of c.args.parts.now) c.args.conn) (sym c.next.ensures) ∙ sym c.quiet_answer.ensures ∙ c.in-Some.is)
