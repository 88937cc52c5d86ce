use Rattle.std.proofs.Common.{◌∙◌, sym}
use Rattle.iso_state.specs.Stands.{world_of}
use Rattle.iso_locks.proofs.LockSteps.{limit-full}
use Rattle.iso_locks.proofs.locking.escalate.Goals as goal

pub returns-in-Some-clause-full : goal.returns-in-Some-clause-full
returns-in-Some-clause-full c =
    let p = c.args.parts.now in
    λ e. limit-full p.head (world_of p) c.args.conn c.in-Some.table c.in-Some.mode (sym c.escalation.ensures ∙ c.in-Some.is) (c.escalate_on.ensures.full e)
