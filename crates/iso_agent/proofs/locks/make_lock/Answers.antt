use Rattle.std.proofs.Common.{subst, sym}
use Rattle.iso_agent.proofs.Stepping.{lock-stepped}
use Rattle.iso_agent.specs.Steps.{HasStepped}
use Rattle.iso_agent.specs.declared.stepped.Stepped.TheVariants.{Goes}
use Rattle.iso_history.specs.Outcomes.{asked_by}
use Rattle.iso_history.specs.Requests.{request}
use Rattle.iso_state.specs.Stands.{world_of}
use Rattle.iso_agent.proofs.locks.make_lock.Goals as goal

pub returns-in-Ok-clause-stepped : goal.returns-in-Ok-clause-stepped
returns-in-Ok-clause-stepped c =
    let p = c.args.parts.now in
    let q = c.lock.new.parts in
    let a = asked_by p.head (world_of p) c.args.conn c.args.name c.args.mode (request p.head (world_of p) c.args.conn c.args.name c.args.mode) in
    subst (λ k. HasStepped p.head p.history.items q.history.items c.args.conn a (Goes k)) (sym c.keep_lock.ensures)
    (lock-stepped p.head q.head p.history.items q.history.items c.args.conn c.args.name c.args.mode c.in-Ok.answer c.waits.result c.requires.runs.0
    c.in-Ok.ensures.head c.in-Ok.ensures.ok c.in-Ok.ensures.answer c.waits.ensures)
