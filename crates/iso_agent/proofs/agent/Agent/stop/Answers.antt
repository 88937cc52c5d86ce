use Rattle.std.proofs.Common.{refl}
use Rattle.iso_agent.proofs.Leaves.{over-leaves}
use Rattle.iso_history.specs.declared.entry.Act.TheVariants as acts
use Rattle.iso_agent.proofs.agent.Agent.stop.Goals as goal

pub returns-clause-leaves : goal.returns-clause-leaves
returns-clause-leaves c =
    let p = c.args.parts.now in
    over-leaves p.head c.args.script.now.lines p.history.items c.stopped.new.parts.history.items c.args.self.now.conn (acts.Stopped c.args.cause)
    c.stopped.ensures.entry c.requires.conduct c.requires.may refl
