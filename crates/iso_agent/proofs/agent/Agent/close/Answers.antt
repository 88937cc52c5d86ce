use Rattle.std.proofs.Common.{refl, subst, sym}
use Rattle.iso_agent.proofs.Leaves.{closing-leaves}
use Rattle.iso_conduct.specs.Conduct.{MayIn, closing_act, point}
use Rattle.iso_history.specs.Outcomes.{last_record}
use Rattle.iso_state.specs.Stands.{world_of}
use Rattle.iso_agent.proofs.agent.Agent.close.Goals as goal

pub returns-clause-leaves : goal.returns-clause-leaves
returns-clause-leaves c =
    let p = c.args.parts.now in
    let a = closing_act (last_record (world_of p) c.args.self.now.conn) in
    closing-leaves p.head c.args.script.now.lines p.history.items c.make_closing.new.parts.history.items c.args.self.now.conn a
    c.make_closing.ensures.entry c.requires.conduct
    (subst (λ f. MayIn f p.head c.args.script.now.lines (world_of p) c.args.self.now.conn (point p.head c.args.script.now.lines p.history.items c.args.self.now.conn) a)
    (sym c.requires.closing) refl) c.requires.closing
