use Rattle.std.proofs.Common.{◌<◌, length, subst, sym}
use Rattle.iso_agent.proofs.Making.{unfinished}
use Rattle.iso_types.specs.declared.head.Head.{Head}
use Rattle.iso_agent.proofs.agent.Agent.make.Goals as goal

pub close-requires-clause-open : goal.close-requires-clause-open
close-requires-clause-open c =
    let p = c.args.parts.now in
    unfinished p.head p.history.items c.args.self.now.conn c.requires.stands.stands.ground
    (subst (λ (h : Head). c.args.self.now.conn.0 < length h.conns) (sym c.requires.head) c.requires.conn) c.in-Close.ensures.1

pub run-requires-clause-open : goal.run-requires-clause-open
run-requires-clause-open c =
    let p = c.args.parts.now in
    unfinished p.head p.history.items c.args.self.now.conn c.requires.stands.stands.ground
    (subst (λ (h : Head). c.args.self.now.conn.0 < length h.conns) (sym c.requires.head) c.requires.conn) c.in-Run.ensures.1
