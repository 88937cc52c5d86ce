use Rattle.std.proofs.Common.{rules, ◌≤◌, length, ◌∙◌}
use Rattle.iso_serial.proofs.Whose.{asked-here, asked-past}
use Rattle.iso_serial.proofs.agents.ask_agents.Goals as goal

pub returns-then-try_agent-clause-asked : goal.returns-then-try_agent-clause-asked
returns-then-try_agent-clause-asked c =
    let le : c.args.to ≤ length c.args.script.now.head.conns = search rules in
    asked-here c.args.script.now c.args.parts.now.history.items c.loop-at.parts.history.items
    c.try_agent.new.parts.history.items c.args.from c.loop-at.at c.args.to c.try_agent.result c.loop-at-test.true le c.loop-at.invariant.same
    c.try_agent.ensures.tried c.loop-at.invariant.passed c.if-try_agent.true

pub loop-at-preserved : goal.loop-at-preserved
loop-at-preserved c =
    let le : c.args.to ≤ length c.args.script.now.head.conns = search rules in
    let past = asked-past c.args.script.now c.args.parts.now.history.items c.loop-at.parts.history.items
    c.try_agent.new.parts.history.items c.args.from c.loop-at.at c.args.to c.try_agent.result c.loop-at-test.true le c.loop-at.invariant.same
    c.try_agent.ensures.tried c.loop-at.invariant.passed c.if-try_agent.false in
    record {
      stands = c.try_agent.ensures.stands;
      head = c.try_agent.ensures.head ∙ c.loop-at.invariant.head;
      same = past.0;
      rested = c.try_agent.ensures.rested;
      passed = past.1;
    }
