use Rattle.std.proofs.Common.{rules, ◌<◌, length, ◌∙◌}
use Rattle.iso_serial.proofs.Rests.{is-at, tried-turned, worked-rested}
use Rattle.iso_serial.proofs.agents.try_agent.Goals as goal

pub make-turned-requires-clause-rested : goal.make-turned-requires-clause-rested
make-turned-requires-clause-rested c =
    let agents = c.args.agents.now.items in
    let lt : c.args.at < length agents = search rules in
    (
    is-at c.args.script.now c.args.parts.now.history.items agents c.args.at c.index_mut-agent.result.now lt
    c.index_mut-agent.ensures.value c.requires.rested
    ).rested

pub returns-clause-rested : goal.returns-clause-rested
returns-clause-rested c =
    let agents = c.args.agents.now.items in
    let lt : c.args.at < length agents = search rules in
    worked-rested c.args.script.now c.args.parts.now.history.items c.make-turned.new.parts.history.items agents c.args.at
    c.index_mut-agent.result.now c.settle.new.self c.make-turned.result c.make-turned.new.self.task c.make-turned.new.self.kept
    c.make-turned.new.parts.head lt c.index_mut-agent.ensures.value c.requires.rested c.make-turned.ensures.turned
    (c.make-turned.ensures.head ∙ c.requires.head) c.make-turned.ensures.stands.ground c.make-turned.ensures.conduct c.make-turned.ensures.fits
    c.settle.ensures.settled c.settle.ensures.kept (c.settle.ensures.conn ∙ c.make-turned.ensures.conn)

pub returns-clause-tried : goal.returns-clause-tried
returns-clause-tried c =
    let agents = c.args.agents.now.items in
    let a = c.index_mut-agent.result.now in
    let lt : c.args.at < length agents = search rules in
    let place = (is-at c.args.script.now c.args.parts.now.history.items agents c.args.at a lt c.index_mut-agent.ensures.value c.requires.rested).place in
    tried-turned c.args.script.now c.args.parts.now.head c.args.parts.now.history.items
    c.make-turned.new.parts.history.items c.args.at a.conn c.make-turned.result c.has_run.result c.requires.head place
    c.make-turned.ensures.turned c.make-turned.ensures.able c.has_run.ensures
