use Rattle.std.proofs.Common.{false, subst}
use Rattle.std.proofs.lemmas.Bool.{both_ways}
use Rattle.iso_serial.specs.Rounds.{HasTried, agent}
use Rattle.iso_serial.proofs.drawing.go.Goals as goal

pub unreachable-requires : goal.unreachable-requires
unreachable-requires c =
    let script = c.args.script.now in
    let old = c.args.parts.now.history.items in
    let new = c.try_agent.new.parts.history.items in
    let tried : HasTried script old new (agent c.args.at) false =
    subst (HasTried script old new (agent c.args.at)) c.if-not-try_agent.true c.try_agent.ensures.tried in
    both_ways _ tried.1 c.requires.able
