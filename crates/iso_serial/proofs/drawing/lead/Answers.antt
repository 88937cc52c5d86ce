use Rattle.std.proofs.Common.{false, subst}
use Rattle.std.proofs.lemmas.Bool.{both_ways}
use Rattle.iso_history.specs.declared.entry.Who.TheVariants.{Dispatcher}
use Rattle.iso_serial.specs.Rounds.{HasTried}
use Rattle.iso_serial.proofs.drawing.lead.Goals as goal

pub unreachable-requires : goal.unreachable-requires
unreachable-requires c =
    let script = c.args.script.now in
    let old = c.args.parts.now.history.items in
    let new = c.try_director.new.parts.history.items in
    let tried : HasTried script old new Dispatcher false =
    subst (HasTried script old new Dispatcher) c.if-not-try_director.true c.try_director.ensures.tried in
    both_ways _ tried.1 c.requires.able
