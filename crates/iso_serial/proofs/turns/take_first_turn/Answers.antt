use Rattle.std.proofs.Common.{◌≡◌, ◌∙◌, sym, subst, false}
use Rattle.std.proofs.lemmas.Bool.{both_ways}
use Rattle.iso_history.specs.declared.entry.Who.TheVariants.{Dispatcher}
use Rattle.iso_serial.proofs.Begins.{dispatcher-begins}
use Rattle.iso_serial.specs.Rounds.{HasTried}
use Rattle.iso_serial.proofs.turns.take_first_turn.Goals as goal

pub unreachable-requires : goal.unreachable-requires
unreachable-requires c =
    let old = c.args.parts.now.history.items in
    let tried : HasTried c.args.script.now old c.try_director.new.parts.history.items Dispatcher false =
    subst (HasTried c.args.script.now old c.try_director.new.parts.history.items Dispatcher) c.if-not-try_director.true c.try_director.ensures.tried in
    both_ways _ tried.1 (dispatcher-begins c.args.script.now old c.requires.none c.requires.sound)
