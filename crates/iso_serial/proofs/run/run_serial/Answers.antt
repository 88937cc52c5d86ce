use Rattle.std.proofs.Common.{rules, ◌≡◌, length}
use Rattle.iso_conduct.proofs.Chained.{all-guarded}
use Rattle.iso_serial.proofs.Heads.{head-fits}
use Rattle.iso_serial.proofs.Rests.{new-rested}
use Rattle.iso_serial.proofs.run.run_serial.Goals as goal

pub new-requires : goal.new-requires
new-requires c = record { fits = head-fits c.args.script.now.head c.requires.sound.head }

pub run_by-requires-clause-rested : goal.run_by-requires-clause-rested
run_by-requires-clause-rested c =
    let count : length c.in_ok-agents.agents.items ≡ length c.args.script.now.head.conns = search rules in
    new-rested c.args.script.now c.in_ok-parts.parts.history.items c.in_ok-agents.agents.items c.in_ok-parts.ensures.history c.in_ok-agents.ensures.fresh count

pub returns-clause-guarded : goal.returns-clause-guarded
returns-clause-guarded c = all-guarded c.args.script.now c.run_by.new.parts.history.items c.run_by.ensures.legal
