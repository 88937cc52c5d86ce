use Rattle.std.proofs.Common.{rules, ◌≡◌, length, true, false, subst, ◌∙◌}
use Rattle.std.proofs.lemmas.Bool.{both_ways}
use Rattle.iso_history.specs.Legal.{Ground}
use Rattle.iso_history.specs.declared.entry.Who.TheVariants.{Dispatcher}
use Rattle.iso_types.specs.declared.head.Head.{Head}
use Rattle.iso_serial.proofs.Rests.{led-rested}
use Rattle.iso_serial.proofs.Whole.{agent-taken, goes-on}
use Rattle.iso_serial.proofs.Whose.{no-turn, turn-before, turn-behind, turn-dispatcher}
use Rattle.iso_serial.specs.Rounds.{HasTried}
use Rattle.iso_serial.proofs.turns.take_turn.Goals as goal

pub returns-in-Some-clause-taken : goal.returns-in-Some-clause-taken
returns-in-Some-clause-taken c =
    agent-taken c.args.script.now c.args.parts.now.history.items c.ask_agents.new.parts.history.items c.in-Some.at c.args.director.now
    c.in-Some.ensures.asked.0 c.requires.taken

pub returns-in-Some-clause-whose : goal.returns-in-Some-clause-whose
returns-in-Some-clause-whose c =
    let all : c.len-count.result ≡ length c.args.script.now.head.conns = search rules in
    (
    turn-behind c.args.script.now c.args.parts.now.history.items c.args.last c.len-count.result all
    c.ask_agents.new.parts.history.items c.in-Some.at c.in-Some.ensures.asked
    ).1

pub returns-then-try_director-clause-rested : goal.returns-then-try_director-clause-rested
returns-then-try_director-clause-rested c =
    let script = c.args.script.now in
    let mid = c.ask_agents.new.parts.history.items in
    let new = c.try_director.new.parts.history.items in
    let tried : HasTried script mid new Dispatcher true =
    subst (HasTried script mid new Dispatcher) c.if-try_director.true c.try_director.ensures.tried in
    led-rested script mid new c.ask_agents.new.agents.items tried.0
    (subst (λ (h : Head). Ground h new) (c.try_director.ensures.head ∙ (c.ask_agents.ensures.head ∙ c.requires.head)) c.try_director.ensures.stands.ground)
    c.ask_agents.ensures.rested

pub returns-then-try_director-clause-whose : goal.returns-then-try_director-clause-whose
returns-then-try_director-clause-whose c =
    let script = c.args.script.now in
    let old = c.args.parts.now.history.items in
    let mid = c.ask_agents.new.parts.history.items in
    let new = c.try_director.new.parts.history.items in
    let all : c.len-count.result ≡ length script.head.conns = search rules in
    let tried : HasTried script mid new Dispatcher true =
    subst (HasTried script mid new Dispatcher) c.if-try_director.true c.try_director.ensures.tried in
    (turn-dispatcher script old c.args.last c.len-count.result all mid c.in_default.ensures.asked new tried).1

pub unreachable-requires : goal.unreachable-requires
unreachable-requires c =
    let script = c.args.script.now in
    let old = c.args.parts.now.history.items in
    let mid = c.ask_agents.new.parts.history.items in
    let next = c.try_director.new.parts.history.items in
    let all : c.len-count.result ≡ length script.head.conns = search rules in
    let tried : HasTried script mid next Dispatcher false =
    subst (HasTried script mid next Dispatcher) c.if-try_director.false c.try_director.ensures.tried in
    let none = no-turn script old c.args.last c.len-count.result all mid c.in_default.ensures.asked next tried
    c.ask_agents-2.new.parts.history.items c.in-None.ensures.asked in
    let some = goes-on script c.args.parts.now.head old c.args.director.now c.requires.head c.requires.sound c.requires.stands.ground
    c.requires.taken c.requires.goes_on in
    both_ways _ none some

pub returns-clause-taken : goal.returns-clause-taken
returns-clause-taken c =
    agent-taken c.args.script.now c.try_director.new.parts.history.items c.ask_agents-2.new.parts.history.items c.in-Some-ask_agents.at
    c.try_director.new.director c.in-Some-ask_agents.ensures.asked.0 c.try_director.ensures.taken

pub returns-clause-whose : goal.returns-clause-whose
returns-clause-whose c =
    let script = c.args.script.now in
    let old = c.args.parts.now.history.items in
    let mid = c.ask_agents.new.parts.history.items in
    let next = c.try_director.new.parts.history.items in
    let all : c.len-count.result ≡ length script.head.conns = search rules in
    let tried : HasTried script mid next Dispatcher false =
    subst (HasTried script mid next Dispatcher) c.if-try_director.false c.try_director.ensures.tried in
    (
    turn-before script old c.args.last c.len-count.result all mid c.in_default.ensures.asked next tried
    c.ask_agents-2.new.parts.history.items c.in-Some-ask_agents.at c.in-Some-ask_agents.ensures.asked
    ).1
