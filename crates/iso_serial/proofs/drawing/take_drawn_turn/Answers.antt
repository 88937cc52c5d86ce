use Rattle.std.proofs.Common.{◌∙◌, subst}
use Rattle.iso_conduct.specs.Schedule.{actors}
use Rattle.iso_history.specs.Legal.{Ground}
use Rattle.iso_history.specs.declared.entry.Who.TheVariants.{Dispatcher}
use Rattle.iso_types.specs.declared.head.Head.{Head}
use Rattle.iso_serial.proofs.Drawn.{leads-same}
use Rattle.iso_serial.proofs.Picks.{drawn-able}
use Rattle.iso_serial.proofs.Rests.{led-rested}
use Rattle.iso_serial.proofs.Whole.{agent-taken, goes-on}
use Rattle.iso_serial.specs.Rounds.{agent, could_act}
use Rattle.iso_serial.proofs.drawing.take_drawn_turn.Goals as goal

pub choose-requires-clause-leads : goal.choose-requires-clause-leads
choose-requires-clause-leads c =
    c.able-leads.ensures.able
    ∙ leads-same c.args.script.now c.args.parts.now.head c.args.parts.now.history.items c.args.director.now c.requires.head c.requires.taken

pub choose-requires-clause-some : goal.choose-requires-clause-some
choose-requires-clause-some c =
    goes-on c.args.script.now c.args.parts.now.head c.args.parts.now.history.items c.args.director.now c.requires.head c.requires.sound
    c.requires.stands.ground c.requires.taken c.requires.goes_on

pub lead-requires-clause-able : goal.lead-requires-clause-able
lead-requires-clause-able c =
    let script = c.args.script.now in
    drawn-able (could_act script c.args.parts.now.history.items) c.args.word (actors script.head) Dispatcher c.in-None.ensures.chosen

pub returns-in-None-clause-rested : goal.returns-in-None-clause-rested
returns-in-None-clause-rested c =
    let script = c.args.script.now in
    let new = c.lead.new.parts.history.items in
    led-rested script c.args.parts.now.history.items new c.args.agents.now.items c.lead.ensures.made
    (subst (λ (h : Head). Ground h new) (c.lead.ensures.head ∙ c.requires.head) c.lead.ensures.stands.ground) c.requires.rested

pub returns-in-None-clause-drawn : goal.returns-in-None-clause-drawn
returns-in-None-clause-drawn c = (Dispatcher, c.lead.ensures.made, c.in-None.ensures.chosen)

pub go-requires-clause-able : goal.go-requires-clause-able
go-requires-clause-able c =
    let script = c.args.script.now in
    drawn-able (could_act script c.args.parts.now.history.items) c.args.word (actors script.head) (agent c.in-Some.at) c.in-Some.ensures.chosen

pub returns-in-Some-clause-taken : goal.returns-in-Some-clause-taken
returns-in-Some-clause-taken c =
    agent-taken c.args.script.now c.args.parts.now.history.items c.go.new.parts.history.items c.in-Some.at c.able-leads.new.self
    c.go.ensures.made c.able-leads.ensures.taken

pub returns-in-Some-clause-drawn : goal.returns-in-Some-clause-drawn
returns-in-Some-clause-drawn c = (agent c.in-Some.at, c.go.ensures.made, c.in-Some.ensures.chosen)
