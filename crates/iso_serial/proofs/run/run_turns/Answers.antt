use Rattle.std.proofs.Common.{◌≡◌, true, List, ap, sym, subst, ◌∙◌, arith}
use Rattle.iso_history.specs.Legal.{Ground}
use Rattle.iso_history.specs.declared.entry.Entry.{Entry}
use Rattle.iso_history.specs.declared.entry.Who.TheVariants.{Dispatcher}
use Rattle.iso_types.specs.declared.head.Head.{Head}
use Rattle.iso_serial.proofs.Begins.{first-taken}
use Rattle.iso_serial.proofs.Ends.{finished-last}
use Rattle.iso_serial.proofs.Rests.{led-rested}
use Rattle.iso_serial.proofs.Scheduled.{after-first, after-next}
use Rattle.iso_serial.proofs.Whole.{legal-of, nearer}
use Rattle.iso_serial.specs.Rounds.{HasMade, actor}
use Rattle.iso_serial.proofs.run.run_turns.Goals as goal

pub take_first_turn-requires-clause-taken : goal.take_first_turn-requires-clause-taken
take_first_turn-requires-clause-taken c =
    first-taken c.args.script.now c.args.parts.now.history.items c.new-director.result c.requires.none c.new-director.ensures.taken
    c.new-director.ensures.kept c.new-director.ensures.acyclic

pub turns-init : goal.turns-init
turns-init c =
    let script = c.args.script.now in
    let old = c.args.parts.now.history.items in
    let new = c.take_first_turn.new.parts.history.items in
    let made = c.take_first_turn.ensures.made in
    let ground : Ground script.head new =
    subst (λ (h : Head). Ground h new) (c.take_first_turn.ensures.head ∙ c.requires.head) c.take_first_turn.ensures.stands.ground in
    record {
      stands = c.take_first_turn.ensures.stands;
      head = c.take_first_turn.ensures.head;
      taken = c.take_first_turn.ensures.taken;
      rested = led-rested script old new c.args.agents.now.items made ground c.requires.rested;
      within = omega arith;
      scheduled = after-first script new (subst (λ (es : List Entry). HasMade script es new Dispatcher) c.requires.none made);
    }

pub turns-smaller : goal.turns-smaller
turns-smaller c =
    let script = c.args.script.now in
    let new = c.take_turn-last.new.parts.history.items in
    let ground : Ground script.head new =
    subst (λ (h : Head). Ground h new) (c.take_turn-last.ensures.head ∙ (c.turns.invariant.head ∙ c.requires.head))
    c.take_turn-last.ensures.stands.ground in
    nearer script c.turns.parts.history.items new (actor c.take_turn-last.result) c.requires.sound ground c.take_turn-last.ensures.made

pub turns-preserved : goal.turns-preserved
turns-preserved c =
    let script = c.args.script.now in
    record {
      stands = c.take_turn-last.ensures.stands;
      head = c.take_turn-last.ensures.head ∙ c.turns.invariant.head;
      taken = c.take_turn-last.ensures.taken;
      rested = c.take_turn-last.ensures.rested;
      within = c.take_turn-last.ensures.within;
      scheduled = after-next script c.turns.parts.history.items c.take_turn-last.new.parts.history.items (actor c.turns.last)
          (actor c.take_turn-last.result) c.turns.invariant.scheduled c.take_turn-last.ensures.made c.take_turn-last.ensures.whose;
    }

pub returns-clause-legal : goal.returns-clause-legal
returns-clause-legal c =
    let script = c.args.script.now in
    let es = c.turns.parts.history.items in
    legal-of script es c.turns.agents.items c.turns.director
    (subst (λ (h : Head). Ground h es) (c.turns.invariant.head ∙ c.requires.head) c.turns.invariant.stands.ground) c.turns.invariant.rested
    c.turns.invariant.taken

pub returns-clause-finished : goal.returns-clause-finished
returns-clause-finished c =
    finished-last c.turns.parts.head c.turns.parts.history.items c.turns.invariant.stands.ground
    (ap (λ p. p.finished) (sym c.turns.invariant.stands.parts.pace) ∙ c.turns-test.false)
