use Rattle.std.proofs.Common.{ap, refl, sym, subst, ◌∙◌, ℕ}
use Rattle.rand_pcg.specs.Lcg.{Lcg}
use Rattle.iso_history.specs.Legal.{Ground}
use Rattle.iso_types.specs.declared.head.Head.{Head}
use Rattle.iso_serial.proofs.Begins.{first-taken}
use Rattle.iso_serial.proofs.Drawn.{drawn-first, drawn-next, seed-scheduled}
use Rattle.iso_serial.proofs.Ends.{finished-last}
use Rattle.iso_serial.proofs.Whole.{legal-of, nearer}
use Rattle.iso_serial.specs.Seeds.{HasDrawn, IsDrawn, seeded}
use Rattle.iso_serial.proofs.run.run_seeded.Goals as goal

pub draws-init : goal.draws-init
draws-init c =
    let script = c.args.script.now in
    let es = c.args.parts.now.history.items in
    record {
      stands = c.requires.stands;
      head = refl;
      taken = first-taken script es c.new-director.result c.requires.none c.new-director.ensures.taken
          c.new-director.ensures.kept c.new-director.ensures.acyclic;
      rested = c.requires.rested;
      drawn = subst (λ (g : Lcg). IsDrawn script (seeded c.args.seed) es g) (sym c.generator-words.ensures)
          (drawn-first script (seeded c.args.seed) es c.requires.none);
    }

pub draws-smaller : goal.draws-smaller
draws-smaller c =
    let script = c.args.script.now in
    let new = c.take_drawn_turn.new.parts.history.items in
    let drawn = c.take_drawn_turn.ensures.drawn in
    let ground : Ground script.head new =
    subst (λ (h : Head). Ground h new) (c.take_drawn_turn.ensures.head ∙ (c.draws.invariant.head ∙ c.requires.head))
    c.take_drawn_turn.ensures.stands.ground in
    nearer script c.draws.parts.history.items new drawn.0 c.requires.sound ground drawn.1

pub draws-preserved : goal.draws-preserved
draws-preserved c =
    let script = c.args.script.now in
    let old = c.draws.parts.history.items in
    let new = c.take_drawn_turn.new.parts.history.items in
    let first = seeded c.args.seed in
    record {
      stands = c.take_drawn_turn.ensures.stands;
      head = c.take_drawn_turn.ensures.head ∙ c.draws.invariant.head;
      taken = c.take_drawn_turn.ensures.taken;
      rested = c.take_drawn_turn.ensures.rested;
      drawn = subst (λ (g : Lcg). IsDrawn script first new g) (sym c.next_of-word.ensures.on)
          (drawn-next script first c.draws.words old new c.draws.invariant.drawn
          (subst (λ (n : ℕ). HasDrawn script old new n) c.next_of-word.ensures.word c.take_drawn_turn.ensures.drawn));
    }

pub returns-clause-legal : goal.returns-clause-legal
returns-clause-legal c =
    let script = c.args.script.now in
    let es = c.draws.parts.history.items in
    legal-of script es c.draws.agents.items c.draws.director
    (subst (λ (h : Head). Ground h es) (c.draws.invariant.head ∙ c.requires.head) c.draws.invariant.stands.ground) c.draws.invariant.rested
    c.draws.invariant.taken

pub returns-clause-finished : goal.returns-clause-finished
returns-clause-finished c =
    finished-last c.draws.parts.head c.draws.parts.history.items c.draws.invariant.stands.ground
    (ap (λ p. p.finished) (sym c.draws.invariant.stands.parts.pace) ∙ c.draws-test.false)

pub returns-clause-scheduled : goal.returns-clause-scheduled
returns-clause-scheduled c =
    seed-scheduled c.args.script.now c.args.seed c.draws.parts.history.items c.draws.words c.draws.invariant.drawn
