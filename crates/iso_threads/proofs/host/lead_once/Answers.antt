use Rattle.std.proofs.Common.{◌≡◌, sym, ap, ◌∙◌}
use Rattle.iso_agent.proofs.Entering.{same_head}
use Rattle.iso_latch.specs.Told.{head_of, seen_of, voices_of}
use Rattle.iso_state.specs.Tale.{Tale, tale_of}
use Rattle.iso_threads.proofs.Leading.{host-grown, host-keeps, host-taken, led_finished}
use Rattle.iso_types.specs.declared.head.Head.{Head}
use Rattle.iso_threads.proofs.host.lead_once.Goals as goal

pub make-led-requires-clause-taken : goal.make-led-requires-clause-taken
make-led-requires-clause-taken g c =
    host-taken c.args.script.now (voices_of c.args.pass.seat) (seen_of c.args.pass.seat) (seen_of c.enter-turn.result.0.seat)
    c.deref_mut.result.now.history.items c.args.director.now c.requires.pass.voice c.enter-turn.ensures.begins
    (ap (λ (t : Tale). t.history) (ap tale_of c.deref_mut.ensures.value ∙ c.into_parts-parts.ensures.tale) ∙ sym c.enter-turn.ensures.value.1) c.requires.taken

pub leave-requires-clause-grown : goal.leave-requires-clause-grown
leave-requires-clause-grown g c =
    host-grown c.args.script.now (voices_of c.args.pass.seat) (voices_of c.enter-turn.result.0.seat) c.deref_mut.result.now.history.items
    c.make-led.new.parts.history.items (seen_of c.enter-turn.result.0.seat) c.over.result.history c.make-led.result
    c.requires.pass.voice c.enter-turn.ensures.kept.0
    (ap (λ (t : Tale). t.history) (ap tale_of c.deref_mut.ensures.value ∙ c.into_parts-parts.ensures.tale) ∙ sym c.enter-turn.ensures.value.1)
    (ap (λ (t : Tale). t.history) c.over.ensures.tale) c.make-led.ensures.led

pub returns-clause-keep : goal.returns-clause-keep
returns-clause-keep g c =
    host-keeps c.args.script.now (voices_of c.args.pass.seat) (voices_of c.leave.result.seat) (seen_of c.args.pass.seat)
    (seen_of c.enter-turn.result.0.seat) c.deref_mut.result.now.history.items c.make-led.new.parts.history.items
    (seen_of c.leave.result.seat) c.make-led.result c.make-led.new.self c.enter-turn.ensures.begins c.requires.keep
    (ap (λ (t : Tale). t.history) (ap tale_of c.deref_mut.ensures.value ∙ c.into_parts-parts.ensures.tale) ∙ sym c.enter-turn.ensures.value.1) c.make-led.ensures.led
    c.make-led.ensures.taken (c.leave.ensures.seen ∙ ap (λ (t : Tale). t.history) c.over.ensures.tale)
    (c.leave.ensures.kept.0 ∙ c.enter-turn.ensures.kept.0)

pub returns-clause-finished : goal.returns-clause-finished
returns-clause-finished g c =
    let state = c.enter-turn.result.1 in
    let script = c.args.script.now in
    let same : state.head ≡ script.head =
    same_head state.head script.head (head_of c.enter-turn.result.0.seat) c.enter-turn.ensures.value.0
    (c.enter-turn.ensures.kept.1 ∙ c.requires.pass.head) in
    λ at. led_finished script c.deref_mut.result.now.head c.deref_mut.result.now.history.items c.make-led.new.parts.history.items
    (seen_of c.leave.result.seat) c.make-led.result c.make-led.ensures.led
    (ap (λ (t : Tale). t.head) (ap tale_of c.deref_mut.ensures.value ∙ c.into_parts-parts.ensures.tale) ∙ same)
    (c.leave.ensures.seen ∙ ap (λ (t : Tale). t.history) c.over.ensures.tale) c.make-led.ensures.ended at
