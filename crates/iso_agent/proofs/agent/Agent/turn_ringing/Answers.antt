use Rattle.std.proofs.Common.{◌≡◌, ◌∙◌, sym}
use Rattle.iso_agent.proofs.Entering.{entered, same_head, voiced-grown, worked}
use Rattle.iso_latch.specs.Told.{head_of, seen_of, voices_of}
use Rattle.iso_types.specs.declared.head.Head.{Head}
use Rattle.iso_agent.proofs.agent.Agent.turn_ringing.Goals as goal

pub step-state-requires-clause-rested : goal.step-state-requires-clause-rested
step-state-requires-clause-rested g c =
    let a = c.args.self.now in
    let script = c.args.script.now in
    let state = c.enter-turn.result.1 in
    let seat = c.enter-turn.result.0.seat in
    let same : state.head ≡ script.head =
    same_head state.head script.head (head_of seat) c.enter-turn.ensures.value.0 (c.enter-turn.ensures.kept.1 ∙ c.requires.pass.head) in
    entered script state.head a.conn (voices_of c.args.pass.seat) a.task a.kept (seen_of c.args.pass.seat) (seen_of seat) state.history
    c.requires.pass.voice c.enter-turn.ensures.value.1 c.enter-turn.ensures.begins same c.grounded.ensures c.requires.rested

pub leave-pass-requires-clause-grown : goal.leave-pass-requires-clause-grown
leave-pass-requires-clause-grown g c =
    voiced-grown c.enter-turn.result.1.history c.step-state.result.0.history (seen_of c.enter-turn.result.0.seat) c.args.self.now.conn
    (voices_of c.enter-turn.result.0.seat) (voices_of c.args.pass.seat) c.step-state.result.1 c.requires.pass.voice
    c.enter-turn.ensures.kept.0 c.enter-turn.ensures.value.1 c.step-state.ensures.turned

pub returns-clause-rested : goal.returns-clause-rested
returns-clause-rested g c =
    let script = c.args.script.now in
    let state = c.enter-turn.result.1 in
    let made = c.step-state.result.0 in
    let same : state.head ≡ script.head =
    same_head state.head script.head (head_of c.enter-turn.result.0.seat) c.enter-turn.ensures.value.0
    (c.enter-turn.ensures.kept.1 ∙ c.requires.pass.head) in
    worked script made.head made.history (seen_of c.leave-pass.result.seat) c.args.self.now.conn c.step-state.new.self.task
    c.work.new.self.task c.step-state.new.self.kept c.work.new.self.kept c.leave-pass.ensures.seen (c.step-state.ensures.head ∙ same)
    c.step-state.ensures.fits c.step-state.ensures.conduct c.work.ensures.settled c.work.ensures.kept
