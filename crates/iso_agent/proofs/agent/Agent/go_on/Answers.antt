use Rattle.std.proofs.Common.{◌≡◌, List, refl, subst, sym, true}
use Rattle.std.specs.List.{list_all}
use Rattle.iso_agent.proofs.ScansAlong.{point-sound}
use Rattle.iso_agent.proofs.Turning.{ended-leaves, made-at, stepped-leaves, stops-made}
use Rattle.iso_agent.specs.Steps.{HasStepped, IsUntold, act_due, keeps_pin}
use Rattle.iso_agent.specs.Turns.{Leaves}
use Rattle.iso_conduct.specs.Conduct.{MayIn, point, ready}
use Rattle.iso_history.specs.After.{world}
use Rattle.iso_history.specs.Legal.{By, Ground}
use Rattle.iso_history.specs.Phases.{phase}
use Rattle.iso_history.specs.declared.entry.Act.TheVariants as acts
use Rattle.iso_history.specs.declared.entry.Entry.{Entry}
use Rattle.iso_history.specs.declared.entry.Who.TheVariants as makers
use Rattle.iso_script.specs.Sound.{IsSoundHead, is_sound_line}
use Rattle.iso_standing.proofs.AtReady.{quiet-at}
use Rattle.iso_state.specs.Stands.{world_of}
use Rattle.iso_types.specs.declared.head.Head.{Head}
use Rattle.std.specs.Prelude.{Some}
use Rattle.std.proofs.lemmas.Bool.{lt-ltb}
use Rattle.std.proofs.Common.{length}
use Rattle.iso_agent.proofs.agent.Agent.go_on.Goals as goal

pub step_due-requires-clause-loud : goal.step_due-requires-clause-loud
step_due-requires-clause-loud c =
    let p = c.args.parts.now in
    quiet-at p.head c.args.script.now.lines (world_of p) c.args.self.now.conn (point p.head c.args.script.now.lines p.history.items c.args.self.now.conn)
    c.args.task c.requires.ready

pub step_due-requires-clause-scans : goal.step_due-requires-clause-scans
step_due-requires-clause-scans c =
    let p = c.args.parts.now in
    let lines = c.args.script.now.lines in
    (point-sound p.head lines c.args.self.now.conn (subst IsSoundHead (sym c.requires.head) c.requires.sound.head)
    (subst (λ h. list_all (is_sound_line h) lines ≡ true) (sym c.requires.head) c.requires.sound.lines)
    p.history.items c.args.task c.requires.stands.stands.ground c.requires.conduct c.requires.ready).within

pub stop-requires-clause-by : goal.stop-requires-clause-by
stop-requires-clause-by c =
    let p = c.args.parts.now in
    let m = c.step_due.new.parts in
    let conn = c.args.self.now.conn in
    let lines = c.args.script.now.lines in
    let known = lt-ltb conn.0 (length p.head.conns) c.requires.conn in
    let stepped = subst (λ s. HasStepped p.head p.history.items m.history.items conn (act_due p.head (world_of p) conn c.args.task) s) c.in-Stops.is c.step_due.ensures.stepped in
    let made = made-at c.args.script.now p.head p.history.items conn c.args.task c.requires.head c.requires.sound c.requires.stands.stands.ground known c.requires.open c.requires.may in
    let stops = stops-made p.head lines p.history.items conn c.args.task c.requires.stands.stands.ground c.requires.conduct c.requires.goes c.requires.ready known made c.in-Stops.cause stepped.1 in
    subst (λ (z : Head × List Entry). By z.0 (world z.0 z.1) (makers.Agent conn) (acts.Stopped c.in-Stops.cause)) (λ i. (sym c.step_due.ensures.head i, sym stepped.0 i)) stops.0

pub stop-requires-clause-may : goal.stop-requires-clause-may
stop-requires-clause-may c =
    let p = c.args.parts.now in
    let m = c.step_due.new.parts in
    let conn = c.args.self.now.conn in
    let lines = c.args.script.now.lines in
    let known = lt-ltb conn.0 (length p.head.conns) c.requires.conn in
    let stepped = subst (λ s. HasStepped p.head p.history.items m.history.items conn (act_due p.head (world_of p) conn c.args.task) s) c.in-Stops.is c.step_due.ensures.stepped in
    let made = made-at c.args.script.now p.head p.history.items conn c.args.task c.requires.head c.requires.sound c.requires.stands.stands.ground known c.requires.open c.requires.may in
    let stops = stops-made p.head lines p.history.items conn c.args.task c.requires.stands.stands.ground c.requires.conduct c.requires.goes c.requires.ready known made c.in-Stops.cause stepped.1 in
    subst (λ (z : Head × List Entry). MayIn (phase (world z.0 z.1) conn) z.0 lines (world z.0 z.1) conn (point z.0 lines z.1 conn) (acts.Stopped c.in-Stops.cause))
    (λ i. (sym c.step_due.ensures.head i, sym stepped.0 i)) stops.1

pub returns-in-Goes-clause-leaves : goal.returns-in-Goes-clause-leaves
returns-in-Goes-clause-leaves c =
    let p = c.args.parts.now in
    let m = c.step_due.new.parts in
    let conn = c.args.self.now.conn in
    let lines = c.args.script.now.lines in
    let sound = subst (λ h. list_all (is_sound_line h) lines ≡ true) (sym c.requires.head) c.requires.sound.lines in
    let good = subst IsSoundHead (sym c.requires.head) c.requires.sound.head in
    let at = point-sound p.head lines conn good sound p.history.items c.args.task c.requires.stands.stands.ground c.requires.conduct c.requires.ready in
    let stepped = subst (λ s. HasStepped p.head p.history.items m.history.items conn (act_due p.head (world_of p) conn c.args.task) s) c.in-Goes.is c.step_due.ensures.stepped in
    let ground = subst (λ h. Ground h m.history.items) c.step_due.ensures.head c.step_due.ensures.stands.stands.ground in
    subst (λ t. Leaves p.head lines m.history.items conn (Some t) c.in-Goes.kept) (sym (c.in-Goes.ensures.same refl))
    (stepped-leaves p.head lines p.history.items conn c.args.task c.requires.stands.stands.ground c.requires.conduct c.requires.goes c.requires.ready
    m.history.items ground c.requires.stands.stands.fits.conns c.requires.stands.stands.fits.rows at c.in-Goes.kept stepped)

pub returns-in-Over-clause-leaves : goal.returns-in-Over-clause-leaves
returns-in-Over-clause-leaves c =
    let p = c.args.parts.now in
    let m = c.step_due.new.parts in
    let conn = c.args.self.now.conn in
    let lines = c.args.script.now.lines in
    let stepped = subst (λ s. HasStepped p.head p.history.items m.history.items conn (act_due p.head (world_of p) conn c.args.task) s) c.in-Over.is c.step_due.ensures.stepped in
    let ground = subst (λ h. Ground h m.history.items) c.step_due.ensures.head c.step_due.ensures.stands.stands.ground in
    ended-leaves p.head lines p.history.items conn c.args.task c.requires.stands.stands.ground c.requires.conduct c.requires.goes c.requires.ready
    m.history.items ground stepped

pub returns-in-Goes-clause-untold : goal.returns-in-Goes-clause-untold
returns-in-Goes-clause-untold c =
    let p = c.args.parts.now in
    let conn = c.args.self.now.conn in
    let lines = c.args.script.now.lines in
    subst (λ t. IsUntold p.head (world_of p) conn (ready p.head lines (world_of p) conn (point p.head lines p.history.items conn)) (Some t) c.in-Goes.kept)
    (sym (c.in-Goes.ensures.same refl))
    (c.requires.ready, λ e. subst (λ s. keeps_pin s ≡ true) c.in-Goes.is (c.step_due.ensures.pinned e))
