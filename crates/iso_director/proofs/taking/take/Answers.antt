use Rattle.std.proofs.Common.{◌≡◌, ◌∙◌, ap, sym, subst, true, false, Option}
use Rattle.iso_conduct.specs.Pacing.{MayHalt, line_step}
use Rattle.iso_director.proofs.Halts.{halt-stands, none-purged, purge-halts, purged-pair}
use Rattle.iso_director.proofs.Leads.{moved}
use Rattle.iso_director.proofs.Lines.{due-line, may-none, may-purged}
use Rattle.iso_director.specs.Turns.{HasLineTaken, due_step}
use Rattle.iso_history.specs.After.{world}
use Rattle.iso_history.specs.Legal.{Ground}
use Rattle.iso_history.specs.Stops.{may_halt}
use Rattle.iso_history.specs.World.{Pace}
use Rattle.iso_history.specs.declared.entry.Act.{Act}
use Rattle.iso_history.specs.declared.entry.Cause.{Cause}
use Rattle.iso_pace.specs.Answers.{MayTakeLine}
use Rattle.iso_state.specs.Stands.{Content, content_of, world_of}
use Rattle.iso_types.specs.declared.head.Head.{Head}
use Rattle.iso_director.proofs.taking.take.Goals as goal

pub take_line-requires-clause-may : goal.take_line-requires-clause-may
take_line-requires-clause-may c =
    may-purged c.args.parts.now.head (world_of c.args.parts.now) (ap (λ (q : Pace). q.purged) (sym c.requires.stands.parts.pace) ∙ c.if-parts.true)

pub returns-then-parts-clause-taken : goal.returns-then-parts-clause-taken
returns-then-parts-clause-taken c =
    let p = c.args.parts.now in
    let l = c.args.line.now in
    subst (λ (o : Option Act). HasLineTaken p.head (world_of p) o p.history.items c.take_line.new.parts.history.items c.take_line.result)
    (due-line p.head (world_of p) l
    (may-purged p.head (world_of p) (ap (λ (q : Pace). q.purged) (sym c.requires.stands.parts.pace) ∙ c.if-parts.true)) c.requires.going)
    c.take_line.ensures.taken

pub purge_among-requires-clause-calm : goal.purge_among-requires-clause-calm
purge_among-requires-clause-calm c = ap (λ (q : Pace). q.purged) (sym c.requires.stands.parts.pace) ∙ c.if-parts.false

pub returns-in-Ok-true-clause-taken : goal.returns-in-Ok-true-clause-taken
returns-in-Ok-true-clause-taken c =
    let p = c.args.parts.now in
    let q = c.purge_among.new.parts in
    let calm = ap (λ (q : Pace). q.purged) (sym c.requires.stands.parts.pace) ∙ c.if-parts.false in
    purged-pair p.head p.history.items q.history.items c.args.line.now calm (sym c.in-Ok-true.ensures.answer ∙ c.in-Ok-true.field-0-test) c.in-Ok-true.ensures.ok
    (subst (λ (h : Head). Ground h q.history.items) c.purge_among.ensures.head c.purge_among.ensures.stands.ground)

pub take_line-requires-in-Ok-false-clause-open : goal.take_line-requires-in-Ok-false-clause-open
take_line-requires-in-Ok-false-clause-open c =
    let p = c.args.parts.now in
    let q = c.purge_among.new.parts in
    let none = sym c.in-Ok-false.ensures.answer ∙ c.in-Ok-false.field-0-test in
    let same = none-purged p.head (world_of p) p.history.items q.history.items none c.in-Ok-false.ensures.ok in
    moved (λ h es. (world h es).pace.finished ≡ false) p.head q.head p.history.items q.history.items c.purge_among.ensures.head same c.requires.open

pub take_line-requires-in-Ok-false-clause-going : goal.take_line-requires-in-Ok-false-clause-going
take_line-requires-in-Ok-false-clause-going c =
    let p = c.args.parts.now in
    let q = c.purge_among.new.parts in
    let none = sym c.in-Ok-false.ensures.answer ∙ c.in-Ok-false.field-0-test in
    let same = none-purged p.head (world_of p) p.history.items q.history.items none c.in-Ok-false.ensures.ok in
    moved (λ h es. (world h es).pace.stopped ≡ false) p.head q.head p.history.items q.history.items c.purge_among.ensures.head same c.requires.going

pub take_line-requires-in-Ok-false-clause-may : goal.take_line-requires-in-Ok-false-clause-may
take_line-requires-in-Ok-false-clause-may c =
    let p = c.args.parts.now in
    let q = c.purge_among.new.parts in
    let none = sym c.in-Ok-false.ensures.answer ∙ c.in-Ok-false.field-0-test in
    let same = none-purged p.head (world_of p) p.history.items q.history.items none c.in-Ok-false.ensures.ok in
    moved (λ h es. MayTakeLine h (world h es)) p.head q.head p.history.items q.history.items c.purge_among.ensures.head same (may-none p.head (world_of p) none)

pub returns-in-Ok-false-clause-taken : goal.returns-in-Ok-false-clause-taken
returns-in-Ok-false-clause-taken c =
    let p = c.args.parts.now in
    let q = c.purge_among.new.parts in
    let none = sym c.in-Ok-false.ensures.answer ∙ c.in-Ok-false.field-0-test in
    let same = none-purged p.head (world_of p) p.history.items q.history.items none c.in-Ok-false.ensures.ok in
    let l = c.args.line.now in
    let new = c.take_line-in-Ok-false.new.parts.history.items in
    let r = c.take_line-in-Ok-false.result in
    let made : HasLineTaken p.head (world_of p) (line_step p.head (world_of p) l) p.history.items new r =
    moved (λ h es. HasLineTaken h (world h es) (line_step h (world h es) l) es new r) q.head p.head q.history.items p.history.items
    (sym c.purge_among.ensures.head) (sym same) c.take_line-in-Ok-false.ensures.taken in
    subst (λ (o : Option Act). HasLineTaken p.head (world_of p) o p.history.items new r)
    (due-line p.head (world_of p) l (may-none p.head (world_of p) none) c.requires.going) made

pub stopped-requires-clause-may : goal.stopped-requires-clause-may
stopped-requires-clause-may c =
    let p = c.args.parts.now in
    let l = c.args.line.now in
    let cause = c.cause_of.result in
    let calm = ap (λ (q : Pace). q.purged) (sym c.requires.stands.parts.pace) ∙ c.if-parts.false in
    let may : MayHalt p.head (world_of p) (due_step p.head (world_of p) l) cause =
    subst (λ (x : Cause). MayHalt p.head (world_of p) (due_step p.head (world_of p) l) x) (sym c.cause_of.ensures)
    (purge-halts p.head p.history.items c.purge_among.new.parts.history.items l calm c.in-Err.fault c.in-Err.ensures.due c.in-Err.ensures.full) in
    subst (λ (x : Content). may_halt x.head (world x.head x.history) cause ≡ true) (sym c.in-Err.ensures.err)
    (halt-stands (content_of p) l cause c.requires.stands.stands c.requires.open c.requires.going c.requires.line may)
