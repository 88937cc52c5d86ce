use Rattle.std.proofs.Common.{◌≡◌, ◌∙◌, sym, subst, true, Option}
use Rattle.iso_conduct.specs.Pacing.{MayHalt, line_step}
use Rattle.iso_history.specs.After.{world}
use Rattle.iso_history.specs.Legal.{Ground}
use Rattle.iso_history.specs.Stops.{may_halt}
use Rattle.iso_history.specs.declared.entry.Act.{Act}
use Rattle.iso_history.specs.declared.entry.Cause.{Cause}
use Rattle.iso_types.specs.declared.head.Head.{Head}
use Rattle.iso_state.specs.Stands.{Content, content_of, world_of}
use Rattle.iso_director.proofs.Halts.{halt-stands, halts, taken-line}
use Rattle.iso_director.proofs.Lines.{due-line, line-takes}
use Rattle.iso_director.proofs.taking.take_line.Goals as goal

pub stopped-requires-clause-may : goal.stopped-requires-clause-may
stopped-requires-clause-may c =
    let p = c.args.parts.now in
    let l = c.args.line.now in
    let cause = c.cause_of.result in
    let may : MayHalt p.head (world_of p) (line_step p.head (world_of p) l) cause =
    subst (λ (x : Cause). MayHalt p.head (world_of p) (line_step p.head (world_of p) l) x) (sym c.cause_of.ensures)
    (halts p.head p.history.items c.try_line.new.parts.history.items (line_step p.head (world_of p) l) c.try_line.result c.in-Err.fault
    c.try_line.ensures.tried c.in-Err.is) in
    subst (λ (x : Content). may_halt x.head (world x.head x.history) cause ≡ true) (sym c.in-Err.ensures.err)
    (halt-stands (content_of p) l cause c.requires.stands.stands c.requires.open c.requires.going c.requires.line
    (subst (λ (o : Option Act). MayHalt p.head (world_of p) o cause) (due-line p.head (world_of p) l c.requires.may c.requires.going) may))

pub returns-then-is_taken-clause-taken : goal.returns-then-is_taken-clause-taken
returns-then-is_taken-clause-taken c =
    let p = c.args.parts.now in
    let q = c.try_line.new.parts in
    taken-line p.head p.history.items q.history.items (line_step p.head (world_of p) c.args.line.now) c.try_line.result c.in-Ok.paced
    c.try_line.ensures.tried c.in-Ok.is (sym c.is_taken.ensures ∙ c.if-is_taken.true)
    (subst (λ (h : Head). Ground h q.history.items) c.try_line.ensures.head c.try_line.ensures.stands.ground)
    (λ a e. line-takes p.head (world_of p) c.args.line.now a e)
