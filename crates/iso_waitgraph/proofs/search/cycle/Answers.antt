use Rattle.std.proofs.Common.{arith, ◌∙◌, sym}
use Rattle.iso_types.specs.Edges.{leads}
use Rattle.iso_waitgraph.proofs.Agree.{chosen, chosen-same}
use Rattle.iso_waitgraph.proofs.Chosen.{next-start, none-left, none-of, some-of}
use Rattle.iso_waitgraph.proofs.search.cycle.Goals as goal

pub loop-start-preserved : goal.loop-start-preserved
loop-start-preserved c =
    next-start c.args.edges.now c.loop-start.start c.loop-start.invariant
    (none-of c.through-found.result _ _ c.through-found.ensures (sym c.is_some.ensures ∙ c.if-is_some.false))

pub returns-then-is_some-clause-judged : goal.returns-then-is_some-clause-judged
returns-then-is_some-clause-judged c = λ targets all h.
    let edge = leads c.args.edges.now in
    chosen-same edge _ _
    (some-of c.args.edges.now c.loop-start.start c.through-found.result c.through-found.ensures (sym c.is_some.ensures ∙ c.if-is_some.true) c.loop-start.invariant)
    (chosen edge targets all h)

pub returns-clause-chosen : goal.returns-clause-chosen
returns-clause-chosen c = none-left c.args.edges.now c.loop-start.start (omega arith) c.loop-start.invariant

pub returns-clause-judged : goal.returns-clause-judged
returns-clause-judged c = λ targets all h.
    let edge = leads c.args.edges.now in
    chosen-same edge _ _ (none-left c.args.edges.now c.loop-start.start (omega arith) c.loop-start.invariant) (chosen edge targets all h)
