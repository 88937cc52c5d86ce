use Rattle.std.proofs.Common.{◌∙◌, ap, arith, length, sym, List}
use Rattle.iso_history.specs.Writes.{judged_rivals}
use Rattle.iso_key.specs.Pages.{entries}
use Rattle.iso_state.specs.Stands.{world_of}
use Rattle.iso_types.specs.declared.value.Rid.{Rid}
use Rattle.iso_types.specs.declared.value.Value.{Value}
use Rattle.iso_writes.proofs.Firsts.{ended, kept-on, passed-on}
use Rattle.iso_writes.proofs.Walks.{walk-end, walk-start, walk-step}
use Rattle.iso_writes.proofs.rivals.judge_entries.Goals as goal

pub loop-rid-init : goal.loop-rid-init
loop-rid-init c =
    ap (judged_rivals c.args.parts.now.head (world_of c.args.parts.now) c.args.conn c.args.table c.args.index)
    (walk-start c.args.key.now c.args.own (entries c.args.list.now))

pub returns-then-not-is_done : goal.returns-then-not-is_done
returns-then-not-is_done c =
    passed-on c.args.parts.now.head (world_of c.args.parts.now) c.args.conn c.args.table c.args.index c.args.own (c.args.key.now, c.in-Some.rid) _ _
    (walk-step c.args.key.now c.loop-rid.after (entries c.args.list.now) c.in-Some.rid c.requires.ordered (sym c.next_rid.ensures ∙ c.in-Some.is))
    _ c.judge_rival-coming.ensures _ c.is_done.ensures c.if-not-is_done.true ∙ c.loop-rid.invariant

pub loop-rid-smaller : goal.loop-rid-smaller
loop-rid-smaller c =
    let e = ap (λ (l : List (Value × Rid)). length l)
    (walk-step c.args.key.now c.loop-rid.after (entries c.args.list.now) c.in-Some.rid c.requires.ordered (sym c.next_rid.ensures ∙ c.in-Some.is)) in
    omega (arith, e)

pub loop-rid-preserved : goal.loop-rid-preserved
loop-rid-preserved c =
    kept-on c.args.parts.now.head (world_of c.args.parts.now) c.args.conn c.args.table c.args.index c.args.own (c.args.key.now, c.in-Some.rid) _ _
    (walk-step c.args.key.now c.loop-rid.after (entries c.args.list.now) c.in-Some.rid c.requires.ordered (sym c.next_rid.ensures ∙ c.in-Some.is))
    _ c.judge_rival-coming.ensures _ c.is_done.ensures c.if-not-is_done.false ∙ c.loop-rid.invariant

pub returns : goal.returns
returns c =
    ended c.args.parts.now.head (world_of c.args.parts.now) c.args.conn c.args.table c.args.index c.args.own _
    (walk-end c.args.key.now c.loop-rid.after (entries c.args.list.now) (sym c.next_rid.ensures ∙ c.in_default.is)) ∙ c.loop-rid.invariant
