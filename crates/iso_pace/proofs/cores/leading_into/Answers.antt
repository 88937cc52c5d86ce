use Rattle.std.proofs.Common.{arith, ◌<◌, length}
use Rattle.std.proofs.lemmas.Bool.{both_ways}
use Rattle.iso_waitgraph.proofs.Sets.{gathered-hit, gathered-miss, place-within}
use Rattle.iso_pace.proofs.cores.leading_into.Goals as goal
use Rattle.iso_pace.proofs.cores.leading_into.Goals.{then-meets, else-meets}

pub loop-place-preserved : goal.loop-place-preserved
loop-place-preserved c =
    let edges = c.args.edges.now in
    elim c.if-meets.branch [
      | then-meets w ↦ rw w.found-is (gathered-hit edges c.args.set c.loop-place.place _ _ c.loop-place.invariant (c.meets.ensures.0 w.if-meets.true) w.with-found.ensures)
      | else-meets w ↦ rw w.found-is (gathered-miss edges c.args.set c.loop-place.place _ c.loop-place.invariant (λ hit. both_ways c.meets.result w.if-meets.false (c.meets.ensures.1 hit)))
    ]

pub returns : goal.returns
returns c = λ v. (λ t. ((c.loop-place.invariant v).0 t).1, λ w. (c.loop-place.invariant v).1 (let l : v.0 < length c.args.edges.now = place-within c.args.edges.now v w.0 w.1 in omega arith, w))
