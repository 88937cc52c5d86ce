use Rattle.std.proofs.Common.{◌<◌, ◌∙◌, arith, length, sym}
use Rattle.iso_state.specs.Stands.{world_of}
use Rattle.iso_ends.proofs.PurgeWalks.{least-found, least-none, none-next}
use Rattle.iso_ends.proofs.walking.least_in_parts.Goals as goal

pub loop-at-init : goal.loop-at-init
loop-at-init c = λ k lt. absurd (omega (arith, lt))

pub loop-at-preserved : goal.loop-at-preserved
loop-at-preserved c =
    let p = c.args.parts.now in
    none-next p.head (world_of p) c.loop-at.at c.loop-at.invariant (sym c.least_at.ensures ∙ c.in_default.is)

pub returns-in-Some : goal.returns-in-Some
returns-in-Some c =
    let p = c.args.parts.now in
    let lt : c.loop-at.at < length p.head.indexes = omega (arith, c.loop-at-test.true, c.len-at-end.ensures) in
    least-found p.head (world_of p) c.loop-at.at c.in-Some.pair lt c.loop-at.invariant (sym c.in-Some.ensures)

pub returns : goal.returns
returns c =
    let p = c.args.parts.now in
    least-none p.head (world_of p) (λ k lt. c.loop-at.invariant k (omega (arith, lt, c.loop-at-test.false, c.len-at-end.ensures)))
