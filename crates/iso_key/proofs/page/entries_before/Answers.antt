use Rattle.std.proofs.Common.{sym, ◌∙◌, arith}
use Rattle.iso_key.proofs.Splits.{between-false, between-true}
use Rattle.iso_key.proofs.page.entries_before.Goals as goal

pub loop-low-preserved-then-passes : goal.loop-low-preserved-then-passes
loop-low-preserved-then-passes c =
    between-true _ _ _ _ _ c.index-page-middle.result c.requires c.loop-low.invariant (omega arith) (omega (arith, c.loop-low-test.true)) c.index-page-middle.is (sym c.passes.ensures ∙ c.if-passes.true)

pub loop-low-preserved : goal.loop-low-preserved
loop-low-preserved c =
    between-false _ _ _ _ _ c.index-page-middle.result c.requires c.loop-low.invariant (omega (arith, c.loop-low-test.true)) c.index-page-middle.is (sym c.passes.ensures ∙ c.if-passes.false)
