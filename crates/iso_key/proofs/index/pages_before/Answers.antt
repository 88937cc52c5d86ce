use Rattle.std.proofs.Common.{sym, ◌∙◌, arith}
use Rattle.iso_key.proofs.Splits.{between-false, between-true}
use Rattle.iso_key.proofs.index.pages_before.Goals as goal

pub loop-low-preserved-then-starts_behind : goal.loop-low-preserved-then-starts_behind
loop-low-preserved-then-starts_behind c =
    between-true _ _ _ _ _ c.index-pages-middle.result c.requires c.loop-low.invariant (omega arith) (omega (arith, c.loop-low-test.true)) c.index-pages-middle.is (sym c.starts_behind.ensures ∙ c.if-starts_behind.true)

pub loop-low-preserved : goal.loop-low-preserved
loop-low-preserved c =
    between-false _ _ _ _ _ c.index-pages-middle.result c.requires c.loop-low.invariant (omega (arith, c.loop-low-test.true)) c.index-pages-middle.is (sym c.starts_behind.ensures ∙ c.if-starts_behind.false)
