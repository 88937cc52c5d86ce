use Rattle.std.proofs.Common.{sym, ◌∙◌}
use Rattle.iso_queue.proofs.Steps.{ahead_here, ahead_past}
use Rattle.iso_queue.proofs.lists.is_ahead.Goals as goal

pub returns-then-eq-2 : goal.returns-then-eq-2
returns-then-eq-2 c = sym (c.loop-wait.invariant ∙ ahead_here _ _ _ _ _ c.loop-wait-test.true (sym c.if-eq.ensures) (sym c.if-eq-2.ensures))

pub loop-wait-preserved : goal.loop-wait-preserved
loop-wait-preserved c = c.loop-wait.invariant ∙ ahead_past _ _ _ _ _ c.loop-wait-test.true (sym c.if-eq.ensures) (sym c.if-eq-2.ensures)
