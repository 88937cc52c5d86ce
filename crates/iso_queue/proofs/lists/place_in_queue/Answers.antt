use Rattle.std.proofs.Common.{refl, sym}
use Rattle.iso_queue.proofs.Steps.{queued_end, queued_here, queued_new, queued_past}
use Rattle.iso_queue.proofs.lists.place_in_queue.Goals as goal

pub returns-then-not-holds-clause-place : goal.returns-then-not-holds-clause-place
returns-then-not-holds-clause-place c = queued_new _ _ _ (sym c.if-not-holds.ensures)

pub loop-at-init : goal.loop-at-init
loop-at-init c = record { holds = sym c.if-not-holds.ensures; left = refl }

pub returns-then-not-holds-2-clause-place : goal.returns-then-not-holds-2-clause-place
returns-then-not-holds-2-clause-place c =
    queued_here _ _ _ _ _ c.loop-at-test.true c.loop-at.invariant.holds (sym c.if-not-holds-2.ensures) c.loop-at.invariant.left

pub loop-at-preserved : goal.loop-at-preserved
loop-at-preserved c = record {
  holds = c.loop-at.invariant.holds;
  left = queued_past _ _ _ _ _ c.loop-at-test.true (sym c.if-not-holds-2.ensures) c.loop-at.invariant.left;
}

pub returns-clause-place : goal.returns-clause-place
returns-clause-place c = queued_end _ _ _ _ c.loop-at-test.false c.loop-at.invariant.left
