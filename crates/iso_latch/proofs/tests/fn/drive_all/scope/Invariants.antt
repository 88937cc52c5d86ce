use Rattle.std.proofs.Common.{◌≡◌, ◌+◌, length}
use Rattle.iso_latch.specs.Dealt.{Dealt}
use Rattle.iso_latch.specs.Sent.{Promised}
use Rattle.iso_latch.proofs.tests.fn.drive_all.scope.Given as goal

abbrev pub invariant-loop-one : goal.invariant-loop-one
invariant-loop-one g l = record {
  count : length l.passes.items + length l.children.items ≡ length l.initial.passes.items;
  dealt : Dealt l.latch.table.shared.table_id l.passes.items;
  left : Promised (λ d. d.0.value) l.latch.table.shared.table_id (length l.initial.passes.items) l.children.items;
}

abbrev pub decreases-loop-one : goal.decreases-loop-one
decreases-loop-one g l = length l.passes.items
