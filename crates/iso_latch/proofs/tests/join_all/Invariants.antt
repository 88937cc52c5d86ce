use Rattle.std.proofs.Common.{◌≡◌, ◌+◌, length}
use Rattle.iso_latch.specs.Dealt.{Dealt}
use Rattle.iso_latch.specs.Sent.{Promised}
use Rattle.iso_latch.proofs.tests.join_all.Given as goal

abbrev pub invariant-loop-child : goal.invariant-loop-child
invariant-loop-child g l = record {
  count : length l.children.items + length l.passes.items ≡ length l.fn.children.items;
  left : Promised (λ d. d.0.value) l.fn.latch.table.shared.table_id (length l.fn.children.items) l.children.items;
  dealt : Dealt l.fn.latch.table.shared.table_id l.passes.items;
}

abbrev pub decreases-loop-child : goal.decreases-loop-child
decreases-loop-child g l = length l.children.items
