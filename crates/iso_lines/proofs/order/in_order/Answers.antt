use Rattle.std.proofs.Common.{rules, Bor}
use Rattle.std.proofs.lemmas.Fn.{always_returns_same}
use Rattle.iso_lines.proofs.TotalOrder.{name_weak}
use Rattle.iso_queue.specs.Snapshots.{name_lt}
use Rattle.iso_types.specs.declared.value.Name.{Name}
use Rattle.iso_lines.proofs.order.in_order.Goals as goal

pub returns-clause-order : goal.returns-clause-order
returns-clause-order c =
    c.in_ok-sort_by.ensures.sorted (λ (n m : Bor Name). name_lt c.args.head.now n.now m.now) (name_weak c.args.head.now) (always_returns_same _ _ _ (λ a r f k. search rules))
