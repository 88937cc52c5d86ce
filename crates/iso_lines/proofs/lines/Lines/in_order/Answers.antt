use Rattle.std.proofs.Common.{Result, Ok, Err, IfOk, ◌∙◌, ap, sym}
use Rattle.std.specs.Map.{keys_of}
use Rattle.iso_lines.specs.Named.{Named, kept, line_of}
use Rattle.iso_queue.specs.Lines.{is_used}
use Rattle.iso_lines.proofs.Ordered.{in_order_is}
use Rattle.iso_lines.proofs.lines.Lines.in_order.Goals as goal

both_ok : {A E : Type 0} {P Q R : A → Type 0} (r : Result A E) → IfOk r P → IfOk r Q → ((a : A) → P a → Q a → R a) → IfOk r R
both_ok (Ok a) p q f = f a p q
both_ok (Err e) p q f = tt

pub returns : goal.returns
returns c = λ ns members.
    both_ok c.in_order.result c.in_order.ensures.names c.in_order.ensures.order (λ v moved up.
    in_order_is c.args.head.now (kept c.self.inside.index.entries c.self.inside.queues.slots) c.self.invariant c.in_ok-names.field-0.items v.items
    (c.in_ok-names.ensures ∙ ap (λ (l : Named). keys_of l.index) (sym c.self.view_is)) c.len.ensures.unique moved up ns
    (λ n. members n ∙ ap (λ (l : Named). is_used (line_of l n)) (sym c.self.view_is)))
