use Rattle.std.proofs.Common.{◌≡◌, drop}
use Rattle.std.specs.List.{list_any}
use Rattle.iso_types.specs.Ids.{conn_eq}
use Rattle.iso_queue.specs.Lines.{before}
use Rattle.iso_queue.proofs.lists.is_ahead.Given as goal

abbrev pub invariant-loop-wait : goal.invariant-loop-wait
invariant-loop-wait l =
    list_any (λ w. conn_eq w.conn l.other) (before l.waiters l.conn) ≡ list_any (λ w. conn_eq w.conn l.other) (before (drop l.wait-index l.waiters) l.conn)
