-- A lock that is awaited on a table is to be kept.
use Rattle.std.proofs.Common.{◌≡◌, true, ap, sym, ◌∙◌, Some, ◌⊎◌, inl, inr}
use Rattle.iso_history.proofs.locks.Joins.{JoinStands, joins-stand}
use Rattle.iso_history.proofs.locks.Queues.{wait-queued, wait-unqueued}
use Rattle.iso_history.specs.After.{after}
use Rattle.iso_history.specs.Facts.{LocksSound, TablesAwaited}
use Rattle.iso_history.specs.Legal.{Allowed}
use Rattle.iso_history.specs.Waits.{Joining, joining_of, waits_by}
use Rattle.iso_history.specs.Waits.Joining.{Joins, Passes, Quits}
use Rattle.iso_history.specs.World.{World}
use Rattle.iso_history.specs.declared.entry.Entry.{Entry}
use Rattle.iso_modes.specs.Terms.{is_kept}
use Rattle.iso_queue.specs.Queues.{Wait, wait_of}
use Rattle.iso_types.specs.declared.head.Head.{Head}

joining-kept : (head : Head) (w : World) (j : Joining) → JoinStands head w j → TablesAwaited w.waits → TablesAwaited (waits_by w j)
unfolding TablesAwaited
joining-kept head w Passes f s d t y e k = s d t y e k
joining-kept head w (Joins x) f s d t y e k = go (wait-queued w.holds x w.waits d y f.alone e)
  where
    go : (wait_of w.waits d ≡ Some y) ⊎ (y ≡ x) → is_kept y.term ≡ true
    go (inl old) = s d t y old k
    go (inr new) = ap (λ (z : Wait). is_kept z.term) new ∙ f.kept t (ap (λ (z : Wait). z.name) (sym new) ∙ k)
joining-kept head w (Quits c) f s d t y e k = s d t y (wait-unqueued c d w.waits y e).0 k

pub tables_awaited-after : (head : Head) (w : World) (e : Entry) → Allowed head w e → LocksSound head w → TablesAwaited (after head w e).waits
tables_awaited-after head w e al s = joining-kept head w (joining_of w e.who e.act) (joins-stand head w e.who e.act al.2 s) s.tables_awaited
