-- Each name is awaited in a mode that suits it.
use Rattle.std.proofs.Common.{◌≡◌, true, ap, ◌∙◌, Some, ◌⊎◌, inl, inr}
use Rattle.iso_history.proofs.locks.Joins.{JoinStands, joins-stand}
use Rattle.iso_history.proofs.locks.Queues.{wait-queued, wait-unqueued}
use Rattle.iso_history.specs.After.{after}
use Rattle.iso_history.specs.Facts.{suits_held, LocksSound, TargetsSuit}
use Rattle.iso_history.specs.Legal.{Allowed}
use Rattle.iso_history.specs.Waits.{Joining, joining_of, waits_by}
use Rattle.iso_history.specs.Waits.Joining.{Joins, Passes, Quits}
use Rattle.iso_history.specs.World.{World}
use Rattle.iso_history.specs.declared.entry.Entry.{Entry}
use Rattle.iso_queue.specs.Queues.{Wait, wait_of}
use Rattle.iso_types.specs.declared.head.Head.{Head}

joining-suits : (head : Head) (w : World) (j : Joining) → JoinStands head w j → TargetsSuit w.waits → TargetsSuit (waits_by w j)
unfolding TargetsSuit
joining-suits head w Passes f s d y e = s d y e
joining-suits head w (Joins x) f s d y e = go (wait-queued w.holds x w.waits d y f.alone e)
  where
    go : (wait_of w.waits d ≡ Some y) ⊎ (y ≡ x) → suits_held y.name y.target ≡ true
    go (inl old) = s d y old
    go (inr new) = ap (λ (z : Wait). suits_held z.name z.target) new ∙ f.suits
joining-suits head w (Quits c) f s d y e = s d y (wait-unqueued c d w.waits y e).0

pub suits_awaited-after : (head : Head) (w : World) (e : Entry) → Allowed head w e → LocksSound head w → TargetsSuit (after head w e).waits
suits_awaited-after head w e al s = joining-suits head w (joining_of w e.who e.act) (joins-stand head w e.who e.act al.2 s) s.suits_awaited
