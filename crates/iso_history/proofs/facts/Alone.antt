-- No connection has two waits.
use Rattle.std.proofs.Common.{◌≡◌, ◌≤◌, Bool, true, false, not, refl, ap, sym, ◌∙◌, arith, None, count_by}
use Rattle.iso_history.proofs.locks.Finds.{count-filter, none-counts}
use Rattle.iso_history.proofs.locks.Joins.{JoinStands, joins-stand}
use Rattle.iso_history.proofs.locks.Queues.{count-queued_here, count-queued_past}
use Rattle.iso_history.proofs.locks.Same.{conn_is}
use Rattle.iso_history.specs.After.{after}
use Rattle.iso_history.specs.Facts.{AreAlone, LocksSound}
use Rattle.iso_history.specs.Legal.{Allowed}
use Rattle.iso_history.specs.Waits.{Joining, joining_of, waits_by}
use Rattle.iso_history.specs.Waits.Joining.{Joins, Passes, Quits}
use Rattle.iso_history.specs.World.{World}
use Rattle.iso_history.specs.declared.entry.Entry.{Entry}
use Rattle.iso_queue.specs.Queues.{Wait, queued, wait_of}
use Rattle.iso_types.specs.Ids.{conn_eq}
use Rattle.iso_types.specs.declared.head.Head.{Head}

joining-alone : (head : Head) (w : World) (j : Joining) → JoinStands head w j → AreAlone w.waits → AreAlone (waits_by w j)
unfolding AreAlone
joining-alone head w Passes f s d = s d
joining-alone head w (Joins x) f s d = go (conn_eq x.conn d) refl
  where
    go : (b : Bool) → conn_eq x.conn d ≡ b → count_by (λ (y : Wait). conn_eq y.conn d) (queued w.holds x w.waits) ≤ 1
    go true e =
        let none : wait_of w.waits d ≡ None = ap (wait_of w.waits) (sym (conn_is x.conn d e)) ∙ f.alone in
        let more = count-queued_here w.holds x (λ (y : Wait). conn_eq y.conn d) e w.waits in
        let zero_before = none-counts (λ (y : Wait). conn_eq y.conn d) w.waits none in
        omega arith
    go false e = let same = count-queued_past w.holds x (λ (y : Wait). conn_eq y.conn d) e w.waits in let le = s d in omega arith
joining-alone head w (Quits c) f s d =
    let few = count-filter (λ (y : Wait). conn_eq y.conn d) (λ (y : Wait). not (conn_eq y.conn c)) w.waits in let le = s d in omega arith

pub alone-after : (head : Head) (w : World) (e : Entry) → Allowed head w e → LocksSound head w → AreAlone (after head w e).waits
alone-after head w e al s = joining-alone head w (joining_of w e.who e.act) (joins-stand head w e.who e.act al.2 s) s.alone
