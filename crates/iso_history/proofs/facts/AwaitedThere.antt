-- Each name that is awaited is there.
use Rattle.std.proofs.Common.{◌≡◌, true, false, refl, ap, ◌∙◌, Some, None, Option, ◌⊎◌, inl, inr}
use Rattle.std.specs.List.{list_any}
use Rattle.std.specs.Option.{option_map_or}
use Rattle.iso_history.proofs.locks.Joins.{JoinStands, joins-stand}
use Rattle.iso_history.proofs.locks.Lists.{any-found}
use Rattle.iso_history.proofs.locks.Queues.{wait-queued, wait-unqueued}
use Rattle.iso_history.proofs.locks.Same.{name_same}
use Rattle.iso_history.proofs.locks.Tests.{or-second}
use Rattle.iso_history.proofs.locks.There.{agent-spares, dispatcher-spares, there-stays}
use Rattle.iso_history.specs.After.{after}
use Rattle.iso_history.specs.Entries.{is_in_use}
use Rattle.iso_history.specs.Facts.{LocksSound, WaitsThere}
use Rattle.iso_history.specs.Legal.{Allowed, By}
use Rattle.iso_history.specs.Phases.{victim}
use Rattle.iso_history.specs.Requests.{is_there}
use Rattle.iso_history.specs.Waits.{Joining, joining_of, joining_of_dispatcher, waits_by}
use Rattle.iso_history.specs.Waits.Joining.{Joins, Passes, Quits}
use Rattle.iso_history.specs.World.{World}
use Rattle.iso_history.specs.declared.entry.Act.{Act}
use Rattle.iso_history.specs.declared.entry.Act.TheVariants.{Expire, Victim}
use Rattle.iso_history.specs.declared.entry.Entry.{Entry}
use Rattle.iso_history.specs.declared.entry.Who.{Who}
use Rattle.iso_history.specs.declared.entry.Who.TheVariants.{Agent, Dispatcher}
use Rattle.iso_queue.specs.Queues.{Wait, wait_of}
use Rattle.iso_types.specs.Ids.{conn_eq, name_eq}
use Rattle.iso_types.specs.declared.head.Head.{Head}
use Rattle.iso_types.specs.declared.value.Conn.{Conn}

-- what is awaited is in use
awaited-used : (w : World) (d : Conn) (x : Wait) → wait_of w.waits d ≡ Some x → is_in_use w x.name ≡ true
awaited-used w d x e =
    let used : list_any (λ y. name_eq y.name x.name) w.waits ≡ true =
    any-found (λ (y : Wait). conn_eq y.conn d) (λ (y : Wait). name_eq y.name x.name) w.waits x e (name_same x.name) in
    rw used (or-second (list_any (λ h. name_eq h.name x.name) w.holds) true refl)

-- what is awaited afterwards was there before
joining-there : (head : Head) (w : World) (j : Joining) → JoinStands head w j → WaitsThere head w → (d : Conn) (y : Wait) → wait_of (waits_by w j) d ≡ Some y
    → is_there head w y.name ≡ true
unfolding WaitsThere
joining-there head w Passes f s d y e = s d y e
joining-there head w (Joins x) f s d y e = go (wait-queued w.holds x w.waits d y f.alone e)
  where
    go : (wait_of w.waits d ≡ Some y) ⊎ (y ≡ x) → is_there head w y.name ≡ true
    go (inl old) = s d y old
    go (inr new) = ap (λ (z : Wait). is_there head w z.name) new ∙ f.there
joining-there head w (Quits c) f s d y e = s d y (wait-unqueued c d w.waits y e).0

-- the dispatcher adds no wait
pub dispatcher-waits : (w : World) (a : Act) (d : Conn) (y : Wait) → wait_of (waits_by w (joining_of_dispatcher w a)) d ≡ Some y → wait_of w.waits d ≡ Some y
dispatcher-waits w (Victim cycle) d y e = go (victim w cycle) e
  where
    go : (x : Option Conn) → wait_of (waits_by w (option_map_or Quits x Passes)) d ≡ Some y → wait_of w.waits d ≡ Some y
    go None f = f
    go (Some c) f = (wait-unqueued c d w.waits y f).0
dispatcher-waits w (Expire line c true) d y e = (wait-unqueued c d w.waits y e).0
dispatcher-waits w (Expire line c false) d y e = e
dispatcher-waits w _ d y e = e

awaited_there-by : (head : Head) (w : World) (who : Who) (a : Act) → By head w who a → LocksSound head w
    → WaitsThere head (after head w (record { who = who; act = a }))
unfolding WaitsThere
awaited_there-by head w Dispatcher a al s d y e =
    there-stays head w (record { who = Dispatcher; act = a }) s.parts y.name
    (dispatcher-spares head w a al y.name (awaited-used w d y (dispatcher-waits w a d y e)))
    (s.awaited_there d y (dispatcher-waits w a d y e))
awaited_there-by head w (Agent c) a al s d y e =
    there-stays head w (record { who = Agent c; act = a }) s.parts y.name (agent-spares head w c a al.1 y.name)
    (joining-there head w (joining_of w (Agent c) a) (joins-stand head w (Agent c) a al s) s.awaited_there d y e)

pub awaited_there-after : (head : Head) (w : World) (e : Entry) → Allowed head w e → LocksSound head w → WaitsThere head (after head w e)
awaited_there-after head w e al s = awaited_there-by head w e.who e.act al.2 s
