-- What the steps of locks ask of the world holds in every legal history.
use Rattle.std.proofs.Common.{List}
use Rattle.iso_history.proofs.Snoc.{along}
use Rattle.iso_history.proofs.facts.Keeping.{keep-after, start-keep}
use Rattle.iso_history.proofs.facts.OfHead.{of_head-after, start-of_head}
use Rattle.iso_history.proofs.facts.Uncovered.{start-uncovered, uncovered-after}
use Rattle.iso_history.proofs.limits.Courses.{shut_of-some}
use Rattle.iso_history.proofs.whole.Sound.{sound-after, start-sound}
use Rattle.iso_history.specs.After.{after, start, world}
use Rattle.iso_history.specs.Facts.{IsSound, LockFacts, OfHead, WaitersBusy, WaitersKeep, WaitsUncovered}
use Rattle.iso_history.specs.Legal.{Allowed, Ground}
use Rattle.iso_history.specs.World.{World}
use Rattle.iso_history.specs.declared.entry.Entry.{Entry}
use Rattle.iso_types.specs.declared.head.Head.{Head}

-- what they ask besides the facts of a sound world
pub record Asked (head : Head) (w : World) : Type 0 where
  pub sound : IsSound head w
  pub of_head : OfHead head w
  pub uncovered : WaitsUncovered head w
  pub keep : WaitersKeep w

asked-after : (head : Head) (w : World) (e : Entry) → Allowed head w e → Asked head w → Asked head (after head w e)
asked-after head w e al s = record {
  sound = sound-after head w e al s.sound;
  of_head = of_head-after head w e al s.of_head;
  uncovered = uncovered-after head w e al s.sound.locks s.uncovered;
  keep = keep-after head w e al s.sound.locks s.keep;
}

asked-start : (head : Head) → Asked head (start head)
asked-start head = record { sound = start-sound head; of_head = start-of_head head; uncovered = start-uncovered head; keep = start-keep head }

-- the statement of who waits is open
busy-of : (head : Head) (w : World) → IsSound head w → WaitersBusy w
unfolding WaitersBusy
busy-of head w s c e = shut_of-some (w.line c) ((s.course.each c).waits e).1

pub lock_facts : (head : Head) (es : List Entry) → Ground head es → LockFacts head (world head es)
lock_facts head es g = let a = along head (Asked head) (asked-after head) es (asked-start head) g in record {
  single = a.sound.single;
  alone = a.sound.alone;
  of_head = a.of_head;
  uncovered = a.uncovered;
  plain = a.keep;
  busy = busy-of head (world head es) a.sound;
}
