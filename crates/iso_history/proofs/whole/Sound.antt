-- The facts of locks, units, versions, keys and the log hold in every legal history.
use Rattle.std.proofs.Common.{ℕ, List, take}
use Rattle.iso_history.proofs.Snoc.{along}
use Rattle.iso_history.proofs.facts.Guarded.{Ground-take}
use Rattle.iso_history.proofs.facts.Sound.{locks-after, start-locks}
use Rattle.iso_history.proofs.limits.Begun.{notes-after, notes-start}
use Rattle.iso_history.proofs.limits.Courses.{on_course-after, on_course-start}
use Rattle.iso_history.proofs.log.Linked.{linked-after, owned-after}
use Rattle.iso_history.proofs.pending.Dues.{awaited_dues-after, dues-after}
use Rattle.iso_history.proofs.pending.MakersAfter.{makers-after}
use Rattle.iso_history.proofs.pending.Pends.{noted-after, pending-after, wide-after}
use Rattle.iso_history.proofs.pending.Piles.{piled-after}
use Rattle.iso_history.proofs.pending.Starts.{start-awaited_dues, start-awaited_writes, start-dues, start-makers, start-noted, start-opened, start-pending, start-piled, start-units, start-wide, start-writes}
use Rattle.iso_history.proofs.pending.Units.{opened-after, units-after}
use Rattle.iso_history.proofs.pending.WritesAwaits.{awaited_writes-after}
use Rattle.iso_history.proofs.pending.WritesPlaced.{writes-after}
use Rattle.iso_history.proofs.phantoms.EntriesAfter.{ordered-after}
use Rattle.iso_history.proofs.phantoms.GapStarts.{keys-start, logged-start, ordered-start, piled-start}
use Rattle.iso_history.proofs.phantoms.KeysStay.{keys-after, piled-after as layered-after}
use Rattle.iso_history.proofs.phantoms.Logged.{logged-after}
use Rattle.iso_history.specs.After.{after, start, world}
use Rattle.iso_history.specs.Facts.{IsSound}
use Rattle.iso_history.specs.Guards.{world_at}
use Rattle.iso_history.specs.Legal.{Allowed, Ground}
use Rattle.iso_history.specs.Linked.{AllLinked, AllOwned}
use Rattle.iso_history.specs.World.{World}
use Rattle.iso_history.specs.declared.entry.Entry.{Entry}
use Rattle.iso_types.specs.declared.head.Head.{Head}

-- each allowed entry keeps them
pub sound-after : (head : Head) (w : World) (e : Entry) → Allowed head w e → IsSound head w → IsSound head (after head w e)
sound-after head w e al s = record {
  locks = locks-after head w e al s.locks;
  units = units-after head w e s.units;
  makers = makers-after head w s e al;
  keys = keys-after head w e al s.layered s.keys;
  opened = opened-after head w e s.opened;
  wide = wide-after head w e s.wide;
  writes = writes-after head w e al s.writes s.awaited_writes;
  awaited_writes = awaited_writes-after head w e al s.single s.writes s.awaited_writes;
  whole_dues = dues-after head w s.tables e al s.whole_dues s.awaited_whole;
  awaited_whole = awaited_dues-after head w s.tables e al s.awaited_whole;
  piled = piled-after head w e s.piled;
  pending = pending-after head w s e al;
  noted = noted-after head w e s.units s.noted;
  course = on_course-after head w e al s.course;
  begun_records = notes-after head w e al s.units s.course s.begun_records;
  ordered = ordered-after head w e s.ordered;
  layered = layered-after head w e s.layered;
  logged = logged-after head w e s.logged;
  linked = linked-after head w e al s.linked;
  owned = owned-after head w e s.owned;
}

start-linked : (head : Head) → AllLinked (start head).records
unfolding AllLinked
start-linked head u = tt

start-owned : (head : Head) → AllOwned (start head).records
unfolding AllOwned
start-owned head u = tt

-- the start has them
pub start-sound : (head : Head) → IsSound head (start head)
start-sound head = record {
  locks = start-locks head;
  units = start-units head;
  makers = start-makers head;
  keys = keys-start head;
  opened = start-opened head;
  wide = start-wide head;
  writes = start-writes head;
  awaited_writes = start-awaited_writes head;
  whole_dues = start-dues head;
  awaited_whole = start-awaited_dues head;
  piled = start-piled head;
  pending = start-pending head;
  noted = start-noted head;
  course = on_course-start head;
  begun_records = notes-start head;
  ordered = ordered-start head;
  layered = piled-start head;
  logged = logged-start head;
  linked = start-linked head;
  owned = start-owned head;
}

-- so the world of every legal history
pub sound-world : (head : Head) (es : List Entry) → Ground head es → IsSound head (world head es)
sound-world head es g = along head (IsSound head) (sound-after head) es (start-sound head) g

-- and that of each of its prefixes
pub sound-at : (head : Head) (es : List Entry) → Ground head es → (k : ℕ) → IsSound head (world_at head es k)
sound-at head es g k = sound-world head (take k es) (Ground-take head es k g)
