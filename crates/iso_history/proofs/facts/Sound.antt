-- The lock facts hold in every legal history.
use Rattle.std.proofs.Common.{List, [], arith}
use Rattle.iso_history.proofs.Snoc.{along}
use Rattle.iso_history.proofs.facts.Alone.{alone-after}
use Rattle.iso_history.proofs.facts.Awaited.{awaited-after}
use Rattle.iso_history.proofs.facts.AwaitedThere.{awaited_there-after}
use Rattle.iso_history.proofs.facts.Backed.{backed-after}
use Rattle.iso_history.proofs.facts.Due.{awaited_dues-after, dues-after}
use Rattle.iso_history.proofs.facts.Parts.{parts-after, start-parts}
use Rattle.iso_history.proofs.facts.Single.{single-after}
use Rattle.iso_history.proofs.facts.Suits.{suits-after}
use Rattle.iso_history.proofs.facts.TargetsSuit.{suits_awaited-after}
use Rattle.iso_history.proofs.facts.Tables.{tables-after}
use Rattle.iso_history.proofs.facts.TablesAwaited.{tables_awaited-after}
use Rattle.iso_history.proofs.facts.There.{there-after}
use Rattle.iso_history.proofs.facts.Together.{together-after}
use Rattle.iso_history.proofs.facts.Waiters.{open_waits-after}
use Rattle.iso_history.specs.After.{after, start, world}
use Rattle.iso_history.specs.Facts.{AreAlone, AreSingle, AwaitedCovers, DuesCover, GoTogether, HoldsBacked, HoldsThere, LocksSound, ModesSuit, TablesAwaited, TablesKept, TargetsSuit, WaitersOpen, WaitsBacked, WaitsThere}
use Rattle.iso_history.specs.Legal.{Allowed, Ground}
use Rattle.iso_history.specs.World.{World}
use Rattle.iso_history.specs.declared.entry.Entry.{Entry}
use Rattle.iso_queue.specs.Locks.{Hold}
use Rattle.iso_types.specs.declared.head.Head.{Head}

pub locks-after : (head : Head) (w : World) (e : Entry) → Allowed head w e → LocksSound head w → LocksSound head (after head w e)
locks-after head w e al s = record {
  single = single-after head w e al s;
  alone = alone-after head w e al s;
  together = together-after head w e al s;
  backed = backed-after head w e al s;
  awaited = awaited-after head w e al s;
  there = there-after head w e al s;
  awaited_there = awaited_there-after head w e al s;
  tables = tables-after head w e al s;
  tables_awaited = tables_awaited-after head w e al s;
  parts = parts-after head w e al s;
  open_waits = open_waits-after head w e al s;
  suits = suits-after head w e al s;
  suits_awaited = suits_awaited-after head w e al s;
  dues = dues-after head w e al s;
  awaited_dues = awaited_dues-after head w e al s;
}

single-none : AreSingle []
unfolding AreSingle
single-none c n = omega arith

alone-none : AreAlone []
unfolding AreAlone
alone-none c = omega arith

together-none : GoTogether []
unfolding GoTogether
together-none c d n h g ne p q = cc

backed-none : (head : Head) → HoldsBacked head []
unfolding HoldsBacked
backed-none head c n t h on p = cc

awaited-none : (head : Head) (holds : List Hold) → WaitsBacked head holds []
unfolding WaitsBacked
awaited-none head holds c t x p on = cc

tables-none : TablesKept []
unfolding TablesKept
tables-none c t h p = cc

tables_awaited-none : TablesAwaited []
unfolding TablesAwaited
tables_awaited-none c t x p k = cc

start-there : (head : Head) → HoldsThere head (start head)
unfolding HoldsThere
start-there head c n h p = cc

start-awaited_there : (head : Head) → WaitsThere head (start head)
unfolding WaitsThere
start-awaited_there head c x p = cc

start-open : (head : Head) → WaitersOpen (start head)
unfolding WaitersOpen
start-open head c x p = cc

suits-none : ModesSuit []
unfolding ModesSuit
suits-none c n h p = cc

suits_awaited-none : TargetsSuit []
unfolding TargetsSuit
suits_awaited-none c x p = cc

start-dues : (head : Head) → DuesCover head (start head)
unfolding DuesCover
start-dues head c t m e = cc

start-awaited_dues : (head : Head) → AwaitedCovers head (start head)
unfolding AwaitedCovers
start-awaited_dues head c t m x e f = cc

pub start-locks : (head : Head) → LocksSound head (start head)
start-locks head = record {
  single = single-none;
  alone = alone-none;
  together = together-none;
  backed = backed-none head;
  awaited = awaited-none head [];
  there = start-there head;
  awaited_there = start-awaited_there head;
  tables = tables-none;
  tables_awaited = tables_awaited-none;
  parts = start-parts head;
  open_waits = start-open head;
  suits = suits-none;
  suits_awaited = suits_awaited-none;
  dues = start-dues head;
  awaited_dues = start-awaited_dues head;
}

-- the world of every legal history
pub locks-world : (head : Head) (es : List Entry) → Ground head es → LocksSound head (world head es)
locks-world head es g = along head (LocksSound head) (locks-after head) es (start-locks head) g
