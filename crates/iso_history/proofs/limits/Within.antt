-- Every legal history is within the history's limit and the log's.
use Rattle.std.proofs.Common.{◌+◌, ◌≤◌, List, length}
use Rattle.iso_history.specs.After.{after, start, world}
use Rattle.iso_history.specs.Facts.{UnitsApart}
use Rattle.iso_history.specs.Legal.{Allowed, Ground}
use Rattle.iso_history.specs.Records.{count, debt, oldest}
use Rattle.iso_history.specs.Reserves.{FitsLimit, FitsLog, IsWithin}
use Rattle.iso_history.specs.Stops.{history_limit, needs}
use Rattle.iso_history.specs.World.{World}
use Rattle.iso_history.specs.declared.entry.Entry.{Entry}
use Rattle.iso_types.specs.declared.head.Head.{Head}
use Rattle.iso_history.proofs.Snoc.{along}
use Rattle.iso_history.proofs.limits.Apart.{units-after, units-start}
use Rattle.iso_history.proofs.limits.Begun.{none_left, notes-after, notes-start}
use Rattle.iso_history.proofs.limits.Courses.{on_course-after, on_course-start}
use Rattle.iso_history.proofs.limits.Limit.{fits_limit-after, fits_limit-start}
use Rattle.iso_history.proofs.limits.LogLimit.{fits_log-after, fits_log-start}
use Rattle.iso_history.proofs.limits.LogRoom.{counted-after, counted-start}

pub within-after : (head : Head) (w : World) (e : Entry) → Allowed head w e → UnitsApart w → IsWithin head w → IsWithin head (after head w e)
within-after head w e al s h =
    let none = none_left w.begun w.records h.notes in
    record {
      course = on_course-after head w e al h.course;
      notes = notes-after head w e al s h.course h.notes;
      fits = fits_limit-after head w e al s h.course none h.fits;
      fits_log = fits_log-after head w e al s h.course h.notes h.fits_log;
      counted = counted-after head w e al s h.course none h.counted;
    }

pub within-start : (head : Head) → length head.conns ≤ 32 → IsWithin head (start head)
within-start head le = record {
  course = on_course-start head;
  notes = notes-start head;
  fits = fits_limit-start head le;
  fits_log = fits_log-start head;
  counted = counted-start head;
}

-- every legal history of at most 32 connections is within the limit
pub within : (head : Head) (es : List Entry) → length head.conns ≤ 32 → Ground head es → IsWithin head (world head es)
within head es le g = (along head (λ w. UnitsApart w × IsWithin head w)
    (λ w e a h. (units-after head w e h.0, within-after head w e a h.0 h.1)) es (units-start head, within-start head le) g).1

-- the number of entries and all needs never pass the limit
pub limit-holds : (head : Head) (es : List Entry) → length head.conns ≤ 32 → Ground head es
    → (world head es).made + needs head (world head es) ≤ history_limit
unfolding FitsLimit
limit-holds head es le g = (within head es le g).fits

-- and the log from the oldest record of an open unit on, with its undos, never passes LOGMAX
pub log_limit-holds : (head : Head) (es : List Entry) → length head.conns ≤ 32 → Ground head es
    → count (world head es) + debt head (world head es) ≤ oldest head (world head es) + head.config.logmax
unfolding FitsLog
log_limit-holds head es le g = (within head es le g).fits_log
