-- The history's limit and the room as a step meets them: over the entries before and after its push.
use Rattle.std.proofs.Common.{◌≡◌, ◌+◌, ◌≤◌, ℕ, true, false, not, List, [], ◌∷◌, ◌++◌, length, refl, ap, sym, ◌∙◌, arith, subst}
use Rattle.std.specs.Prelude.{IsTrue, nat_lt}
use Rattle.iso_history.specs.After.{after, world}
use Rattle.iso_history.specs.Facts.{UnitsApart}
use Rattle.iso_history.specs.Legal.{Allowed, By}
use Rattle.iso_history.specs.Records.{debt}
use Rattle.iso_history.specs.Reserves.{FitsLimit, HasRoom, IsWithin, debt_less, debt_more, log_room_of, records_of, reserves_less, reserves_more, room_of}
use Rattle.iso_history.specs.Stops.{history_limit, is_full, is_never_refused, needs, reserves}
use Rattle.iso_history.specs.World.{World}
use Rattle.iso_history.specs.declared.entry.Act.{Act}
use Rattle.iso_history.specs.declared.entry.Entry.{Entry}
use Rattle.iso_history.specs.declared.entry.Who.{Who}
use Rattle.iso_types.specs.declared.head.Head.{Head}
use Rattle.iso_history.proofs.Snoc.{world-snoc}
use Rattle.iso_history.proofs.limits.Begun.{none_left}
use Rattle.iso_history.proofs.limits.Debts.{debt-after}
use Rattle.iso_history.proofs.limits.Full.{fullness, fullness-timed_out}
use Rattle.iso_history.proofs.limits.LogRoom.{log-kept}
use Rattle.iso_history.proofs.limits.Made.{made-is}
use Rattle.iso_history.proofs.limits.Room.{log_room-never, room-kept, room-never}
use Rattle.iso_history.proofs.limits.Totals.{not-true, totals-after}

-- an act that is never refused may be appended where its maker may make it
pub never-allowed : (head : Head) (w : World) (e : Entry) → IsTrue (not w.pace.finished) → By head w e.who e.act → is_never_refused e.act ≡ true
    → Allowed head w e
never-allowed head w e f al never = (f, (rw never refl), al)

-- an act that is not full may be appended
pub fitting-allowed : (head : Head) (w : World) (e : Entry) → IsTrue (not w.pace.finished) → By head w e.who e.act → is_full head w e ≡ false
    → Allowed head w e
fitting-allowed head w e f al full = (f, (rw full refl), al)

-- a step that takes nothing off the reserves is full exactly where its entry, with the sum after it, passes the limit
pub full-sum : (head : Head) (es : List Entry) (who : Who) (a : Act) (more : ℕ) → IsTrue (not (world head es).pace.finished) → By head (world head es) who a
    → UnitsApart (world head es) → IsWithin head (world head es) → is_never_refused a ≡ false → reserves_less (world head es) who a ≡ 0
    → reserves_more (world head es) who a ≡ more
    → is_full head (world head es) (record { who = who; act = a }) ≡ nat_lt history_limit (length es + 1 + reserves head (world head es) + more)
full-sum head es who a more f al s h never less is =
    fullness head (world head es) who a (not-true (world head es).pace.finished f) al s h.course (none_left _ _ h.notes) never less
    ∙ ap (nat_lt history_limit) (sums (world head es).made (length es) _ _ more (made-is head es) is)
  where
    sums : (m n r x y : ℕ) → m ≡ n → x ≡ y → m + 1 + r + x ≡ n + 1 + r + y
    sums m n r x y e f = omega (arith, e, f)

-- a request that timed out takes one off, and so its own entry counts for nothing
pub full-sum-timed_out : (head : Head) (es : List Entry) (who : Who) (a : Act) → IsTrue (not (world head es).pace.finished)
    → By head (world head es) who a → UnitsApart (world head es) → IsWithin head (world head es) → is_never_refused a ≡ false
    → reserves_less (world head es) who a ≡ 1 → reserves_more (world head es) who a ≡ 0
    → is_full head (world head es) (record { who = who; act = a }) ≡ nat_lt history_limit (length es + reserves head (world head es))
full-sum-timed_out head es who a f al s h never less more =
    fullness-timed_out head (world head es) who a (not-true (world head es).pace.finished f) al s h.course (none_left _ _ h.notes) never less more
    ∙ ap (nat_lt history_limit) (ap (λ n. n + reserves head (world head es)) (made-is head es))

module _ (head : Head) (es items : List Entry) (e : Entry) (is : items ≡ es ++ e ∷ []) (al : Allowed head (world head es) e)
    (s : UnitsApart (world head es)) (h : IsWithin head (world head es)) where
  pushed : world head items ≡ after head (world head es) e
  pushed = ap (world head) is ∙ world-snoc head es e

  -- room for the needs, and for what the step adds to them, leaves room for the needs after its push
  pub needs-pushed : (old new : ℕ) → needs head (world head es) + room_of e.act ≤ old → old ≤ new + 1 → needs head (world head items) ≤ new
  needs-pushed old new room push =
      subst (λ (v : World). needs head v ≤ new) (sym pushed) (room-kept head (world head es) e old new al s h.course (none_left _ _ h.notes) room push)

  -- the sum of all reserves after the push
  pub reserves-pushed : reserves head (world head items) + reserves_less (world head es) e.who e.act
      ≡ reserves head (world head es) + reserves_more (world head es) e.who e.act
  reserves-pushed =
      ap (λ (v : World). reserves head v + reserves_less (world head es) e.who e.act) pushed
      ∙ (totals-after head (world head es) e al s h.course (none_left _ _ h.notes)).reserves_move

  -- the debt after the push, and the log's room for it
  pub debt-pushed : debt head (world head items) + debt_less (world head es) e.who e.act ≡ debt head (world head es) + debt_more e.act
  debt-pushed =
      ap (λ (v : World). debt head v + debt_less (world head es) e.who e.act) pushed ∙ debt-after head (world head es) e al s h.course (none_left _ _ h.notes)

  pub log-pushed : (old new : ℕ) → debt head (world head es) + log_room_of e.act ≤ old → old ≤ new + records_of e.act
      → debt head (world head items) ≤ new
  log-pushed old new room push =
      subst (λ (v : World). debt head v ≤ new) (sym pushed) (log-kept head (world head es) e old new al s h.course (none_left _ _ h.notes) room push)

  -- room for both, and for what the step adds, leaves room for both after its pushes
  pub has_room-pushed : (old new log_old log_new : ℕ) → needs head (world head es) + room_of e.act ≤ old → old ≤ new + 1
      → debt head (world head es) + log_room_of e.act ≤ log_old → log_old ≤ log_new + records_of e.act → HasRoom head (world head items) new log_new
  has_room-pushed old new log_old log_new room push log_room log_push = record {
    for_needs = needs-pushed old new room push;
    for_debt = log-pushed log_old log_new log_room log_push;
  }

  -- a step that takes no memory: what it pushes goes into the room for the needs and the debt
  pub has_room-kept : (old new log_old log_new : ℕ) → is_never_refused e.act ≡ true → HasRoom head (world head es) old log_old → old ≤ new + 1
      → log_old ≤ log_new + records_of e.act → HasRoom head (world head items) new log_new
  has_room-kept old new log_old log_new never r push log_push =
      let none = room-never e.act never in
      let no_log = log_room-never e.act never in
      let needed = r.for_needs in
      let owed = r.for_debt in
      has_room-pushed old new log_old log_new (omega (arith, none, needed)) push (omega (arith, no_log, owed)) log_push

-- the entries are within the limit
pub entries-fit : (head : Head) (es : List Entry) → IsWithin head (world head es) → length es ≤ history_limit
unfolding FitsLimit
entries-fit head es h = let k = made-is head es in let f = h.fits in omega (arith, k, f)
