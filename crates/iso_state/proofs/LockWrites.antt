-- The lock list after a request, and after the holds are settled.
use Rattle.std.proofs.Common.{◌≡◌, ◌≤◌, Bool, true, false, not, ◌&&◌, ◌||◌, List, refl, ap, sym, subst, ◌∙◌}
use Rattle.std.specs.Option.{option_map_or}
use Rattle.std.specs.Prelude.{None, Some, count_by, if◌then◌else◌, Option}
use Rattle.iso_history.specs.Requests.{Outcome, asking, is_limited, need_of, request}
use Rattle.iso_history.specs.Requests.Outcome.{Gives, Limit}
use Rattle.iso_history.specs.World.{World}
use Rattle.iso_history.specs.declared.entry.Got.{Got}
use Rattle.iso_locklist.specs.Holding.{AreAsked, LocksAre}
use Rattle.iso_locklist.specs.Lists.{asked_for, grants_in}
use Rattle.iso_locklist.specs.Places.{Ledger}
use Rattle.iso_locklist.proofs.SettledLists.{HasNoFresh, added_then_settled, covered_settled, kept_then_settled, none_fresh, none_fresh_by, spared_then_settled}
use Rattle.iso_modes.specs.Modes.{mode_eq}
use Rattle.iso_modes.specs.Terms.{is_brief, is_fresh}
use Rattle.iso_modes.specs.declared.Mode.{Mode}
use Rattle.iso_modes.specs.declared.Term.{Term}
use Rattle.iso_modes.specs.declared.Term.TheVariants.{Kept}
use Rattle.iso_queue.specs.Locks.{Hold, held, hold_on, is_covered, is_hold_of, placed, settled, target, without_briefs}
use Rattle.iso_queue.specs.Queues.{queued, would_wait}
use Rattle.iso_types.specs.declared.head.Head.{Head}
use Rattle.iso_types.specs.declared.value.Conn.{Conn}
use Rattle.iso_types.specs.declared.value.Name.{Name}

-- what a request comes to, by its tests
abbrev pub by-tests : Bool → Bool → Bool → Bool → Mode → Outcome
by-tests had limited waits may to =
    if had then Gives Got.Granted else if limited then Limit else if not waits then Gives Got.Granted else if may then Gives
    (Got.Queued to) else Gives Got.TimedOut

granted-by : (has limited waits may : Bool) (to : Mode) → by-tests has limited waits may to ≡ Gives Got.Granted → (has || not waits) ≡ true
granted-by true l s m to e = refl
granted-by false true s m to e = cc
granted-by false false false m to e = refl
granted-by false false true true to e = cc
granted-by false false true false to e = cc

queued-by : (covered has limited waits may : Bool) (to from : Mode) → by-tests (covered || has) limited waits may to ≡ Gives (Got.Queued from)
    → (has || not waits) ≡ false
queued-by true h l s m to from e = cc
queued-by false true l s m to from e = cc
queued-by false false true s m to from e = cc
queued-by false false false false m to from e = cc
queued-by false false false true true to from e = refl
queued-by false false false true false to from e = cc

pub target-by : (had limited waits may : Bool) (to from : Mode) → by-tests had limited waits may to ≡ Gives (Got.Queued from) → to ≡ from
target-by true l s m to from e = cc
target-by false true s m to from e = cc
target-by false false false m to from e = cc
target-by false false true true to from e = cc
target-by false false true false to from e = cc

module _ (head : Head) (w : World) (c : Conn) (n : Name) (m : Mode) (t : Term) (l : Ledger)
    (asked : AreAsked (grants_in w.holds w.waits c n m) w.holds w.waits c n m t l) where
  has : Bool
  has = option_map_or (mode_eq (target w.holds c n m)) (held w.holds c n) false

  waits : Bool
  waits = would_wait w.holds w.waits (asking w c n m)

  -- a granted request is placed
  pub placed-are : is_covered head w.holds c n m ≡ false → request head w c n m ≡ Gives Got.Granted
      → LocksAre (placed head w.holds c (asked_for n m t)) w.waits l
  unfolding has waits
  placed-are bare granted =
      let same : request head w c n m ≡ by-tests has (is_limited head w c (need_of w c n)) waits (w.setting c).may_wait
      (target w.holds c n m) = rw bare refl in
      rw bare (asked.granted_are (granted-by has (is_limited head w c (need_of w c n)) waits (w.setting c).may_wait (target w.holds c n m) (sym same ∙ granted)))

  -- one that queues is added to the waits
  pub queued-are : (to : Mode) → request head w c n m ≡ Gives (Got.Queued to)
      → LocksAre w.holds (queued w.holds (record { name = n; conn = c; target = to; term = t }) w.waits) l
  unfolding has waits
  queued-are to queues =
      let told : grants_in w.holds w.waits c n m ≡ false =
      queued-by (is_covered head w.holds c n m) has (is_limited head w c (need_of w c n)) waits (w.setting c).may_wait (target w.holds c n m) to queues in
      let to_is : target w.holds c n m ≡ to =
      target-by (is_covered head w.holds c n m || has) (is_limited head w c (need_of w c n)) waits (w.setting c).may_wait (target w.holds c n m) to queues in
      subst (λ (a : Mode). LocksAre w.holds (queued w.holds (record { name = n; conn = c; target = a; term = t }) w.waits) l) to_is (asked.queued_are told)

-- ---- a granted request, and how its holds are settled
-- the name that is spared
abbrev pub spare-of : Bool → Name → Option Name
spare-of spared n = if spared then Some n else None

module _ (head : Head) (hs : List Hold) (c : Conn) (n : Name) (m : Mode) (t : Term) where
  -- its hold is Fresh, and becomes Kept
  pub taken-kept : (spared fresh : Bool) → option_map_or (λ h. is_fresh h.term) (hold_on hs c n) false ≡ fresh → (not spared && fresh) ≡ true
      → without_briefs (placed head hs c (asked_for n m Kept)) c (settled c None (placed head hs c (asked_for n m Kept)))
      ≡ without_briefs hs c (placed head (settled c (spare-of spared n) hs) c (asked_for n m t))
  taken-kept true fresh is k = cc k
  taken-kept false false is k = cc k
  taken-kept false true is k = go (is_covered head hs c n m) refl
    where
      go : (b : Bool) → is_covered head hs c n m ≡ b
          → without_briefs (placed head hs c (asked_for n m Kept)) c (settled c None (placed head hs c (asked_for n m Kept)))
          ≡ without_briefs hs c (placed head (settled c None hs) c (asked_for n m t))
      go true e = rw (e, covered_settled c None head hs c n m ∙ e) refl
      go false e = rw (e, covered_settled c None head hs c n m ∙ e) (kept_then_settled c n m t hs is)

  -- it is spared, or not Fresh
  pub taken-spared : (spared fresh : Bool) → option_map_or (λ h. is_fresh h.term) (hold_on hs c n) false ≡ fresh → (not spared && fresh) ≡ false
      → is_brief t ≡ false → count_by (is_hold_of c n) hs ≤ 1
      → without_briefs (placed head hs c (asked_for n m t)) c (settled c (Some n) (placed head hs c (asked_for n m t)))
      ≡ without_briefs hs c (placed head (settled c (spare-of spared n) hs) c (asked_for n m t))
  taken-spared true fresh is k long single = go (is_covered head hs c n m) refl
    where
      go : (b : Bool) → is_covered head hs c n m ≡ b
          → without_briefs (placed head hs c (asked_for n m t)) c (settled c (Some n) (placed head hs c (asked_for n m t)))
          ≡ without_briefs hs c (placed head (settled c (Some n) hs) c (asked_for n m t))
      go true e = rw (e, covered_settled c (Some n) head hs c n m ∙ e) refl
      go false e = rw (e, covered_settled c (Some n) head hs c n m ∙ e) (spared_then_settled c n m t hs long)
  taken-spared false true is k long single = cc k
  taken-spared false false is k long single = go (is_covered head hs c n m) refl
    where
      none : HasNoFresh c n hs
      none = none_fresh_by c n hs single is

      go : (b : Bool) → is_covered head hs c n m ≡ b
          → without_briefs (placed head hs c (asked_for n m t)) c (settled c (Some n) (placed head hs c (asked_for n m t)))
          ≡ without_briefs hs c (placed head (settled c None hs) c (asked_for n m t))
      go true e = rw (e, covered_settled c None head hs c n m ∙ e) (ap (without_briefs hs c) (sym (none_fresh c n hs none)))
      go false e = rw (e, covered_settled c None head hs c n m ∙ e) (added_then_settled c n m t hs long none)
