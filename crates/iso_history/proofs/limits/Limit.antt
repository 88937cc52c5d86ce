-- The number of entries and all needs stay within the history's limit.
use Rattle.std.proofs.Common.{◌≡◌, ◌+◌, ◌*◌, ◌≤◌, ℕ, Bool, true, false, not, ◌&&◌, length, refl, arith, is_some}
use Rattle.std.specs.Prelude.{if◌then◌else◌, nat_lt}
use Rattle.std.proofs.lemmas.Bool.Decides.{nat_tests}
use Rattle.iso_history.specs.After.{after, start}
use Rattle.iso_history.specs.Courses.{NoneLeft, OnCourse}
use Rattle.iso_history.specs.Facts.{UnitsApart}
use Rattle.iso_history.specs.Legal.{Allowed, By, ByAgent, ByDispatcher}
use Rattle.iso_history.specs.Phases.{is_phase, phase}
use Rattle.iso_history.specs.Reserves.{FitsLimit, needs_less, needs_more}
use Rattle.iso_history.specs.Stops.{dispatcher_reserve, history_limit, is_never_refused, need, needs, reserve, reserves}
use Rattle.iso_history.specs.World.{Pace, World}
use Rattle.iso_history.specs.declared.entry.Act.{Act}
use Rattle.iso_history.specs.declared.entry.Act.TheVariants.{Close, Commit, Expire, Finish, Rollback, Stopped, Undo, Victim}
use Rattle.iso_history.specs.declared.entry.Entry.{Entry}
use Rattle.iso_history.specs.declared.entry.Who.{Who}
use Rattle.iso_history.specs.declared.entry.Who.TheVariants.{Agent, Dispatcher}
use Rattle.iso_types.specs.declared.desk.Phase.TheVariants.{Running}
use Rattle.iso_types.specs.declared.head.Head.{Head}
use Rattle.iso_types.specs.declared.value.Conn.{Conn}
use Rattle.iso_history.proofs.limits.Stations.{need-le}
use Rattle.iso_history.proofs.limits.Sums.{conns-bounded, conns-le}
use Rattle.iso_history.proofs.limits.Totals.{not-true, totals-after}

-- the needs are never more than the reserves
pub needs-le : (head : Head) (w : World) → needs head w ≤ reserves head w
needs-le head w = let le = conns-le head (reserve w) (need w) (need-le w) in omega (arith, le)

-- what an entry that is never refused does to the needs: it takes one off at least, and adds none
pub record Lowers (w : World) (who : Who) (a : Act) : Type 0 where
  pub one_less : 1 ≤ needs_less w who a
  pub none_more : needs_more w who a ≡ 0

pub lowers-agent : (head : Head) (w : World) (c : Conn) (a : Act) → ByAgent head w c a → is_never_refused a ≡ true → Lowers w (Agent c) a
lowers-agent head w c (Undo n) al e = record { one_less = omega arith; none_more = refl }
lowers-agent head w c Commit al e = record { one_less = omega arith; none_more = refl }
lowers-agent head w c (Rollback code reason) al e = record { one_less = either (is_phase (phase w c) Running); none_more = refl }
  where
    either : (b : Bool) → 1 ≤ (if b then 2 else 1)
    either true = omega arith
    either false = omega arith
lowers-agent head w c (Stopped cause) al e = record { one_less = omega arith; none_more = refl }
lowers-agent head w c Act.Ended al e = record { one_less = omega arith; none_more = refl }
lowers-agent head w c (Victim cycle) al e = absurd al
lowers-agent head w c (Expire line d ended) al e = absurd al
lowers-agent head w c (Close d) al e = absurd al
lowers-agent head w c Finish al e = absurd al
lowers-agent head w c _ al e = absurd (cc)

lowers-dispatcher : (head : Head) (w : World) (a : Act) → w.pace.finished ≡ false → ByDispatcher head w a → is_never_refused a ≡ true
    → Lowers w Dispatcher a
lowers-dispatcher head w (Victim cycle) f al e = record { one_less = omega arith; none_more = refl }
lowers-dispatcher head w (Expire line d true) f al e = record { one_less = omega arith; none_more = refl }
lowers-dispatcher head w (Expire line d false) f al e = absurd (cc)
lowers-dispatcher head w (Close d) f al e = record { one_less = either (is_some (w.unit d)); none_more = refl }
  where
    either : (b : Bool) → 1 ≤ (if b then 3 else 1)
    either true = omega arith
    either false = omega arith
lowers-dispatcher head w (Stopped cause) f al e = record { one_less = omega arith; none_more = refl }
lowers-dispatcher head w Finish f al e = record { one_less = some w.pace f; none_more = refl }
  where
    either : (b : Bool) → 1 ≤ (if b then 1 else 2)
    either true = omega arith
    either false = omega arith

    some : (p : Pace) → p.finished ≡ false → 1 ≤ dispatcher_reserve p
    some p f = rw f (either p.halted)
lowers-dispatcher head w (Undo n) f al e = absurd al
lowers-dispatcher head w Commit f al e = absurd al
lowers-dispatcher head w (Rollback code reason) f al e = absurd al
lowers-dispatcher head w Act.Ended f al e = absurd al
lowers-dispatcher head w _ f al e = absurd (cc)

pub lowers : (head : Head) (w : World) (who : Who) (a : Act) → w.pace.finished ≡ false → By head w who a → is_never_refused a ≡ true
    → Lowers w who a
lowers head w Dispatcher a f al e = lowers-dispatcher head w a f al e
lowers head w (Agent c) a f al e = lowers-agent head w c a al.1 e

-- an entry that is never refused has its place among the needs before it
pub needs-lower : (head : Head) (w : World) (e : Entry) → Allowed head w e → UnitsApart w → OnCourse w → NoneLeft w.begun w.records
    → is_never_refused e.act ≡ true → needs head (after head w e) + 1 ≤ needs head w
needs-lower head w e al s co n never =
    let l = lowers head w e.who e.act (not-true w.pace.finished al.0) al.2 never in
    let t = (totals-after head w e al s co n).needs_move in
    less _ _ _ _ t l.one_less l.none_more
  where
    less : (a b x y : ℕ) → a + y ≡ b + x → 1 ≤ y → x ≡ 0 → a + 1 ≤ b
    less a b x y e f g = omega (arith, e, f, g)

pub not-full : (never test : Bool) → never ≡ false → not (not never && test) ≡ true → test ≡ false
not-full true test e h = absurd (cc)
not-full false true e h = absurd (cc)
not-full false false e h = refl

-- an entry that may be refused for the limit leaves room for all reserves
pub room-left : (head : Head) (w : World) (e : Entry) → Allowed head w e → is_never_refused e.act ≡ false
    → w.made + 1 + reserves head (after head w e) ≤ history_limit
room-left head w e al never = least history_limit _ (not-full (is_never_refused e.act) _ never al.1)
  where
    least : (m n : ℕ) → nat_lt m n ≡ false → n ≤ m
    least m n e = grind (arith, nat_tests)

-- each entry that may stand keeps the number of entries and all needs within the limit
pub fits_limit-after : (head : Head) (w : World) (e : Entry) → Allowed head w e → UnitsApart w → OnCourse w → NoneLeft w.begun w.records
    → FitsLimit head w → FitsLimit head (after head w e)
unfolding FitsLimit
fits_limit-after head w e al s co n fits = go (is_never_refused e.act) refl
  where
    go : (b : Bool) → is_never_refused e.act ≡ b → (w.made + 1) + needs head (after head w e) ≤ history_limit
    go true never = let less = needs-lower head w e al s co n never in omega (arith, less, fits)
    go false may = let le = needs-le head (after head w e) in let room = room-left head w e al may in omega (arith, le, room)

-- the empty history, for at most 32 connections
pub fits_limit-start : (head : Head) → length head.conns ≤ 32 → FitsLimit head (start head)
unfolding FitsLimit
fits_limit-start head le = let most = conns-bounded head (need (start head)) 2 (λ d. two) in small (length head.conns) _ most le
  where
    two : 2 ≤ 2
    two = omega arith

    small : (n k : ℕ) → k ≤ n * 2 → n ≤ 32 → 0 + (k + 2) ≤ 2000000
    small n k h le = omega (arith, h, le)
