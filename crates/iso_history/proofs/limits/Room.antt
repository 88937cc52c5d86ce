-- The room that steps take from a history's, and that they make.
use Rattle.std.proofs.Common.{◌≡◌, ◌+◌, ◌*◌, ◌≤◌, ℕ, Bool, true, false, length, refl, ap, arith, is_some}
use Rattle.std.specs.Prelude.{if◌then◌else◌}
use Rattle.iso_history.specs.After.{after, start}
use Rattle.iso_history.specs.Courses.{CourseAt, NoneLeft, OnCourse}
use Rattle.iso_history.specs.Facts.{UnitsApart}
use Rattle.iso_history.specs.Legal.{Allowed, ByAgent}
use Rattle.iso_history.specs.Reserves.{FitsLimit, needs_more, log_room_of, room_of}
use Rattle.iso_history.specs.Stops.{is_never_refused, need, needs, reserve, reserves}
use Rattle.iso_history.specs.World.{World}
use Rattle.iso_history.specs.declared.entry.Act.{Act}
use Rattle.iso_history.specs.declared.entry.Act.TheVariants.{Close, Commit, Delete, Dispatch, Expire, Finish, Insert, Rollback, Stopped, Undo, Update, Victim}
use Rattle.iso_history.specs.declared.entry.Entry.{Entry}
use Rattle.iso_history.specs.declared.entry.Who.{Who}
use Rattle.iso_history.specs.declared.entry.Who.TheVariants.{Agent, Dispatcher}
use Rattle.iso_types.specs.declared.head.Head.{Head}
use Rattle.iso_types.specs.declared.value.Conn.{Conn}
use Rattle.iso_history.proofs.limits.Agents.{agent-moves}
use Rattle.iso_history.proofs.limits.Limit.{lowers-agent, needs-lower}
use Rattle.iso_history.proofs.limits.Stations.{need-near}
use Rattle.iso_history.proofs.limits.Sums.{conns-const, conns-near}
use Rattle.iso_history.proofs.limits.Totals.{totals-after}

-- what a step has to make room for covers its entry and what that adds to the needs
covers-agent : (w : World) (c : Conn) (a : Act) → is_never_refused a ≡ false → needs_more w (Agent c) a + 1 ≤ room_of a
covers-agent w c (Victim cycle) e = absurd (cc)
covers-agent w c (Undo n) e = absurd (cc)
covers-agent w c Commit e = absurd (cc)
covers-agent w c (Rollback code reason) e = absurd (cc)
covers-agent w c (Close d) e = absurd (cc)
covers-agent w c (Stopped cause) e = absurd (cc)
covers-agent w c Act.Ended e = absurd (cc)
covers-agent w c Finish e = absurd (cc)
covers-agent w c (Expire line d true) e = absurd (cc)
covers-agent w c _ e = omega arith

covers-dispatcher : (w : World) (a : Act) → is_never_refused a ≡ false → needs_more w Dispatcher a + 1 ≤ room_of a
covers-dispatcher w (Dispatch line c) e = either (is_some (w.unit c))
  where
    either : (b : Bool) → (if b then 0 else 2) + 1 ≤ 3
    either true = omega arith
    either false = omega arith
covers-dispatcher w (Victim cycle) e = absurd (cc)
covers-dispatcher w (Undo n) e = absurd (cc)
covers-dispatcher w Commit e = absurd (cc)
covers-dispatcher w (Rollback code reason) e = absurd (cc)
covers-dispatcher w (Close d) e = absurd (cc)
covers-dispatcher w (Stopped cause) e = absurd (cc)
covers-dispatcher w Act.Ended e = absurd (cc)
covers-dispatcher w Finish e = absurd (cc)
covers-dispatcher w (Expire line d true) e = absurd (cc)
covers-dispatcher w _ e = omega arith

covers : (w : World) (who : Who) (a : Act) → is_never_refused a ≡ false → needs_more w who a + 1 ≤ room_of a
covers w Dispatcher a e = covers-dispatcher w a e
covers w (Agent c) a e = covers-agent w c a e

-- an act that is never refused makes no room
pub room-never : (a : Act) → is_never_refused a ≡ true → room_of a ≡ 0
room-never (Dispatch line c) e = absurd (cc)
room-never (Insert t r row) e = absurd (cc)
room-never (Update t r row) e = absurd (cc)
room-never (Delete t r) e = absurd (cc)
room-never (Expire line c ended) e = rw e refl
room-never (Victim cycle) e = refl
room-never (Undo n) e = refl
room-never Commit e = refl
room-never (Rollback code reason) e = refl
room-never (Close d) e = refl
room-never (Stopped cause) e = refl
room-never Act.Ended e = refl
room-never Finish e = refl
room-never _ e = absurd (cc)

pub log_room-never : (a : Act) → is_never_refused a ≡ true → log_room_of a ≡ 0
log_room-never (Insert t r row) e = absurd (cc)
log_room-never (Update t r row) e = absurd (cc)
log_room-never (Delete t r) e = absurd (cc)
log_room-never _ e = refl

-- after an entry its place and the needs are covered by the needs before it and the room that it made
pub needs-room : (head : Head) (w : World) (e : Entry) → Allowed head w e → UnitsApart w → OnCourse w → NoneLeft w.begun w.records
    → needs head (after head w e) + 1 ≤ needs head w + room_of e.act
needs-room head w e al s co n = go (is_never_refused e.act) refl
  where
    go : (b : Bool) → is_never_refused e.act ≡ b → needs head (after head w e) + 1 ≤ needs head w + room_of e.act
    go true never = let less = needs-lower head w e al s co n never in omega (arith, less)
    go false may = more _ _ _ _ _ (totals-after head w e al s co n).needs_move (covers w e.who e.act may)
      where
        more : (a b x y r : ℕ) → a + y ≡ b + x → x + 1 ≤ r → a + 1 ≤ b + r
        more a b x y r e le = omega (arith, e, le)

-- a push into room that was kept or made leaves room for the needs after it
pub room-kept : (head : Head) (w : World) (e : Entry) (old new : ℕ) → Allowed head w e → UnitsApart w → OnCourse w → NoneLeft w.begun w.records
    → needs head w + room_of e.act ≤ old → old ≤ new + 1 → needs head (after head w e) ≤ new
room-kept head w e old new al s co n room push = let h = needs-room head w e al s co n in omega (arith, h, room, push)

-- an entry that is never refused takes no memory: the room for the needs is enough
pub room-never_refused : (head : Head) (w : World) (e : Entry) (old new : ℕ) → Allowed head w e → UnitsApart w → OnCourse w
    → NoneLeft w.begun w.records → is_never_refused e.act ≡ true → needs head w ≤ old → old ≤ new + 1 → needs head (after head w e) ≤ new
room-never_refused head w e old new al s co n never room push =
    let h = needs-lower head w e al s co n never in omega (arith, h, room, push)

-- there is room for its push
pub room-one : (head : Head) (w : World) (e : Entry) (old : ℕ) → Allowed head w e → UnitsApart w → OnCourse w → NoneLeft w.begun w.records
    → needs head w + room_of e.act ≤ old → 1 ≤ old
room-one head w e old al s co n room = let h = needs-room head w e al s co n in omega (arith, h, room)

-- no step makes room for more than three entries beyond the needs
pub room-small : (a : Act) → room_of a ≤ 3
room-small (Dispatch line c) = omega arith
room-small (Insert t r row) = omega arith
room-small (Update t r row) = omega arith
room-small (Delete t r) = omega arith
room-small (Expire line c true) = omega arith
room-small (Expire line c false) = omega arith
room-small _ = omega arith

-- the reserves pass the needs by two at most for each connection
pub reserves-le : (head : Head) (w : World) → reserves head w ≤ needs head w + length head.conns * 2
reserves-le head w = let near = conns-near head (reserve w) (need w) 2 (need-near w) in omega (arith, near)

-- at the start each connection needs two, and so does the dispatcher
pub reserves-start : (head : Head) → reserves head (start head) ≡ length head.conns * 2 + 2
reserves-start head = let k = conns-const head (reserve (start head)) 2 (λ d. refl) in ap (λ n. n + 2) k

pub needs-start : (head : Head) → needs head (start head) ≡ length head.conns * 2 + 2
needs-start head = let k = conns-const head (need (start head)) 2 (λ d. refl) in ap (λ n. n + 2) k

-- the maker of an entry that is never refused needs one at least
pub maker-needs : (head : Head) (w : World) (c : Conn) (a : Act) → ByAgent head w c a → CourseAt w c → NoneLeft w.begun w.records
    → is_never_refused a ≡ true → 1 ≤ need w c
maker-needs head w c a al co n never =
    let l = lowers-agent head w c a al never in
    some _ _ _ _ (agent-moves head w c a al co n).need_moves l.one_less l.none_more
  where
    some : (a b x y : ℕ) → a + y ≡ b + x → 1 ≤ y → x ≡ 0 → 1 ≤ b
    some a b x y e f g = omega (arith, e, f, g)

-- so the number of entries and all reserves stay small
pub reserves-fit : (head : Head) (w : World) → length head.conns ≤ 32 → FitsLimit head w → w.made + reserves head w ≤ 2000064
unfolding FitsLimit
reserves-fit head w few fits = let le = reserves-le head w in let n = twice (length head.conns) few in omega (arith, le, fits, n)
  where
    twice : (n : ℕ) → n ≤ 32 → n * 2 ≤ 64
    twice n le = omega (arith, le)
