-- By how much each entry moves the sum of all reserves, and of all needs.
use Rattle.std.proofs.Common.{◌≡◌, ◌+◌, ℕ, Bool, true, false, not, [], refl, ap, sym, ◌∙◌, arith, is_some, sum_by}
use Rattle.std.specs.Option.{option_map_or}
use Rattle.std.specs.Prelude.{if◌then◌else◌}
use Rattle.iso_history.specs.After.{after}
use Rattle.iso_history.specs.Courses.{CourseAt, NoneLeft, OnCourse}
use Rattle.iso_history.specs.Facts.{UnitsApart}
use Rattle.iso_history.specs.Legal.{Allowed, By, ByAgent, ByDispatcher}
use Rattle.iso_history.specs.Phases.{is_phase, phase}
use Rattle.iso_history.specs.Records.{left, left_of}
use Rattle.iso_history.specs.Reserves.{needs_less, needs_more, reserves_less, reserves_more}
use Rattle.iso_history.specs.Stops.{dispatcher_reserve, may_halt, may_be_full, need, needs, reserve, reserves}
use Rattle.iso_history.specs.World.{Pace, World}
use Rattle.iso_history.specs.declared.entry.Act.{Act}
use Rattle.iso_history.specs.declared.entry.Act.TheVariants.{Close, Delete, Dispatch, Expire, Finish, Insert, Stopped, Undo, Update, Victim}
use Rattle.iso_history.specs.declared.entry.Cause.{Cause}
use Rattle.iso_history.specs.declared.entry.Cause.TheVariants.{History, Memory}
use Rattle.iso_history.specs.declared.entry.Entry.{Entry}
use Rattle.iso_history.specs.declared.entry.Who.{Who}
use Rattle.iso_history.specs.declared.entry.Who.TheVariants.{Agent, Dispatcher}
use Rattle.iso_types.specs.Head.{conns, is_conn}
use Rattle.iso_types.specs.Ids.{conn_eq}
use Rattle.iso_types.specs.declared.desk.Phase.{Phase}
use Rattle.iso_types.specs.declared.desk.Phase.TheVariants.{Idle}
use Rattle.iso_types.specs.declared.head.Head.{Head}
use Rattle.iso_types.specs.declared.value.Conn.{Conn}
use Rattle.iso_history.proofs.limits.Agents.{agent-moves}
use Rattle.iso_history.proofs.limits.Courses.{is_phase-is, least-idle-is, phase-same}
use Rattle.iso_history.proofs.limits.LeftOf.{left_of-other}
use Rattle.iso_history.proofs.limits.Moves.{Moved, and-left}
use Rattle.iso_history.specs.Makers.{by_agent, by_dispatcher}
use Rattle.iso_history.proofs.limits.Others.{IsSameAt, others-agent, others-close, others-dispatch, others-expire, others-victim}
use Rattle.iso_history.proofs.limits.Pacers.{close-moves, dispatch-moves, expire-moves, victim-moves}
use Rattle.iso_history.proofs.limits.Sums.{conns-moved}
use Rattle.iso_history.proofs.limits.Victims.{found-conn, has_victim}

-- by how much the sums are raised and lowered
pub record Totals (head : Head) (w v : World) (more less need_more need_less : ℕ) : Type 0 where
  pub reserves_move : reserves head v + less ≡ reserves head w + more
  pub needs_move : needs head v + need_less ≡ needs head w + need_more

-- the reserve and need of a connection that stands as before
reserve-same : (w v : World) (d : Conn) → IsSameAt w v d → left_of v d ≡ left_of w d → reserve v d ≡ reserve w d
reserve-same w v d s l = rw (phase-same w v d s, ap (λ o. is_some o) s.unit_same, l) refl

need-same : (w v : World) (d : Conn) → IsSameAt w v d → left_of v d ≡ left_of w d → need v d ≡ need w d
need-same w v d s l = rw (phase-same w v d s, ap (λ o. is_some o) s.unit_same, l) refl

-- where one connection is moved, and the dispatcher's reserve is as before
totals-moved : (head : Head) (w v : World) (c : Conn) (x y s t : ℕ) → is_conn head c ≡ true
    → ((d : Conn) → conn_eq d c ≡ false → IsSameAt w v d) → ((d : Conn) → conn_eq d c ≡ false → left_of v d ≡ left_of w d)
    → Moved w v c x y s t → dispatcher_reserve v.pace ≡ dispatcher_reserve w.pace → Totals head w v x y s t
totals-moved head w v c x y s t is same kept m p =
    let r = conns-moved head (reserve w) (reserve v) c x y is (λ d e. reserve-same w v d (same d e) (kept d e)) m.reserve_moves in
    let n = conns-moved head (need w) (need v) c s t is (λ d e. need-same w v d (same d e) (kept d e)) m.need_moves in
    record {
      reserves_move = added (sum_by (reserve w) (conns head)) (sum_by (reserve v) (conns head)) _ _ x y p r;
      needs_move = added (sum_by (need w) (conns head)) (sum_by (need v) (conns head)) _ _ s t p n;
    }
  where
    added : (a b k m x y : ℕ) → m ≡ k → b + y ≡ a + x → (b + m) + y ≡ (a + k) + x
    added a b k m x y e f = omega (arith, e, f)

-- an agent's entry leaves the reserve and the need of each other connection
pub reserve-other : (head : Head) (w : World) (c : Conn) (a : Act) (d : Conn) → ByAgent head w c a → UnitsApart w → CourseAt w c
    → NoneLeft w.begun w.records → conn_eq d c ≡ false → reserve (after head w (by_agent c a)) d ≡ reserve w d
reserve-other head w c a d al s co n e =
    reserve-same w (after head w (by_agent c a)) d (others-agent head w c a d e) (left_of-other head w c a d al s co n e)

pub need-other : (head : Head) (w : World) (c : Conn) (a : Act) (d : Conn) → ByAgent head w c a → UnitsApart w → CourseAt w c
    → NoneLeft w.begun w.records → conn_eq d c ≡ false → need (after head w (by_agent c a)) d ≡ need w d
need-other head w c a d al s co n e =
    need-same w (after head w (by_agent c a)) d (others-agent head w c a d e) (left_of-other head w c a d al s co n e)

totals-agent : (head : Head) (w : World) (c : Conn) (a : Act) → is_conn head c ≡ true → ByAgent head w c a → UnitsApart w → CourseAt w c
    → NoneLeft w.begun w.records → Totals head w (after head w (by_agent c a)) (reserves_more w (Agent c) a) (reserves_less w (Agent c) a)
    (needs_more w (Agent c) a) (needs_less w (Agent c) a)
totals-agent head w c a is al s co n =
    totals-moved head w (after head w (by_agent c a)) c _ _ _ _ is (λ d e. others-agent head w c a d e)
    (λ d e. left_of-other head w c a d al s co n e) (agent-moves head w c a al co n) refl

-- an entry that changes no unit and no record leaves what each has left
pub left_of-kept : (w v : World) (d : Conn) → v.records ≡ w.records → IsSameAt w v d → left_of v d ≡ left_of w d
left_of-kept w v d r s = ap (λ ns. option_map_or (left ns) (v.unit d) []) r ∙ ap (λ o. option_map_or (left w.records) o []) s.unit_same

-- the dispatcher may halt only where no stop stands
halt-able : (head : Head) (w : World) (cause : Cause) → may_halt head w cause ≡ true → w.pace.stopped ≡ false
halt-able head w Memory e = not-true w.pace.stopped e
  where
    not-true : (b : Bool) → not b ≡ true → b ≡ false
    not-true true e = absurd (cc)
    not-true false e = refl
halt-able head w History e = not-true w.pace.stopped (and-left (not w.pace.stopped) (may_be_full head w 2) e)
  where
    not-true : (b : Bool) → not b ≡ true → b ≡ false
    not-true true e = absurd (cc)
    not-true false e = refl
halt-able head w Cause.Table e = absurd (cc)

-- the dispatcher's own reserve, at its Stopped
halt-lowers : (p : Pace) → p.finished ≡ false → (p.halted ≡ true → p.stopped ≡ true) → p.stopped ≡ false
    → (if p.finished then 0 else 1) + 1 ≡ dispatcher_reserve p
halt-lowers p f h s = go p.halted refl
  where
    go : (b : Bool) → p.halted ≡ b → (if p.finished then 0 else 1) + 1 ≡ dispatcher_reserve p
    go true e = let t = h e in absurd (cc)
    go false e = rw (f, e) refl

totals-dispatcher : (head : Head) (w : World) (a : Act) → w.pace.finished ≡ false → ByDispatcher head w a → OnCourse w
    → NoneLeft w.begun w.records → Totals head w (after head w (by_dispatcher a)) (reserves_more w Dispatcher a) (reserves_less w Dispatcher a)
    (needs_more w Dispatcher a) (needs_less w Dispatcher a)
totals-dispatcher head w (Dispatch line c) f al co n =
    totals-moved head w _ c _ _ _ _ al.0 (others-dispatch head w line c) (λ d e. left_of-kept w _ d refl (others-dispatch head w line c d e))
    (dispatch-moves head w line c al.1 n) refl
totals-dispatcher head w (Expire line c true) f al co n =
    totals-moved head w _ c _ _ _ _ al.0 (others-expire head w line c) (λ d e. left_of-kept w _ d refl (others-expire head w line c d e))
    (expire-moves head w line c (co.each c) (is_phase-is (phase w c) Phase.Waiting (sym al.3))) refl
totals-dispatcher head w (Victim cycle) f al co n =
    let h = has_victim head w cycle al in
    totals-moved head w _ h.conn _ _ _ _ h.is_one (λ d e. others-victim head w cycle h.conn d h.is_victim e)
    (λ d e. left_of-kept w _ d refl (others-victim head w cycle h.conn d h.is_victim e))
    (victim-moves head w cycle h.conn h.is_victim (co.each h.conn) ((co.each h.conn).waits h.waits).0) refl
totals-dispatcher head w (Close c) f al co n =
    totals-moved head w _ c _ _ _ _ (found-conn head (λ d. is_phase (phase w d) Idle) c al.1) (others-close head w c)
    (λ d e. left_of-kept w _ d refl (others-close head w c d e)) (close-moves head w c (least-idle-is head w c al.1)) refl
totals-dispatcher head w (Stopped cause) f al co n =
    let l = halt-lowers w.pace f co.halts (halt-able head w cause al) in
    record {
      reserves_move = lowered (sum_by (reserve w) (conns head)) _ _ l;
      needs_move = lowered (sum_by (need w) (conns head)) _ _ l;
    }
  where
    lowered : (k a b : ℕ) → a + 1 ≡ b → (k + a) + 1 ≡ (k + b) + 0
    lowered k a b e = omega (arith, e)
totals-dispatcher head w Finish f al co n = record {
  reserves_move = lowered (sum_by (reserve w) (conns head)) (dispatcher_reserve w.pace);
  needs_move = lowered (sum_by (need w) (conns head)) (dispatcher_reserve w.pace);
}
  where
    lowered : (k b : ℕ) → (k + 0) + b ≡ (k + b) + 0
    lowered k b = omega arith
totals-dispatcher head w (Insert t r row) f al co n = absurd al
totals-dispatcher head w (Update t r row) f al co n = absurd al
totals-dispatcher head w (Delete t r) f al co n = absurd al
totals-dispatcher head w (Undo k) f al co n = absurd al
totals-dispatcher head w _ f al co n = record { reserves_move = refl; needs_move = refl }

-- the equation on the reserves and on the needs, for every entry that its maker may make
pub totals-by : (head : Head) (w : World) (who : Who) (a : Act) → w.pace.finished ≡ false → By head w who a → UnitsApart w → OnCourse w
    → NoneLeft w.begun w.records → Totals head w (after head w (record { who = who; act = a })) (reserves_more w who a) (reserves_less w who a)
    (needs_more w who a) (needs_less w who a)
totals-by head w Dispatcher a f al s co n = totals-dispatcher head w a f al co n
totals-by head w (Agent c) a f al s co n = totals-agent head w c a al.0 al.1 s (co.each c) n

pub not-true : (b : Bool) → not b ≡ true → b ≡ false
not-true true e = absurd (cc)
not-true false e = refl

-- and so for every entry that may stand
pub totals-after : (head : Head) (w : World) (e : Entry) → Allowed head w e → UnitsApart w → OnCourse w → NoneLeft w.begun w.records
    → Totals head w (after head w e) (reserves_more w e.who e.act) (reserves_less w e.who e.act)
    (needs_more w e.who e.act) (needs_less w e.who e.act)
totals-after head w e al s co n = totals-by head w e.who e.act (not-true w.pace.finished al.0) al.2 s co n
