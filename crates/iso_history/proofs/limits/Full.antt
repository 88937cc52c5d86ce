-- A full step is told from the number of entries and the sum of all reserves, and its maker may stop in its place.
use Rattle.std.proofs.Common.{◌≡◌, ◌+◌, ◌≤◌, ℕ, Bool, true, false, not, ◌&&◌, ◌||◌, refl, ap, arith, is_some, is_none}
use Rattle.std.specs.Prelude.{if◌then◌else◌, nat_lt}
use Rattle.std.proofs.lemmas.Bool.Decides.{nat_tests}
use Rattle.iso_history.specs.Courses.{NoneLeft, OnCourse}
use Rattle.iso_history.specs.Entries.{least_purgeable}
use Rattle.iso_history.specs.Facts.{UnitsApart}
use Rattle.iso_history.specs.Legal.{Allowed, By, ByAgent, ByDispatcher}
use Rattle.iso_history.specs.Phases.{is_phase, phase, waits_grantable}
use Rattle.iso_history.specs.Quiet.{may_take}
use Rattle.iso_history.specs.Reserves.{raised_by_agent, raised_by_dispatcher, reserves_less, reserves_more}
use Rattle.iso_history.specs.Stops.{history_limit, is_full, is_never_refused, may_be_full, may_halt, may_stop, reserves}
use Rattle.iso_history.specs.World.{World}
use Rattle.iso_history.specs.declared.entry.Act.{Act}
use Rattle.iso_history.specs.declared.entry.Act.TheVariants.{Back, Busy, Claim, Close, Collapse, Commit, Delete, Dispatch, Expire, Finish, Free, Insert, Lock, Look, Mark, Next, Purge, Refused, Reply, Rollback, ScanEnd, Set, Snapshot, Stopped, Undo, Update, Victim}
use Rattle.iso_history.specs.declared.entry.Cause.TheVariants.{History}
use Rattle.iso_history.specs.declared.entry.Who.{Who}
use Rattle.iso_history.specs.declared.entry.Who.TheVariants.{Agent, Dispatcher}
use Rattle.iso_types.specs.declared.desk.Phase.TheVariants.{Running}
use Rattle.iso_types.specs.declared.head.Head.{Head}
use Rattle.iso_types.specs.declared.value.Conn.{Conn}
use Rattle.iso_history.proofs.limits.Moves.{and-left}
use Rattle.iso_history.specs.Makers.{by_agent, by_dispatcher}
use Rattle.iso_history.proofs.limits.Totals.{totals-by}

test-same : (a b : ℕ) → a ≡ b → nat_lt history_limit a ≡ nat_lt history_limit b
test-same a b e = ap (nat_lt history_limit) e

-- fullness of a step that takes nothing off the reserves
pub fullness : (head : Head) (w : World) (who : Who) (a : Act) → w.pace.finished ≡ false → By head w who a → UnitsApart w → OnCourse w
    → NoneLeft w.begun w.records → is_never_refused a ≡ false → reserves_less w who a ≡ 0
    → is_full head w (record { who = who; act = a }) ≡ may_be_full head w (reserves_more w who a)
fullness head w who a f al s co n never less =
    let t = (totals-by head w who a f al s co n).reserves_move in
    rw never (test-same _ _ (added w.made _ _ _ _ t less))
  where
    added : (m b r x y : ℕ) → b + y ≡ r + x → y ≡ 0 → m + 1 + b ≡ m + 1 + r + x
    added m b r x y e z = omega (arith, e, z)

-- fullness of a request that timed out
pub fullness-timed_out : (head : Head) (w : World) (who : Who) (a : Act) → w.pace.finished ≡ false → By head w who a → UnitsApart w
    → OnCourse w → NoneLeft w.begun w.records → is_never_refused a ≡ false → reserves_less w who a ≡ 1 → reserves_more w who a ≡ 0
    → is_full head w (record { who = who; act = a }) ≡ nat_lt history_limit (w.made + reserves head w)
fullness-timed_out head w who a f al s co n never less more =
    let t = (totals-by head w who a f al s co n).reserves_move in
    rw never (test-same _ _ (taken w.made _ _ _ _ t less more))
  where
    taken : (m b r x y : ℕ) → b + y ≡ r + x → y ≡ 1 → x ≡ 0 → m + 1 + b ≡ m + r
    taken m b r x y e z k = omega (arith, e, z, k)

-- an agent whose step may be refused runs, or waits and is grantable
agent-able : (head : Head) (w : World) (c : Conn) (a : Act) → ByAgent head w c a → is_never_refused a ≡ false
    → (is_phase (phase w c) Running || waits_grantable w c) ≡ true
agent-able head w c (Lock n m t why got) al e = rw (al.0.0) refl
agent-able head w c Claim al e = either (is_phase (phase w c) Running) (waits_grantable w c) al
  where
    either : (a b : Bool) → b ≡ true → (a || b) ≡ true
    either true b e = refl
    either false b e = e
agent-able head w c (Look t r want got) al e = rw (al.0.0) refl
agent-able head w c (ScanEnd t k) al e = rw (al.0.0) refl
agent-able head w c (Next i range at guarded got) al e = rw (al.0.0) refl
agent-able head w c (Free t r) al e = rw (al.0.0) refl
agent-able head w c (Collapse t m) al e = rw (al.0) refl
agent-able head w c (Insert t r row) al e = rw (al.0.0) refl
agent-able head w c (Update t r row) al e = rw (al.0.0) refl
agent-able head w c (Delete t r) al e = rw (al.0.0) refl
agent-able head w c (Refused code) al e = rw (al.0.0) refl
agent-able head w c (Mark name) al e = rw (al.0) refl
agent-able head w c (Back name) al e = rw (al.0.0) refl
agent-able head w c (Set level may_wait) al e = rw (al.0) refl
agent-able head w c (Reply code changed rows) al e = rw (al.0) refl
agent-able head w c (Undo k) al e = absurd (cc)
agent-able head w c Commit al e = absurd (cc)
agent-able head w c (Rollback code reason) al e = absurd (cc)
agent-able head w c Act.Ended al e = absurd (cc)
agent-able head w c (Stopped cause) al e = absurd (cc)
agent-able head w c _ al e = absurd al

-- a full step, with room for the sum after it
may-be-full : (made before later more top : ℕ) → later ≤ before + more → nat_lt top (made + 1 + later) ≡ true
    → nat_lt top (made + 1 + before + more) ≡ true
may-be-full made before later more top le e = less _ _ _ e (omega (arith, le))
  where
    less : (t a b : ℕ) → nat_lt t a ≡ true → a ≤ b → nat_lt t b ≡ true
    less t a b e le = grind (arith, nat_tests)

-- a full act may be refused, and passes the limit
full-is : (never test : Bool) → (not never && test) ≡ true → (never ≡ false) × (test ≡ true)
full-is true test e = absurd (cc)
full-is false test e = (refl, e)

raised-agent : (a : Act) → raised_by_agent a ≤ 1
raised-agent (Insert t r row) = omega arith
raised-agent (Update t r row) = omega arith
raised-agent (Delete t r) = omega arith
raised-agent _ = omega arith

raised-dispatcher : (w : World) (a : Act) → raised_by_dispatcher w a ≤ 2
raised-dispatcher w (Dispatch line c) = either (is_some (w.unit c))
  where
    either : (b : Bool) → (if b then 0 else 2) ≤ 2
    either true = omega arith
    either false = omega arith
raised-dispatcher w (Close c) = either (is_some (w.unit c))
  where
    either : (b : Bool) → (if b then 0 else 1) ≤ 2
    either true = omega arith
    either false = omega arith
raised-dispatcher w _ = omega arith

-- where an agent's step is full, its Stopped may stand
pub full-may_stop : (head : Head) (w : World) (c : Conn) (a : Act) → w.pace.finished ≡ false → By head w (Agent c) a → UnitsApart w
    → OnCourse w → NoneLeft w.begun w.records → is_full head w (by_agent c a) ≡ true → may_stop head w c History ≡ true
full-may_stop head w c a f al s co n full =
    let h = full-is (is_never_refused a) _ full in
    let t = (totals-by head w (Agent c) a f al s co n).reserves_move in
    let le = most _ _ _ _ t (raised-agent a) in
    both (is_phase (phase w c) Running || waits_grantable w c) _ (agent-able head w c a al.1 h.0)
    (may-be-full w.made _ _ 1 history_limit le h.1)
  where
    most : (b r x y : ℕ) → b + y ≡ r + x → x ≤ 1 → b ≤ r + 1
    most b r x y e le = omega (arith, e, le)

    both : (a b : Bool) → a ≡ true → b ≡ true → (a && b) ≡ true
    both a b e f = rw (e, f) refl

-- and may be appended
pub stopped-allowed : (head : Head) (w : World) (c : Conn) (a : Act) → w.pace.finished ≡ false → By head w (Agent c) a → UnitsApart w
    → OnCourse w → NoneLeft w.begun w.records → is_full head w (by_agent c a) ≡ true → Allowed head w (by_agent c (Stopped History))
stopped-allowed head w c a f al s co n full = (rw f refl, refl, (al.0, full-may_stop head w c a f al s co n full))

-- a line is taken only where nobody has stopped
take-unstopped : (head : Head) (w : World) → may_take head w ≡ true → not w.pace.stopped ≡ true
take-unstopped head w e = and-left (not w.pace.stopped) (w.pace.purged || is_none (least_purgeable head w)) e

-- the dispatcher's step may be refused only where nobody has stopped
dispatcher-able : (head : Head) (w : World) (a : Act) → ByDispatcher head w a → is_never_refused a ≡ false → not w.pace.stopped ≡ true
dispatcher-able head w (Dispatch line c) al e = take-unstopped head w al.2
dispatcher-able head w (Busy line c) al e = take-unstopped head w al.2
dispatcher-able head w (Expire line c ended) al e = take-unstopped head w al.2
dispatcher-able head w (Snapshot line locks) al e = take-unstopped head w al.1
dispatcher-able head w (Purge i key r) al e = al.0
dispatcher-able head w (Victim cycle) al e = absurd (cc)
dispatcher-able head w (Close c) al e = absurd (cc)
dispatcher-able head w (Stopped cause) al e = absurd (cc)
dispatcher-able head w Finish al e = absurd (cc)
dispatcher-able head w _ al e = absurd al

-- where the dispatcher's step is full, its Stopped may stand
pub full-may_halt : (head : Head) (w : World) (a : Act) → w.pace.finished ≡ false → ByDispatcher head w a → UnitsApart w
    → OnCourse w → NoneLeft w.begun w.records → is_full head w (by_dispatcher a) ≡ true → may_halt head w History ≡ true
full-may_halt head w a f al s co n full =
    let h = full-is (is_never_refused a) _ full in
    let t = (totals-by head w Dispatcher a f al s co n).reserves_move in
    let le = most _ _ _ _ t (raised-dispatcher w a) in
    both (not w.pace.stopped) _ (dispatcher-able head w a al h.0) (may-be-full w.made _ _ 2 history_limit le h.1)
  where
    most : (b r x y : ℕ) → b + y ≡ r + x → x ≤ 2 → b ≤ r + 2
    most b r x y e le = omega (arith, e, le)

    both : (a b : Bool) → a ≡ true → b ≡ true → (a && b) ≡ true
    both a b e f = rw (e, f) refl

-- and may be appended
pub halted-allowed : (head : Head) (w : World) (a : Act) → w.pace.finished ≡ false → ByDispatcher head w a → UnitsApart w
    → OnCourse w → NoneLeft w.begun w.records → is_full head w (by_dispatcher a) ≡ true → Allowed head w (by_dispatcher (Stopped History))
halted-allowed head w a f al s co n full = (rw f refl, refl, full-may_halt head w a f al s co n full)
