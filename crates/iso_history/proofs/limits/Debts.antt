-- By how much each entry moves the debt, the number of changes of open units that are not undone.
use Rattle.std.proofs.Common.{◌≡◌, ◌+◌, ◌<◌, inr, ℕ, Bool, true, false, [], length, refl, ap, sym, ◌∙◌, arith, Some, None, Option, subst}
use Rattle.std.specs.Option.{option_map_or}
use Rattle.std.specs.Prelude.{unwrap_or}
use Rattle.iso_history.specs.After.{after}
use Rattle.iso_history.specs.Courses.{CourseAt, NoneLeft, OnCourse}
use Rattle.iso_history.specs.Facts.{UnitsApart}
use Rattle.iso_history.specs.Legal.{Allowed, By, ByAgent, ByDispatcher}
use Rattle.iso_history.specs.Records.{debt, left, left_of}
use Rattle.iso_history.specs.Reserves.{debt_less, debt_more}
use Rattle.iso_history.specs.World.{World}
use Rattle.iso_history.specs.declared.entry.Act.{Act}
use Rattle.iso_history.specs.declared.entry.Act.TheVariants.{Commit, Delete, Dispatch, Insert, Rollback, Undo, Update}
use Rattle.iso_history.specs.declared.entry.Entry.{Entry}
use Rattle.iso_history.specs.declared.entry.Who.{Who}
use Rattle.iso_history.specs.declared.entry.Who.TheVariants.{Agent, Dispatcher}
use Rattle.iso_types.specs.Head.{is_conn}
use Rattle.iso_types.specs.Ids.{conn_eq}
use Rattle.iso_types.specs.declared.head.Head.{Head}
use Rattle.iso_types.specs.declared.value.Conn.{Conn}
use Rattle.iso_history.proofs.limits.Begun.{undo-unit}
use Rattle.iso_history.proofs.limits.Courses.{running-unit}
use Rattle.iso_history.proofs.limits.LeftOf.{left_of-add, left_of-none, left_of-other, left_of-take}
use Rattle.iso_history.specs.Makers.{by_agent, by_dispatcher}
use Rattle.iso_history.proofs.limits.Others.{at-same, others-dispatch}
use Rattle.iso_history.proofs.limits.Sums.{conns-moved, conns-same}
use Rattle.iso_history.proofs.limits.Totals.{left_of-kept}
use Rattle.iso_history.proofs.limits.Waiting.{conn_eq-is}

-- how much a connection has left to undo
abbrev pub owes : World → Conn → ℕ
owes w c = length (left_of w c)

-- an agent's entry, at its maker
pub owes-agent : (head : Head) (w : World) (c : Conn) (a : Act) → ByAgent head w c a → CourseAt w c → NoneLeft w.begun w.records
    → owes (after head w (by_agent c a)) c + debt_less w (Agent c) a ≡ owes w c + debt_more a
owes-agent head w c (Insert t r row) al s n =
    let m : owes (after head w (by_agent c (Insert t r row))) c ≡ owes w c + 1 = left_of-add w c _ (running-unit w c s al.0.0) refl refl in omega (arith, m)
owes-agent head w c (Update t r row) al s n =
    let m : owes (after head w (by_agent c (Update t r row))) c ≡ owes w c + 1 = left_of-add w c _ (running-unit w c s al.0.0) refl refl in omega (arith, m)
owes-agent head w c (Delete t r) al s n =
    let m : owes (after head w (by_agent c (Delete t r))) c ≡ owes w c + 1 = left_of-add w c _ (running-unit w c s al.0.0) refl refl in omega (arith, m)
owes-agent head w c (Undo k) al s n =
    let m : owes (after head w (by_agent c (Undo k))) c + 1 ≡ owes w c = left_of-take w c _ k (undo-unit w c k n al.1) refl refl al.1 in omega (arith, m)
owes-agent head w c Commit al s n =
    let m = ap length (left_of-none (after head w (by_agent c Commit)) c (at-same w.unit c None)) in omega (arith, m)
owes-agent head w c (Rollback code reason) al s n =
    let m = ap length (left_of-none (after head w (by_agent c (Rollback code reason))) c (at-same w.unit c None)) in
    let k = ap length al.1 in omega (arith, m, k)
owes-agent head w c Act.Ended al s n =
    let m = ap length (left_of-none (after head w (by_agent c Act.Ended)) c (at-same w.unit c None)) in
    let k = ap length al.1 in omega (arith, m, k)
owes-agent head w c _ al s n = refl

-- and at the others
pub owes-other : (head : Head) (w : World) (c : Conn) (a : Act) (d : Conn) → ByAgent head w c a → UnitsApart w → CourseAt w c
    → NoneLeft w.begun w.records → conn_eq d c ≡ false → owes (after head w (by_agent c a)) d ≡ owes w d
owes-other head w c a d al s co n e = ap length (left_of-other head w c a d al s co n e)

-- a Dispatch leaves what its connection has left
pub left_of-dispatch : (head : Head) (w : World) (line : ℕ) (c : Conn) → NoneLeft w.begun w.records
    → left_of (after head w (by_dispatcher (Dispatch line c))) c ≡ left_of w c
unfolding NoneLeft
left_of-dispatch head w line c n =
    ap (λ o. option_map_or (left w.records) o []) (at-same w.unit c (Some (unwrap_or (w.unit c) (w.begun + 1)))) ∙ go (w.unit c) refl
  where
    past : w.begun < w.begun + 1
    past = omega arith

    go : (o : Option ℕ) → w.unit c ≡ o → left w.records (unwrap_or o (w.begun + 1)) ≡ option_map_or (left w.records) o []
    go None e = n (w.begun + 1) (inr past)
    go (Some u) e = refl

debt-agent : (head : Head) (w : World) (c : Conn) (a : Act) → is_conn head c ≡ true → ByAgent head w c a → UnitsApart w → CourseAt w c
    → NoneLeft w.begun w.records → debt head (after head w (by_agent c a)) + debt_less w (Agent c) a ≡ debt head w + debt_more a
debt-agent head w c a is al s co n =
    conns-moved head (owes w) (owes (after head w (by_agent c a))) c _ _ is (λ d e. owes-other head w c a d al s co n e)
    (owes-agent head w c a al co n)

debt-dispatcher : (head : Head) (w : World) (a : Act) → ByDispatcher head w a → NoneLeft w.begun w.records
    → debt head (after head w (by_dispatcher a)) + debt_less w Dispatcher a ≡ debt head w + debt_more a
debt-dispatcher head w (Dispatch line c) al n =
    let same = conns-same head (owes w) (owes (after head w (by_dispatcher (Dispatch line c)))) (λ d. go d (conn_eq d c) refl) in
    ap (λ k. k + 0) same
  where
    go : (d : Conn) (b : Bool) → conn_eq d c ≡ b → owes (after head w (by_dispatcher (Dispatch line c))) d ≡ owes w d
    go d true e =
        subst (λ x. owes (after head w (by_dispatcher (Dispatch line c))) x ≡ owes w x)
        (sym (conn_eq-is d c e)) (ap length (left_of-dispatch head w line c n))
    go d false e = ap length (left_of-kept w (after head w (by_dispatcher (Dispatch line c))) d refl (others-dispatch head w line c d e))
debt-dispatcher head w (Insert t r row) al n = absurd al
debt-dispatcher head w (Update t r row) al n = absurd al
debt-dispatcher head w (Delete t r) al n = absurd al
debt-dispatcher head w (Undo k) al n = absurd al
debt-dispatcher head w _ al n = refl

-- the equation on the debt, for every entry that its maker may make
pub debt-by : (head : Head) (w : World) (who : Who) (a : Act) → By head w who a → UnitsApart w → OnCourse w → NoneLeft w.begun w.records
    → debt head (after head w (record { who = who; act = a })) + debt_less w who a ≡ debt head w + debt_more a
debt-by head w Dispatcher a al s co n = debt-dispatcher head w a al n
debt-by head w (Agent c) a al s co n = debt-agent head w c a al.0 al.1 s (co.each c) n

pub debt-after : (head : Head) (w : World) (e : Entry) → Allowed head w e → UnitsApart w → OnCourse w → NoneLeft w.begun w.records
    → debt head (after head w e) + debt_less w e.who e.act ≡ debt head w + debt_more e.act
debt-after head w e al s co n = debt-by head w e.who e.act al.2 s co n
