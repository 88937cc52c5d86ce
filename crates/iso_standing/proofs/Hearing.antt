-- What is heard of the entry that a connection makes: a lock on a table that was asked for is then held, or awaited.
use Rattle.std.proofs.Common.{◌≡◌, inl, inr, Bool, true, false, not, List, [], ◌∷◌, refl, ap, sym, ◌∙◌, subst, Some, None, Option, if◌then◌else◌}
use Rattle.std.specs.Option.{option_map_or}
use Rattle.iso_conduct.proofs.Needs.{Asked, HeardOk, Locked, any-told}
use Rattle.iso_conduct.proofs.Promised.{Promised, placed-held}
use Rattle.iso_conduct.specs.Conduct.{heard, made}
use Rattle.iso_conduct.specs.Outcomes.{act_of}
use Rattle.iso_conduct.specs.Parts.{Part}
use Rattle.iso_conduct.specs.Parts.Part.{Asks, Collapses}
use Rattle.iso_conduct.specs.Points.{Point, due_by, row_due, rows_due}
use Rattle.iso_conduct.specs.declared.moves.Told.{Told}
use Rattle.iso_history.proofs.locks.Joins.{runs-alone}
use Rattle.iso_history.proofs.pending.ModeTests.{at_least-second}
use Rattle.iso_history.proofs.phantoms.FitWaits.{wait-queued_own}
use Rattle.iso_history.specs.After.{after}
use Rattle.iso_history.specs.Facts.{LocksSound}
use Rattle.iso_history.specs.Legal.{ByAgent}
use Rattle.iso_history.specs.Makers.{by_agent}
use Rattle.iso_history.specs.Marks.{mark_of}
use Rattle.iso_history.specs.Outcomes.{asked_by, at_limit, escalated_by, limited_by, unless_full}
use Rattle.iso_history.specs.Requests.{Outcome, asking, escalation, is_had, is_limited, need_of, request}
use Rattle.iso_history.specs.Requests.Outcome.{Gives, Limit}
use Rattle.iso_history.specs.Stops.{is_full}
use Rattle.iso_history.specs.World.{World}
use Rattle.iso_history.specs.declared.entry.Act.{Act}
use Rattle.iso_history.specs.declared.entry.Act.TheVariants.{Back, Claim, Collapse, Delete, Free, Insert, Lock, Look, Mark, Next, Refused, ScanEnd, Set, Stopped, Undo, Update}
use Rattle.iso_history.specs.declared.entry.Cause.TheVariants.{History}
use Rattle.iso_history.specs.declared.entry.Got.{Got}
use Rattle.iso_history.specs.declared.entry.Stand.{Stand}
use Rattle.iso_history.specs.declared.entry.Why.TheVariants as why
use Rattle.iso_modes.specs.Modes.{at_least, joined}
use Rattle.iso_modes.specs.declared.Mode.{Mode}
use Rattle.iso_modes.specs.declared.Term.TheVariants.{Kept}
use Rattle.iso_queue.specs.Locks.{held, target}
use Rattle.iso_queue.specs.Queues.{Wait, would_wait}
use Rattle.iso_types.specs.declared.head.Head.{Head}
use Rattle.iso_types.specs.declared.value.Conn.{Conn}
use Rattle.iso_types.specs.declared.value.Name.TheVariants.{End, Key, Row, Table}
use Rattle.iso_types.specs.declared.value.TableId.{TableId}

module _ (head : Head) (c : Conn) (g : Locked) (p : Point) where
  escalated-second : (u : TableId) → Asked head g (Collapses u ∷ p.left)
  escalated-second u t m rest e = cc

  act-ok : (w v : World) → Asked head g p.left → (a : Act) → HeardOk head g p (heard w v c a)
  act-ok w v ok (Lock n m t y Got.TimedOut) = (tt, tt)
  act-ok w v ok (Lock n m t why.Asked Got.Granted) = (ok, tt)
  act-ok w v ok (Lock n m t why.Asked (Got.Queued q)) = (ok, tt)
  act-ok w v ok (Lock (Table u) m t why.Escalation Got.Granted) = (tt, tt)
  act-ok w v ok (Lock (Table u) m t why.Escalation (Got.Queued q)) = (tt, (escalated-second u, tt))
  act-ok w v ok (Lock (Row u r) m t why.Escalation Got.Granted) = tt
  act-ok w v ok (Lock (Row u r) m t why.Escalation (Got.Queued q)) = tt
  act-ok w v ok (Lock (Key i k) m t why.Escalation Got.Granted) = tt
  act-ok w v ok (Lock (Key i k) m t why.Escalation (Got.Queued q)) = tt
  act-ok w v ok (Lock (End i) m t why.Escalation Got.Granted) = tt
  act-ok w v ok (Lock (End i) m t why.Escalation (Got.Queued q)) = tt
  act-ok w v ok (Lock n m t why.Blocked Got.Granted) = tt
  act-ok w v ok (Lock n m t why.Blocked (Got.Queued q)) = (tt, tt)
  act-ok w v ok Claim = (ok, tt)
  act-ok w v ok (Look t r want Got.Granted) = (tt, tt)
  act-ok w v ok (Look t r want (Got.Queued q)) = (ok, tt)
  act-ok w v ok (Look t r want Got.TimedOut) = (tt, tt)
  act-ok w v ok (ScanEnd t n) = (ok, tt)
  act-ok w v ok (Next i range at guarded (Stand.At k r)) = (tt, tt)
  act-ok w v ok (Next i range at guarded Stand.Past) = (ok, tt)
  act-ok w v ok (Next i range at guarded (Stand.Queued n)) = (ok, tt)
  act-ok w v ok (Next i range at guarded (Stand.TimedOut n)) = (tt, tt)
  act-ok w v ok (Free t r) = (ok, tt)
  act-ok w v ok (Collapse t m) = (ok, tt)
  act-ok w v ok (Insert t r row) = (ok, tt)
  act-ok w v ok (Update t r row) = (ok, tt)
  act-ok w v ok (Delete t r) = (ok, tt)
  act-ok w v ok (Refused code) = (tt, tt)
  act-ok w v ok (Undo n) = (tt, tt)
  act-ok w v ok (Mark name) = (ok, tt)
  act-ok w v ok (Back name) = (any-told head g p.left ok (Told.Floor (mark_of (w.marks c) name)), tt)
  act-ok w v ok (Set level may_wait) = (ok, tt)
  act-ok w v ok _ = tt

  -- at the lock limit
  limit-ok : (w v : World) → HeardOk head g p (heard w v c (at_limit head w c))
  limit-ok w v = go (escalation head w c)
    where
      one : (q : TableId × Mode) (o : Outcome) → HeardOk head g p (heard w v c (escalated_by q.0 q.1 o))
      one q (Gives Got.Granted) = (tt, tt)
      one q (Gives (Got.Queued x)) = (tt, (escalated-second q.0, tt))
      one q (Gives Got.TimedOut) = (tt, tt)
      one q Limit = (tt, tt)

      go : (o : Option (TableId × Mode)) → HeardOk head g p (heard w v c (limited_by head w c o))
      go None = (tt, tt)
      go (Some q) = one q (request head w c (Table q.0) q.1)

-- what a request queues for is its target
queued_for : (had limited waits may_wait : Bool) (q r : Mode)
    → (if had then Gives Got.Granted else if limited then Limit else if not waits then Gives Got.Granted else
    if may_wait then Gives (Got.Queued q) else Gives Got.TimedOut) ≡ Gives (Got.Queued r)
    → q ≡ r
queued_for true limited waits may_wait q r e = cc
queued_for false true waits may_wait q r e = cc
queued_for false false false may_wait q r e = cc
queued_for false false true true q r e = cc
queued_for false false true false q r e = cc

-- a target is at least what is asked for
at-target : (o : Option Mode) (m k : Mode) → at_least m k ≡ true → at_least (option_map_or (λ h. joined h m) o m) k ≡ true
at-target None m k e = e
at-target (Some h) m k e = at_least-second k h m e

abbrev is_table_ask : List Part → Bool
is_table_ask (Asks (Table t) m ∷ ps) = true
is_table_ask _ = false

table-ask : (ps : List Part) → is_table_ask ps ≡ true → (t : TableId) × (m : Mode) × (rest : List Part) × (ps ≡ Asks (Table t) m ∷ rest)
table-ask [] e = cc
table-ask (Asks (Table t) m ∷ ps) e = (t, m, ps, refl)
table-ask (Asks (Row t r) m ∷ ps) e = cc
table-ask (Asks (Key i v) m ∷ ps) e = cc
table-ask (Asks (End i) m ∷ ps) e = cc
table-ask (x ∷ ps) e = cc

module _ (head : Head) (c : Conn) (w : World) (s : LocksSound head w) (p : Point) where
  -- what is heard of this act is as it asks, in the world behind it
  abbrev pub IsOk : Act → Type 0
  IsOk a = HeardOk head (Promised (after head w (by_agent c a)) c) p (heard w (after head w (by_agent c a)) c a)

  module _ (t : TableId) (m : Mode) (rest : List Part) (e : p.left ≡ Asks (Table t) m ∷ rest) where
    -- the lock that the first part asks for
    asked-of : (g : Locked) → ((k : Mode) → at_least m k ≡ true → g t k) → Asked head g p.left
    asked-of g had u k others f j h =
        let q : Asks (Table u) k ∷ others ≡ Asks (Table t) m ∷ rest = sym f ∙ e in
        let tables : t ≡ u = cc in
        let modes : k ≡ m = cc in
        subst (λ z. g z j) tables (had j (subst (λ z. at_least z j ≡ true) modes h))

    asked-ok : (o : Outcome) → request head w c (Table t) m ≡ o → ByAgent head w c (asked_by head w c (Table t) m o)
        → IsOk (asked_by head w c (Table t) m o)
    asked-ok (Gives Got.Granted) r al =
        let a = Lock (Table t) m Kept why.Asked Got.Granted in
        let v = after head w (by_agent c a) in
        act-ok head c (Promised v c) p w v (asked-of (Promised v c) (λ k h. inl (placed-held head w c s a al t m k Kept refl h))) a
    asked-ok (Gives (Got.Queued q)) r al =
        let a = Lock (Table t) m Kept why.Asked (Got.Queued q) in
        let v = after head w (by_agent c a) in
        let x : Wait = record { name = Table t; conn = c; target = q; term = Kept } in
        let is : target w.holds c (Table t) m ≡ q =
        queued_for (is_had head w c (Table t) m) (is_limited head w c (need_of w c (Table t))) (would_wait w.holds w.waits (asking w c (Table t) m))
        (w.setting c).may_wait (target w.holds c (Table t) m) q r in
        act-ok head c (Promised v c) p w v (asked-of (Promised v c) (λ k h. inr (inl (
          x,
          wait-queued_own w.holds x w.waits (runs-alone w c al.0.0),
          refl,
          subst (λ z. at_least z k ≡ true) is (at-target (held w.holds c (Table t)) m k h),
        )))) a
    asked-ok (Gives Got.TimedOut) r al = (tt, tt)
    asked-ok Limit r al =
        let v = after head w (by_agent c (at_limit head w c)) in
        limit-ok head c (Promised v c) p w v

    table-ok : ByAgent head w c (made head w c p) → IsOk (made head w c p)
    table-ok al =
        subst IsOk (sym is) (go (is_full head w (by_agent c act)) (subst (ByAgent head w c) is al))
      where
        act : Act
        act = asked_by head w c (Table t) m (request head w c (Table t) m)

        is : made head w c p ≡ unless_full head w c act
        is = ap (λ mv. unless_full head w c (act_of head w c (row_due p) (rows_due p) mv)) (ap (due_by p.kept) e)

        go : (b : Bool) → ByAgent head w c (if b then Stopped History else act) → IsOk (if b then Stopped History else act)
        go true al = tt
        go false al = asked-ok (request head w c (Table t) m) refl al

  -- what is heard of the entry that is made
  pub made-ok : ByAgent head w c (made head w c p) → IsOk (made head w c p)
  made-ok al = go (is_table_ask p.left) refl
    where
      go : (b : Bool) → is_table_ask p.left ≡ b → IsOk (made head w c p)
      go true e = let q = table-ask p.left e in table-ok q.0 q.1 q.2 q.3 al
      go false e =
          let v = after head w (by_agent c (made head w c p)) in
          act-ok head c (Promised v c) p w v (λ t m rest f. absurd (none (sym e ∙ ap is_table_ask f))) (made head w c p)
        where
          none : false ≡ true → ⊥
          none h = cc
