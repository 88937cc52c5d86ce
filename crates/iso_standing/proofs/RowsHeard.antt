-- What is heard of the entry of a step is as the changes of a statement ask: the row of a lock is locked or awaited.
use Rattle.std.proofs.Common.{◌≡◌, inl, inr, Bool, true, false, List, ◌∷◌, refl, sym, ◌∙◌, subst, Some, None, Option, if◌then◌else◌}
use Rattle.std.specs.Option.{option_map_or}
use Rattle.iso_conduct.specs.Conduct.{heard}
use Rattle.iso_conduct.specs.Parts.{Part}
use Rattle.iso_conduct.specs.Parts.Part.{Asks, Collapses}
use Rattle.iso_conduct.specs.Points.{Point}
use Rattle.iso_history.proofs.locks.Joins.{runs-alone}
use Rattle.iso_history.proofs.pending.ModeTests.{at_least-second}
use Rattle.iso_history.proofs.phantoms.FitWaits.{request-queued, wait-queued_own}
use Rattle.iso_history.specs.After.{after}
use Rattle.iso_history.specs.Facts.{IsSound}
use Rattle.iso_history.specs.Legal.{Allowed, By}
use Rattle.iso_history.specs.Looks.{shown}
use Rattle.iso_history.specs.Makers.{by_agent}
use Rattle.iso_history.specs.Outcomes.{asked_by, at_limit, escalated_by, limited_by, unless_full}
use Rattle.iso_history.specs.Requests.{Outcome, escalation, request}
use Rattle.iso_history.specs.Requests.Outcome.{Gives, Limit}
use Rattle.iso_history.specs.Stops.{is_full}
use Rattle.iso_history.specs.World.{World}
use Rattle.iso_history.specs.declared.entry.Act.{Act}
use Rattle.iso_history.specs.declared.entry.Act.TheVariants.{Back, Claim, Collapse, Delete, Free, Insert, Lock, Look, Mark, Next, Refused, ScanEnd, Set, Stopped, Undo, Update}
use Rattle.iso_history.specs.declared.entry.Cause.TheVariants.{History}
use Rattle.iso_history.specs.declared.entry.Got.{Got}
use Rattle.iso_history.specs.declared.entry.Stand.{Stand}
use Rattle.iso_history.specs.declared.entry.Who.TheVariants.{Agent}
use Rattle.iso_history.specs.declared.entry.Why.TheVariants as why
use Rattle.iso_modes.specs.Modes.{at_least, joined, mode_eq, mode_number}
use Rattle.iso_modes.specs.declared.Mode.{Mode}
use Rattle.iso_modes.specs.declared.Mode.TheVariants.{X}
use Rattle.iso_modes.specs.declared.Term.TheVariants.{Kept}
use Rattle.iso_queue.specs.Locks.{held}
use Rattle.iso_queue.specs.Queues.{Wait}
use Rattle.iso_standing.proofs.KeptRows.{Seen, Such}
use Rattle.iso_standing.proofs.RowLooks.{Shows, Stands}
use Rattle.iso_standing.proofs.RowNeeds.{Written}
use Rattle.iso_standing.proofs.RowTold.{RowAsked, RowsTold}
use Rattle.iso_standing.proofs.RowsFirm.{Firm}
use Rattle.iso_standing.proofs.RowsLocked.{LocksRow, placed-writes}
use Rattle.iso_standing.proofs.RowsMade.{made_by}
use Rattle.iso_standing.proofs.RowsSeen.{Sees}
use Rattle.iso_types.specs.declared.head.Head.{Head}
use Rattle.iso_types.specs.declared.value.Conn.{Conn}
use Rattle.iso_types.specs.declared.value.Name.TheVariants.{End, Key, Row, Table}
use Rattle.iso_types.specs.declared.value.Rid.{Rid}
use Rattle.iso_types.specs.declared.value.TableId.{TableId}
use Rattle.iso_types.specs.declared.value.Value.{Value}

-- ---- of any entry

module _ (head : Head) (c : Conn) (see : Seen) (firm : Such) (g : Written) (p : Point) where
  no-row : (u : TableId) → RowAsked g (Collapses u ∷ p.left)
  no-row u t r m rest e = cc

  -- where the first part asks for no row, or it is locked, what is shown is seen, and an entry is behind the place
  pub act-told : (w v : World) → RowAsked g p.left → ((sh : Option (List Value)) → Shows head see firm p.kept p.left sh)
      → ((key : Value) (r : Rid) → Stands p.left key r) → (a : Act) → RowsTold head see firm g p (heard w v c a)
  act-told w v ok sees stands (Lock n m t y Got.TimedOut) = (tt, tt)
  act-told w v ok sees stands (Lock n m t why.Asked Got.Granted) = (ok, tt)
  act-told w v ok sees stands (Lock n m t why.Asked (Got.Queued q)) = (ok, tt)
  act-told w v ok sees stands (Lock (Table u) m t why.Escalation Got.Granted) = (tt, tt)
  act-told w v ok sees stands (Lock (Table u) m t why.Escalation (Got.Queued q)) = (tt, (no-row u, tt))
  act-told w v ok sees stands (Lock (Row u r) m t why.Escalation Got.Granted) = tt
  act-told w v ok sees stands (Lock (Row u r) m t why.Escalation (Got.Queued q)) = tt
  act-told w v ok sees stands (Lock (Key i k) m t why.Escalation Got.Granted) = tt
  act-told w v ok sees stands (Lock (Key i k) m t why.Escalation (Got.Queued q)) = tt
  act-told w v ok sees stands (Lock (End i) m t why.Escalation Got.Granted) = tt
  act-told w v ok sees stands (Lock (End i) m t why.Escalation (Got.Queued q)) = tt
  act-told w v ok sees stands (Lock n m t why.Blocked Got.Granted) = tt
  act-told w v ok sees stands (Lock n m t why.Blocked (Got.Queued q)) = (tt, tt)
  act-told w v ok sees stands Claim = (ok, tt)
  act-told w v ok sees stands (Look t r want Got.Granted) = (sees (shown w c t r want), tt)
  act-told w v ok sees stands (Look t r want (Got.Queued q)) = (ok, tt)
  act-told w v ok sees stands (Look t r want Got.TimedOut) = (tt, tt)
  act-told w v ok sees stands (ScanEnd t n) = (tt, tt)
  act-told w v ok sees stands (Next i range at guarded (Stand.At k r)) = (stands k r, tt)
  act-told w v ok sees stands (Next i range at guarded Stand.Past) = (tt, tt)
  act-told w v ok sees stands (Next i range at guarded (Stand.Queued n)) = (ok, tt)
  act-told w v ok sees stands (Next i range at guarded (Stand.TimedOut n)) = (tt, tt)
  act-told w v ok sees stands (Free t r) = (ok, tt)
  act-told w v ok sees stands (Collapse t m) = (ok, tt)
  act-told w v ok sees stands (Insert t r row) = (ok, tt)
  act-told w v ok sees stands (Update t r row) = (ok, tt)
  act-told w v ok sees stands (Delete t r) = (ok, tt)
  act-told w v ok sees stands (Refused code) = (tt, tt)
  act-told w v ok sees stands (Undo n) = (tt, tt)
  act-told w v ok sees stands (Mark name) = (ok, tt)
  act-told w v ok sees stands (Back name) = (tt, tt)
  act-told w v ok sees stands (Set level may_wait) = (ok, tt)
  act-told w v ok sees stands _ = tt

  -- at the lock limit
  limit-told : (w v : World) → RowsTold head see firm g p (heard w v c (at_limit head w c))
  limit-told w v = go (escalation head w c)
    where
      one : (q : TableId × Mode) (o : Outcome) → RowsTold head see firm g p (heard w v c (escalated_by q.0 q.1 o))
      one q (Gives Got.Granted) = (tt, tt)
      one q (Gives (Got.Queued x)) = (tt, (no-row q.0, tt))
      one q (Gives Got.TimedOut) = (tt, tt)
      one q Limit = (tt, tt)

      go : (o : Option (TableId × Mode)) → RowsTold head see firm g p (heard w v c (limited_by head w c o))
      go None = (tt, tt)
      go (Some q) = one q (request head w c (Table q.0) q.1)

-- ---- of the step that is due

x-least : at_least X X ≡ true
unfolding at_least joined mode_eq mode_number
x-least = refl

at-target : (o : Option Mode) → at_least (option_map_or (λ h. joined h X) o X) X ≡ true
at-target None = x-least
at-target (Some h) = at_least-second X h X x-least

module _ (head : Head) (w : World) (c : Conn) (s : IsSound head w) (p : Point) where
  -- what is heard of this act is as it has to be, in the world behind it
  abbrev pub IsTold : Act → Type 0
  IsTold a =
      let v = after head w (by_agent c a) in
      RowsTold head (Sees v c) (Firm v c) (LocksRow head v c) p (heard w v c a)

  pub limit-is : IsTold (at_limit head w c)
  limit-is =
      let v = after head w (by_agent c (at_limit head w c)) in
      limit-told head c (Sees v c) (Firm v c) (LocksRow head v c) p w v

  pub told-unless : (a : Act) → (Allowed head w (by_agent c a) → IsTold a) → Allowed head w (by_agent c (unless_full head w c a))
      → IsTold (unless_full head w c a)
  told-unless a told = go (is_full head w (by_agent c a))
    where
      go : (b : Bool) → Allowed head w (by_agent c (if b then Stopped History else a)) → IsTold (if b then Stopped History else a)
      go true al = tt
      go false al = told al

  -- a row is asked for
  module _ (t : TableId) (r : Rid) (ps : List Part) (e : p.left ≡ Asks (Row t r) X ∷ ps) where
    row-locked : (g : Written) → g t r → RowAsked g p.left
    row-locked g l u q m rest f =
        let same : Asks (Row u q) m ∷ rest ≡ Asks (Row t r) X ∷ ps = sym f ∙ e in
        let tables : t ≡ u = cc in
        let rows : r ≡ q = cc in
        subst (λ z. g z q) tables (subst (λ z. g t z) rows l)

    lock-told : (a : Act) → LocksRow head (after head w (by_agent c a)) c t r → IsTold a
    lock-told a l =
        let v = after head w (by_agent c a) in
        act-told head c (Sees v c) (Firm v c) (LocksRow head v c) p w v (row-locked (LocksRow head v c) l)
        (λ sh. subst (λ z. Shows head (Sees v c) (Firm v c) p.kept z sh) (sym e) tt) (λ key q. subst (λ z. Stands z key q) (sym e) tt) a

    asked-told : (o : Outcome) → request head w c (Row t r) X ≡ o → By head w (Agent c) (asked_by head w c (Row t r) X o)
        → IsTold (asked_by head w c (Row t r) X o)
    asked-told (Gives Got.Granted) q al =
        let a = Lock (Row t r) X Kept why.Asked Got.Granted in
        lock-told a (inl (placed-writes head w c s.locks a al refl t r X Kept refl x-least refl))
    asked-told (Gives (Got.Queued k)) q al =
        let a = Lock (Row t r) X Kept why.Asked (Got.Queued k) in
        let x : Wait = record { name = Row t r; conn = c; target = k; term = Kept } in
        let is = request-queued head w c (Row t r) X k q in
        lock-told a (inr (inl (
          x,
          wait-queued_own w.holds x w.waits (runs-alone w c al.1.0.0),
          refl,
          subst (λ z. at_least z X ≡ true) (sym is) (at-target (held w.holds c (Row t r))),
          refl,
        )))
    asked-told (Gives Got.TimedOut) q al = (tt, tt)
    asked-told Limit q al = limit-is

    pub ask-told : Allowed head w (by_agent c (made_by head w c p (Asks (Row t r) X ∷ ps))) → IsTold (made_by head w c p (Asks (Row t r) X ∷ ps))
    ask-told al = told-unless (asked_by head w c (Row t r) X (request head w c (Row t r) X)) (λ b. asked-told (request head w c (Row t r) X) refl b.2) al
