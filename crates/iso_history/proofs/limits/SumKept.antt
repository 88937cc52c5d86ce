-- What each kind of entry does to the sum of all reserves, as a step keeps it.
use Rattle.std.proofs.Common.{◌≡◌, ◌+◌, ℕ, Bool, true, false, List, length, refl, arith, Some, None, Option, is_some}
use Rattle.std.specs.Prelude.{ℤ, if◌then◌else◌}
use Rattle.iso_history.specs.After.{after}
use Rattle.iso_history.specs.Courses.{NoneLeft, OnCourse}
use Rattle.iso_history.specs.Facts.{UnitsApart}
use Rattle.iso_history.specs.Legal.{By}
use Rattle.iso_history.specs.Phases.{phase}
use Rattle.iso_history.specs.Records.{left_of}
use Rattle.iso_history.specs.Reserves.{reserves_less, reserves_more}
use Rattle.iso_history.specs.Stops.{dispatcher_reserve, reserves}
use Rattle.iso_history.specs.World.{World}
use Rattle.iso_history.specs.declared.entry.Act.{Act}
use Rattle.iso_history.specs.declared.entry.Act.TheVariants.{Back, Busy, Claim, Close, Collapse, Commit, Delete, Dispatch, Expire, Finish, Free, Insert, Lock, Look, Mark, Next, Purge, Refused, Reply, Rollback, ScanEnd, Set, Snapshot, Stopped, Undo, Update, Victim}
use Rattle.iso_history.specs.declared.entry.Cause.{Cause}
use Rattle.iso_history.specs.declared.entry.Got.{Got}
use Rattle.iso_history.specs.declared.entry.Stand.{Stand}
use Rattle.iso_history.specs.declared.entry.Stand.TheVariants.{At, Past}
use Rattle.iso_history.specs.declared.entry.Want.{Want}
use Rattle.iso_history.specs.declared.entry.Who.{Who}
use Rattle.iso_history.specs.declared.entry.Who.TheVariants.{Agent, Dispatcher}
use Rattle.iso_history.specs.declared.entry.Why.{Why}
use Rattle.iso_modes.specs.declared.Mode.{Mode}
use Rattle.iso_modes.specs.declared.Term.{Term}
use Rattle.iso_queue.specs.declared.LockLine.{LockLine}
use Rattle.iso_types.specs.declared.desk.Phase.TheVariants.{Rolling, Running}
use Rattle.iso_types.specs.declared.head.Head.{Head}
use Rattle.iso_types.specs.declared.head.Isolation.{Isolation}
use Rattle.iso_types.specs.declared.head.Range.{Range}
use Rattle.iso_types.specs.declared.value.Conn.{Conn}
use Rattle.iso_types.specs.declared.value.IndexId.{IndexId}
use Rattle.iso_types.specs.declared.value.Name.{Name}
use Rattle.iso_types.specs.declared.value.Rid.{Rid}
use Rattle.iso_types.specs.declared.value.TableId.{TableId}
use Rattle.iso_types.specs.declared.value.Value.{Value}
use Rattle.iso_history.specs.Makers.{by_agent, by_dispatcher}
use Rattle.iso_history.proofs.limits.Totals.{totals-by}

module _ (head : Head) (w : World) (f : w.pace.finished ≡ false) (s : UnitsApart w) (co : OnCourse w) (n : NoneLeft w.begun w.records) where
  same : (who : Who) (a : Act) → By head w who a → reserves_more w who a ≡ 0 → reserves_less w who a ≡ 0
      → reserves head (after head w (record { who = who; act = a })) ≡ reserves head w
  same who a al m l = let t = (totals-by head w who a f al s co n).reserves_move in omega (arith, t, m, l)

  raised : (who : Who) (a : Act) (k : ℕ) → By head w who a → reserves_more w who a ≡ k → reserves_less w who a ≡ 0
      → reserves head (after head w (record { who = who; act = a })) ≡ reserves head w + k
  raised who a k al m l = let t = (totals-by head w who a f al s co n).reserves_move in omega (arith, t, m, l)

  lowered : (who : Who) (a : Act) (k : ℕ) → By head w who a → reserves_more w who a ≡ 0 → reserves_less w who a ≡ k
      → reserves head (after head w (record { who = who; act = a })) + k ≡ reserves head w
  lowered who a k al m l = let t = (totals-by head w who a f al s co n).reserves_move in omega (arith, t, m, l)

  pub reserves-lock_granted : (c : Conn) (name : Name) (mode : Mode) (term : Term) (why : Why) → By head w (Agent c) (Lock name mode term why Got.Granted)
      → reserves head (after head w (by_agent c (Lock name mode term why Got.Granted))) ≡ reserves head w
  reserves-lock_granted c name mode term why al = same (Agent c) (Lock name mode term why Got.Granted) al refl refl

  pub reserves-lock_queued : (c : Conn) (name : Name) (mode : Mode) (term : Term) (why : Why) (m : Mode)
      → By head w (Agent c) (Lock name mode term why (Got.Queued m))
      → reserves head (after head w (by_agent c (Lock name mode term why (Got.Queued m)))) ≡ reserves head w
  reserves-lock_queued c name mode term why m al = same (Agent c) (Lock name mode term why (Got.Queued m)) al refl refl

  pub reserves-lock_timed_out : (c : Conn) (name : Name) (mode : Mode) (term : Term) (why : Why)
      → By head w (Agent c) (Lock name mode term why Got.TimedOut)
      → reserves head (after head w (by_agent c (Lock name mode term why Got.TimedOut))) + 1 ≡ reserves head w
  reserves-lock_timed_out c name mode term why al = lowered (Agent c) (Lock name mode term why Got.TimedOut) 1 al refl refl

  pub reserves-claim : (c : Conn) → By head w (Agent c) Claim → reserves head (after head w (by_agent c Claim)) ≡ reserves head w
  reserves-claim c al = same (Agent c) Claim al refl refl

  pub reserves-look_granted : (c : Conn) (t : TableId) (r : Rid) (want : Want) → By head w (Agent c) (Look t r want Got.Granted)
      → reserves head (after head w (by_agent c (Look t r want Got.Granted))) ≡ reserves head w
  reserves-look_granted c t r want al = same (Agent c) (Look t r want Got.Granted) al refl refl

  pub reserves-look_queued : (c : Conn) (t : TableId) (r : Rid) (want : Want) (m : Mode) → By head w (Agent c) (Look t r want (Got.Queued m))
      → reserves head (after head w (by_agent c (Look t r want (Got.Queued m)))) ≡ reserves head w
  reserves-look_queued c t r want m al = same (Agent c) (Look t r want (Got.Queued m)) al refl refl

  pub reserves-look_timed_out : (c : Conn) (t : TableId) (r : Rid) (want : Want) → By head w (Agent c) (Look t r want Got.TimedOut)
      → reserves head (after head w (by_agent c (Look t r want Got.TimedOut))) + 1 ≡ reserves head w
  reserves-look_timed_out c t r want al = lowered (Agent c) (Look t r want Got.TimedOut) 1 al refl refl

  pub reserves-scan_end : (c : Conn) (t : TableId) (k : ℕ) → By head w (Agent c) (ScanEnd t k)
      → reserves head (after head w (by_agent c (ScanEnd t k))) ≡ reserves head w
  reserves-scan_end c t k al = same (Agent c) (ScanEnd t k) al refl refl

  pub reserves-next_at : (c : Conn) (i : IndexId) (range : Range) (at : Option (Value × Rid)) (guarded : Bool) (v : Value) (r : Rid)
      → By head w (Agent c) (Next i range at guarded (At v r))
      → reserves head (after head w (by_agent c (Next i range at guarded (At v r)))) ≡ reserves head w
  reserves-next_at c i range at guarded v r al = same (Agent c) (Next i range at guarded (At v r)) al refl refl

  pub reserves-next_past : (c : Conn) (i : IndexId) (range : Range) (at : Option (Value × Rid)) (guarded : Bool)
      → By head w (Agent c) (Next i range at guarded Past)
      → reserves head (after head w (by_agent c (Next i range at guarded Past))) ≡ reserves head w
  reserves-next_past c i range at guarded al = same (Agent c) (Next i range at guarded Past) al refl refl

  pub reserves-next_queued : (c : Conn) (i : IndexId) (range : Range) (at : Option (Value × Rid)) (guarded : Bool) (name : Name)
      → By head w (Agent c) (Next i range at guarded (Stand.Queued name))
      → reserves head (after head w (by_agent c (Next i range at guarded (Stand.Queued name)))) ≡ reserves head w
  reserves-next_queued c i range at guarded name al = same (Agent c) (Next i range at guarded (Stand.Queued name)) al refl refl

  pub reserves-next_timed_out : (c : Conn) (i : IndexId) (range : Range) (at : Option (Value × Rid)) (guarded : Bool) (name : Name)
      → By head w (Agent c) (Next i range at guarded (Stand.TimedOut name))
      → reserves head (after head w (by_agent c (Next i range at guarded (Stand.TimedOut name)))) + 1 ≡ reserves head w
  reserves-next_timed_out c i range at guarded name al = lowered (Agent c) (Next i range at guarded (Stand.TimedOut name)) 1 al refl refl

  pub reserves-free : (c : Conn) (t : TableId) (r : Rid) → By head w (Agent c) (Free t r)
      → reserves head (after head w (by_agent c (Free t r))) ≡ reserves head w
  reserves-free c t r al = same (Agent c) (Free t r) al refl refl

  pub reserves-collapse : (c : Conn) (t : TableId) (m : Mode) → By head w (Agent c) (Collapse t m)
      → reserves head (after head w (by_agent c (Collapse t m))) ≡ reserves head w
  reserves-collapse c t m al = same (Agent c) (Collapse t m) al refl refl

  pub reserves-insert : (c : Conn) (t : TableId) (r : Rid) (row : List Value) → By head w (Agent c) (Insert t r row)
      → reserves head (after head w (by_agent c (Insert t r row))) ≡ reserves head w + 1
  reserves-insert c t r row al = raised (Agent c) (Insert t r row) 1 al refl refl

  pub reserves-update : (c : Conn) (t : TableId) (r : Rid) (row : List Value) → By head w (Agent c) (Update t r row)
      → reserves head (after head w (by_agent c (Update t r row))) ≡ reserves head w + 1
  reserves-update c t r row al = raised (Agent c) (Update t r row) 1 al refl refl

  pub reserves-delete : (c : Conn) (t : TableId) (r : Rid) → By head w (Agent c) (Delete t r)
      → reserves head (after head w (by_agent c (Delete t r))) ≡ reserves head w + 1
  reserves-delete c t r al = raised (Agent c) (Delete t r) 1 al refl refl

  pub reserves-refused : (c : Conn) (code : ℤ) → By head w (Agent c) (Refused code)
      → reserves head (after head w (by_agent c (Refused code))) ≡ reserves head w
  reserves-refused c code al = same (Agent c) (Refused code) al refl refl

  pub reserves-undo : (c : Conn) (k : ℕ) → By head w (Agent c) (Undo k) → reserves head (after head w (by_agent c (Undo k))) + 1 ≡ reserves head w
  reserves-undo c k al = lowered (Agent c) (Undo k) 1 al refl refl

  pub reserves-mark : (c : Conn) (text : List ℕ) → By head w (Agent c) (Mark text)
      → reserves head (after head w (by_agent c (Mark text))) ≡ reserves head w
  reserves-mark c text al = same (Agent c) (Mark text) al refl refl

  pub reserves-back : (c : Conn) (text : List ℕ) → By head w (Agent c) (Back text)
      → reserves head (after head w (by_agent c (Back text))) ≡ reserves head w
  reserves-back c text al = same (Agent c) (Back text) al refl refl

  pub reserves-set : (c : Conn) (level : Isolation) (may_wait : Bool) → By head w (Agent c) (Set level may_wait)
      → reserves head (after head w (by_agent c (Set level may_wait))) ≡ reserves head w
  reserves-set c level may_wait al = same (Agent c) (Set level may_wait) al refl refl

  pub reserves-commit : (c : Conn) → By head w (Agent c) Commit
      → reserves head (after head w (by_agent c Commit)) + (length (left_of w c) + 2) ≡ reserves head w
  reserves-commit c al = lowered (Agent c) Commit (length (left_of w c) + 2) al refl refl

  pub reserves-reply : (c : Conn) (code : ℤ) (changed : ℕ) (rows : List (List Value)) → By head w (Agent c) (Reply code changed rows)
      → reserves head (after head w (by_agent c (Reply code changed rows))) ≡ reserves head w
  reserves-reply c code changed rows al = same (Agent c) (Reply code changed rows) al refl refl

  pub reserves-ended : (c : Conn) → By head w (Agent c) Act.Ended → reserves head (after head w (by_agent c Act.Ended)) + 3 ≡ reserves head w
  reserves-ended c al = lowered (Agent c) Act.Ended 3 al refl refl

  pub reserves-stopped : (c : Conn) (cause : Cause) → By head w (Agent c) (Stopped cause)
      → reserves head (after head w (by_agent c (Stopped cause))) + 1 ≡ reserves head w
  reserves-stopped c cause al = lowered (Agent c) (Stopped cause) 1 al refl refl

  pub reserves-dispatch : (line : ℕ) (d : Conn) → By head w Dispatcher (Dispatch line d)
      → reserves head (after head w (by_dispatcher (Dispatch line d))) ≡ reserves head w + (if is_some (w.unit d) then 0 else 2)
  reserves-dispatch line d al = raised Dispatcher (Dispatch line d) (if is_some (w.unit d) then 0 else 2) al refl refl

  pub reserves-busy : (line : ℕ) (d : Conn) → By head w Dispatcher (Busy line d)
      → reserves head (after head w (by_dispatcher (Busy line d))) ≡ reserves head w
  reserves-busy line d al = same Dispatcher (Busy line d) al refl refl

  pub reserves-expire : (line : ℕ) (d : Conn) → By head w Dispatcher (Expire line d true)
      → reserves head (after head w (by_dispatcher (Expire line d true))) + 1 ≡ reserves head w
  reserves-expire line d al = lowered Dispatcher (Expire line d true) 1 al refl refl

  pub reserves-expire_none : (line : ℕ) (d : Conn) → By head w Dispatcher (Expire line d false)
      → reserves head (after head w (by_dispatcher (Expire line d false))) ≡ reserves head w
  reserves-expire_none line d al = same Dispatcher (Expire line d false) al refl refl

  pub reserves-snapshot : (line : ℕ) (locks : List LockLine) → By head w Dispatcher (Snapshot line locks)
      → reserves head (after head w (by_dispatcher (Snapshot line locks))) ≡ reserves head w
  reserves-snapshot line locks al = same Dispatcher (Snapshot line locks) al refl refl

  pub reserves-victim : (cycle : List Conn) → By head w Dispatcher (Victim cycle)
      → reserves head (after head w (by_dispatcher (Victim cycle))) + 1 ≡ reserves head w
  reserves-victim cycle al = lowered Dispatcher (Victim cycle) 1 al refl refl

  pub reserves-purge : (i : IndexId) (key : Value) (r : Rid) → By head w Dispatcher (Purge i key r)
      → reserves head (after head w (by_dispatcher (Purge i key r))) ≡ reserves head w
  reserves-purge i key r al = same Dispatcher (Purge i key r) al refl refl

  pub reserves-halted : (cause : Cause) → By head w Dispatcher (Stopped cause)
      → reserves head (after head w (by_dispatcher (Stopped cause))) + 1 ≡ reserves head w
  reserves-halted cause al = lowered Dispatcher (Stopped cause) 1 al refl refl

  pub reserves-finish : By head w Dispatcher Finish
      → reserves head (after head w (by_dispatcher Finish)) + (dispatcher_reserve w.pace) ≡ reserves head w
  reserves-finish al = lowered Dispatcher Finish (dispatcher_reserve w.pace) al refl refl

  -- a Rollback of a running connection, and of a rolling one
  pub reserves-rollback : (c : Conn) (code : ℤ) (reason : ℕ) → By head w (Agent c) (Rollback code reason) → phase w c ≡ Running
      → reserves head (after head w (by_agent c (Rollback code reason))) + 2 ≡ reserves head w
  reserves-rollback c code reason al is = lowered (Agent c) (Rollback code reason) 2 al refl (rw is refl)

  pub reserves-rolled : (c : Conn) (code : ℤ) (reason : ℕ) → By head w (Agent c) (Rollback code reason) → phase w c ≡ Rolling
      → reserves head (after head w (by_agent c (Rollback code reason))) + 1 ≡ reserves head w
  reserves-rolled c code reason al is = lowered (Agent c) (Rollback code reason) 1 al refl (rw is refl)

  -- a Close raises the reserve of a connection without a unit, and lowers that of another
  pub reserves-close : (d : Conn) → By head w Dispatcher (Close d) → w.unit d ≡ None
      → reserves head (after head w (by_dispatcher (Close d))) ≡ reserves head w + 1
  reserves-close d al e = raised Dispatcher (Close d) 1 al (rw e refl) (rw e refl)

  pub reserves-close_unit : (d : Conn) (u : ℕ) → By head w Dispatcher (Close d) → w.unit d ≡ Some u
      → reserves head (after head w (by_dispatcher (Close d))) + 1 ≡ reserves head w
  reserves-close_unit d u al e = lowered Dispatcher (Close d) 1 al (rw e refl) (rw e refl)
