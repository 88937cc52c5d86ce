-- After its own entry a connection waits exactly where its statement learns that it does, and then a Claim comes next.
use Rattle.std.proofs.Common.{◌≡◌, Bool, true, false, not, ◌&&◌, List, [], ◌∷◌, refl, sym, ◌∙◌, Option, Some, None, if◌then◌else◌}
use Rattle.std.specs.Prelude.{find, is_some, nat_lt}
use Rattle.iso_conduct.proofs.Fronts.{IsFront, told-front}
use Rattle.iso_conduct.proofs.Heard.{made-heard}
use Rattle.iso_conduct.proofs.Open.{eq-same}
use Rattle.iso_conduct.proofs.Queues.{is_claim_next, says_wait, told-next}
use Rattle.iso_conduct.specs.Answers.{AreAnswers}
use Rattle.iso_conduct.specs.Conduct.{heard, made}
use Rattle.iso_conduct.specs.Outcomes.{act_of}
use Rattle.iso_history.specs.Outcomes.{asked_by, blocked_by, escalated_by, limited_by, look_by, next_by, written_by}
use Rattle.iso_conduct.specs.Points.{Point, due, row_due, rows_due, told_all, told_point}
use Rattle.iso_conduct.specs.declared.moves.Move.{Move}
use Rattle.iso_conduct.specs.declared.moves.Told.{Told}
use Rattle.iso_history.specs.Looks.{look}
use Rattle.iso_history.specs.Makers.{by_agent}
use Rattle.iso_history.specs.Nexts.{next}
use Rattle.iso_history.specs.Requests.{Outcome, escalation, request}
use Rattle.iso_history.specs.Requests.Outcome.{Gives, Limit}
use Rattle.iso_history.specs.Stops.{is_full}
use Rattle.iso_history.specs.Versions.{slots}
use Rattle.iso_history.specs.Waits.{joining_of_agent, waits_by}
use Rattle.iso_history.specs.World.{World}
use Rattle.iso_history.specs.Writes.{Written, deletes, inserts, updates}
use Rattle.iso_history.specs.Writes.Written.{AtLimit, Blocks, Done, IsFull, Refuses}
use Rattle.iso_history.specs.declared.entry.Act.{Act}
use Rattle.iso_history.specs.declared.entry.Cause.TheVariants.{History}
use Rattle.iso_history.specs.declared.entry.Got.{Got}
use Rattle.iso_history.specs.declared.entry.Stand.{Stand}
use Rattle.iso_history.specs.declared.entry.Stand.TheVariants.{At, Past}
use Rattle.iso_history.specs.declared.entry.Want.{Want}
use Rattle.iso_modes.specs.declared.Mode.{Mode}
use Rattle.iso_queue.specs.Locks.{Hold, is_held}
use Rattle.iso_queue.specs.Queues.{Wait, is_new_beside, is_waiting, queued, unqueued}
use Rattle.iso_types.specs.Ids.{conn_eq}
use Rattle.iso_types.specs.declared.head.Head.{Head}
use Rattle.iso_types.specs.declared.head.Range.{Range}
use Rattle.iso_types.specs.declared.value.Conn.{Conn}
use Rattle.iso_types.specs.declared.value.IndexId.{IndexId}
use Rattle.iso_types.specs.declared.value.Name.{Name}
use Rattle.iso_types.specs.declared.value.Name.TheVariants.{Table}
use Rattle.iso_types.specs.declared.value.Rid.{Rid}
use Rattle.iso_types.specs.declared.value.TableId.{TableId}
use Rattle.iso_types.specs.declared.value.Value.{Value}

-- ---- waits

-- who queues waits
joins : (holds : List Hold) (x : Wait) (ws : List Wait) → is_waiting (queued holds x ws) x.conn ≡ true
joins holds x [] = rw (eq-same x.conn) refl
joins holds x (y ∷ ys) = go (is_held holds x.conn x.name && is_new_beside holds x y) (joins holds x ys)
  where
    later : (b : Bool) → is_some (find (λ z. conn_eq z.conn x.conn) (queued holds x ys)) ≡ true
        → is_some (if b then Some y else find (λ z. conn_eq z.conn x.conn) (queued holds x ys)) ≡ true
    later true h = refl
    later false h = h

    go : (b : Bool) → is_waiting (queued holds x ys) x.conn ≡ true → is_waiting (if b then x ∷ y ∷ ys else y ∷ queued holds x ys) x.conn ≡ true
    go true h = rw (eq-same x.conn) refl
    go false h = later (conn_eq y.conn x.conn) h

-- whose wait goes does not wait
pub quits : (c : Conn) (ws : List Wait) → is_waiting (unqueued c ws) c ≡ false
quits c [] = refl
quits c (x ∷ xs) = go (conn_eq x.conn c) refl (quits c xs)
  where
    go : (b : Bool) → conn_eq x.conn c ≡ b → is_waiting (unqueued c xs) c ≡ false → is_waiting (if not b then x ∷ unqueued c xs else unqueued c xs) c ≡ false
    go true e h = h
    go false e h = rw e h

-- ---- the last answer

abbrev pub says_last : List Told → Bool
says_last [] = false
says_last (t ∷ []) = says_wait t
says_last (t ∷ u ∷ ts) = says_last (u ∷ ts)

-- a Claim comes next exactly where the last answer says that the connection waits
pub all-next : (p : Point) (ts : List Told) → AreAnswers p ts → IsFront p.left → (ts ≡ [] → is_claim_next p.left ≡ false)
    → is_claim_next (told_all p ts).left ≡ says_last ts
all-next p [] a h n = n refl
all-next p (t ∷ []) a h n = told-next p t a.0 h
all-next p (t ∷ u ∷ ts) a h n = all-next (told_point p t) (u ∷ ts) a.1 (told-front p t a.0 h) (λ e. absurd (cc))

-- ---- the entry that is made

abbrev pub is_claim_move : Move → Bool
is_claim_move Move.Claim = true
is_claim_move _ = false

module _ (head : Head) (w v : World) (c : Conn) where
  -- after the act the connection waits exactly where the last answer says so
  abbrev pub IsPaired : Act → Type 0
  IsPaired a = is_waiting (waits_by w (joining_of_agent w c a)) c ≡ says_last (heard w v c a)

  module _ (idle : is_waiting w.waits c ≡ false) where
    limit-paired : (o : Option (TableId × Mode)) → IsPaired (limited_by head w c o)
    limit-paired None = idle
    limit-paired (Some q) = go (request head w c (Table q.0) q.1)
      where
        go : (o : Outcome) → IsPaired (escalated_by q.0 q.1 o)
        go (Gives Got.Granted) = idle
        go (Gives (Got.Queued x)) = joins w.holds (record { name = Table q.0; conn = c; target = x; term = _ }) w.waits
        go (Gives Got.TimedOut) = idle
        go Limit = idle

    asked-paired : (n : Name) (m : Mode) (o : Outcome) → IsPaired (asked_by head w c n m o)
    asked-paired n m (Gives Got.Granted) = idle
    asked-paired n m (Gives (Got.Queued x)) = joins w.holds (record { name = n; conn = c; target = x; term = _ }) w.waits
    asked-paired n m (Gives Got.TimedOut) = idle
    asked-paired n m Limit = limit-paired (escalation head w c)

    looked-paired : (t : TableId) (r : Rid) (want : Want) (o : Outcome) → IsPaired (look_by head w c t r want o)
    looked-paired t r want (Gives Got.Granted) = idle
    looked-paired t r want (Gives (Got.Queued x)) = joins w.holds (record { name = _; conn = c; target = x; term = _ }) w.waits
    looked-paired t r want (Gives Got.TimedOut) = idle
    looked-paired t r want Limit = limit-paired (escalation head w c)

    next-paired : (i : IndexId) (range : Range) (at : Option (Value × Rid)) (b : Bool) (o : Option Stand) → IsPaired (next_by head w c i range at b o)
    next-paired i range at b (Some (At key r)) = idle
    next-paired i range at b (Some Past) = idle
    next-paired i range at b (Some (Stand.Queued n)) = joins w.holds (record { name = n; conn = c; target = _; term = _ }) w.waits
    next-paired i range at b (Some (Stand.TimedOut n)) = idle
    next-paired i range at b None = limit-paired (escalation head w c)

    written-paired : (a : Act) → IsPaired a → (x : Written) → IsPaired (written_by head w c a x)
    written-paired a done Done = done
    written-paired a done IsFull = quits c w.waits
    written-paired a done (Refuses code) = idle
    written-paired a done AtLimit = limit-paired (escalation head w c)
    written-paired a done (Blocks n k) = go (request head w c n k)
      where
        go : (o : Outcome) → IsPaired (blocked_by head w c n k o)
        go (Gives Got.Granted) = idle
        go (Gives (Got.Queued x)) = joins w.holds (record { name = n; conn = c; target = x; term = _ }) w.waits
        go (Gives Got.TimedOut) = idle
        go Limit = limit-paired (escalation head w c)

  act-paired : (row : List Value) (rows : List (List Value)) (m : Move) → (is_claim_move m ≡ false → is_waiting w.waits c ≡ false)
      → IsPaired (act_of head w c row rows m)
  act-paired row rows (Move.Lock n m) idle = asked-paired (idle refl) n m (request head w c n m)
  act-paired row rows Move.Claim idle = quits c w.waits
  act-paired row rows (Move.Look t r want) idle = go (nat_lt r.0 (slots w t))
    where
      go : (b : Bool) → IsPaired (if b then look_by head w c t r want (look head w c t r want) else Act.ScanEnd t (slots w t))
      go true = looked-paired (idle refl) t r want (look head w c t r want)
      go false = idle refl
  act-paired row rows (Move.Next i range at b) idle = next-paired (idle refl) i range at b (next head w c i range at b)
  act-paired row rows (Move.Free t r) idle = idle refl
  act-paired row rows (Move.Collapse t) idle = idle refl
  act-paired row rows (Move.Insert t) idle = written-paired (idle refl) _ (idle refl) (inserts head w c t row)
  act-paired row rows (Move.Update t r) idle = written-paired (idle refl) _ (idle refl) (updates head w c t r row)
  act-paired row rows (Move.Delete t r) idle = written-paired (idle refl) _ (idle refl) (deletes head w c)
  act-paired row rows (Move.Refuse code) idle = idle refl
  act-paired row rows (Move.Undo floor) idle = idle refl
  act-paired row rows (Move.Mark name) idle = idle refl
  act-paired row rows (Move.Back name) idle = idle refl
  act-paired row rows (Move.Set level may_wait) idle = idle refl
  act-paired row rows Move.Commit idle = quits c w.waits
  act-paired row rows (Move.RollbackEnd code reason) idle = quits c w.waits
  act-paired row rows (Move.Reply code changed) idle = idle refl

  -- the entry that is made, where the connection does not wait unless a Claim is due
  pub made-paired : (p : Point) → (is_claim_move (due p) ≡ false → is_waiting w.waits c ≡ false) → IsPaired (made head w c p)
  made-paired p idle = go (is_full head w (by_agent c (act_of head w c (row_due p) (rows_due p) (due p))))
    where
      go : (b : Bool) → IsPaired (if b then Act.Stopped History else act_of head w c (row_due p) (rows_due p) (due p))
      go true = quits c w.waits
      go false = act-paired (row_due p) (rows_due p) (due p) idle

  -- and then a Claim comes next exactly where the connection waits
  pub made-next : (p : Point) → IsFront p.left → (is_claim_move (due p) ≡ false → is_waiting w.waits c ≡ false)
      → (heard w v c (made head w c p) ≡ [] → is_claim_next p.left ≡ false)
      → is_claim_next (told_all p (heard w v c (made head w c p))).left ≡ is_waiting (waits_by w (joining_of_agent w c (made head w c p))) c
  made-next p h idle n = all-next p (heard w v c (made head w c p)) (made-heard head w v c p) h n ∙ sym (made-paired p idle)
