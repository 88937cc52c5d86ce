-- What a statement learns of its entry is what its step may answer.
use Rattle.std.proofs.Common.{◌≡◌, Bool, true, false, List, [], ◌∷◌, refl, sym, subst, Option, Some, None, if◌then◌else◌}
use Rattle.std.specs.Prelude.{nat_lt}
use Rattle.iso_conduct.specs.Answers.{AreAnswers, answers, answers_ask}
use Rattle.iso_conduct.specs.Conduct.{heard, made}
use Rattle.iso_conduct.specs.Outcomes.{act_of}
use Rattle.iso_history.specs.Outcomes.{asked_by, blocked_by, escalated_by, limited_by, look_by, next_by, written_by}
use Rattle.iso_conduct.specs.Points.{Point, due, row_due, rows_due}
use Rattle.iso_conduct.specs.declared.moves.Move.{Move}
use Rattle.iso_conduct.specs.declared.moves.Told.{Told}
use Rattle.iso_history.specs.Looks.{look}
use Rattle.iso_history.specs.Makers.{by_agent}
use Rattle.iso_history.specs.Nexts.{next}
use Rattle.iso_history.specs.Requests.{Outcome, escalation, request}
use Rattle.iso_history.specs.Requests.Outcome.{Gives, Limit}
use Rattle.iso_history.specs.Stops.{is_full}
use Rattle.iso_history.specs.Versions.{slots}
use Rattle.iso_history.specs.World.{World}
use Rattle.iso_history.specs.Writes.{Written, deletes, inserts, updates}
use Rattle.iso_history.specs.Writes.Written.{AtLimit, Blocks, Done, IsFull, Refuses}
use Rattle.iso_history.specs.declared.entry.Act.{Act}
use Rattle.iso_history.specs.declared.entry.Cause.TheVariants.{History}
use Rattle.iso_history.specs.declared.entry.Got.{Got}
use Rattle.iso_history.specs.declared.entry.Stand.{Stand}
use Rattle.iso_history.specs.declared.entry.Stand.TheVariants.{At, Past}
use Rattle.iso_history.specs.declared.entry.Want.{Want}
use Rattle.iso_modes.specs.declared.Mode.{Mode}
use Rattle.iso_types.specs.declared.head.Head.{Head}
use Rattle.iso_types.specs.declared.head.Range.{Range}
use Rattle.iso_types.specs.declared.value.Conn.{Conn}
use Rattle.iso_types.specs.declared.value.IndexId.{IndexId}
use Rattle.iso_types.specs.declared.value.Name.{Name}
use Rattle.iso_types.specs.declared.value.Name.TheVariants.{Table}
use Rattle.iso_types.specs.declared.value.Rid.{Rid}
use Rattle.iso_types.specs.declared.value.TableId.{TableId}
use Rattle.iso_types.specs.declared.value.Value.{Value}

-- one answer
one : (p : Point) (m : Move) (t : Told) → due p ≡ m → answers m t ≡ true → AreAnswers p (t ∷ [])
one p m t e h = (subst (λ x. answers x t ≡ true) (sym e) h, tt)

-- the step may wait and meet the lock limit
abbrev MayAsk : Move → Type 0
MayAsk m = (t : Told) → answers_ask t ≡ true → answers m t ≡ true

lock-asks : (n : Name) (m : Mode) → MayAsk (Move.Lock n m)
lock-asks n m Told.Done h = refl
lock-asks n m _ h = h

look-asks : (t : TableId) (r : Rid) (want : Want) → MayAsk (Move.Look t r want)
look-asks t r want (Told.Shown shown fresh) h = refl
look-asks t r want Told.EndOfTable h = refl
look-asks t r want _ h = h

next-asks : (i : IndexId) (range : Range) (at : Option (Value × Rid)) (b : Bool) → MayAsk (Move.Next i range at b)
next-asks i range at b (Told.At key r) h = refl
next-asks i range at b Told.Past h = refl
next-asks i range at b _ h = h

insert-asks : (t : TableId) → MayAsk (Move.Insert t)
insert-asks t Told.Done h = refl
insert-asks t Told.Blocked h = refl
insert-asks t _ h = h

update-asks : (t : TableId) (r : Rid) → MayAsk (Move.Update t r)
update-asks t r Told.Done h = refl
update-asks t r Told.Blocked h = refl
update-asks t r _ h = h

delete-asks : (t : TableId) (r : Rid) → MayAsk (Move.Delete t r)
delete-asks t r Told.Done h = refl
delete-asks t r Told.Blocked h = refl
delete-asks t r _ h = h

module _ (head : Head) (w v : World) (c : Conn) where
  -- at the lock limit: an escalation, which may queue, or a refusal
  limit-heard : (p : Point) (m : Move) → due p ≡ m → MayAsk m → (o : Option (TableId × Mode)) → AreAnswers p (heard w v c (limited_by head w c o))
  limit-heard p m e asks None = one p m _ e (asks _ refl)
  limit-heard p m e asks (Some q) = go (request head w c (Table q.0) q.1)
    where
      go : (o : Outcome) → AreAnswers p (heard w v c (escalated_by q.0 q.1 o))
      go (Gives Got.Granted) = one p m _ e (asks _ refl)
      go (Gives (Got.Queued x)) = (subst (λ y. answers y (Told.Escalates q.0) ≡ true) (sym e) (asks _ refl), (refl, tt))
      go (Gives Got.TimedOut) = one p m _ e (asks _ refl)
      go Limit = one p m _ e (asks _ refl)

  asked-heard : (p : Point) (n : Name) (m : Mode) → due p ≡ Move.Lock n m → (o : Outcome) → AreAnswers p (heard w v c (asked_by head w c n m o))
  asked-heard p n m e (Gives Got.Granted) = one p _ _ e refl
  asked-heard p n m e (Gives (Got.Queued x)) = one p _ _ e refl
  asked-heard p n m e (Gives Got.TimedOut) = one p _ _ e refl
  asked-heard p n m e Limit = limit-heard p _ e (lock-asks n m) (escalation head w c)

  looked-heard : (p : Point) (t : TableId) (r : Rid) (want : Want) → due p ≡ Move.Look t r want → (o : Outcome)
      → AreAnswers p (heard w v c (look_by head w c t r want o))
  looked-heard p t r want e (Gives Got.Granted) = one p _ _ e refl
  looked-heard p t r want e (Gives (Got.Queued x)) = one p _ _ e refl
  looked-heard p t r want e (Gives Got.TimedOut) = one p _ _ e refl
  looked-heard p t r want e Limit = limit-heard p _ e (look-asks t r want) (escalation head w c)

  next-heard : (p : Point) (i : IndexId) (range : Range) (at : Option (Value × Rid)) (b : Bool) → due p ≡ Move.Next i range at b → (o : Option Stand)
      → AreAnswers p (heard w v c (next_by head w c i range at b o))
  next-heard p i range at b e (Some (At key r)) = one p _ _ e refl
  next-heard p i range at b e (Some Past) = one p _ _ e refl
  next-heard p i range at b e (Some (Stand.Queued n)) = one p _ _ e refl
  next-heard p i range at b e (Some (Stand.TimedOut n)) = one p _ _ e refl
  next-heard p i range at b e None = limit-heard p _ e (next-asks i range at b) (escalation head w c)

  -- a write, by what comes of it; the change itself is answered Done
  written-heard : (p : Point) (m : Move) (a : Act) → due p ≡ m → MayAsk m → answers m Told.Blocked ≡ true → AreAnswers p (heard w v c a)
      → (x : Written) → AreAnswers p (heard w v c (written_by head w c a x))
  written-heard p m a e asks blocks done Done = done
  written-heard p m a e asks blocks done IsFull = tt
  written-heard p m a e asks blocks done (Refuses code) = one p m _ e (asks _ refl)
  written-heard p m a e asks blocks done AtLimit = limit-heard p m e asks (escalation head w c)
  written-heard p m a e asks blocks done (Blocks n k) = go (request head w c n k)
    where
      go : (o : Outcome) → AreAnswers p (heard w v c (blocked_by head w c n k o))
      go (Gives Got.Granted) = tt
      go (Gives (Got.Queued x)) = one p m _ e blocks
      go (Gives Got.TimedOut) = one p m _ e (asks _ refl)
      go Limit = limit-heard p m e asks (escalation head w c)

  act-heard : (p : Point) (row : List Value) (rows : List (List Value)) (m : Move) → due p ≡ m → AreAnswers p (heard w v c (act_of head w c row rows m))
  act-heard p row rows (Move.Lock n m) e = asked-heard p n m e (request head w c n m)
  act-heard p row rows Move.Claim e = one p _ _ e refl
  act-heard p row rows (Move.Look t r want) e = go (nat_lt r.0 (slots w t))
    where
      go : (b : Bool) → AreAnswers p (heard w v c (if b then look_by head w c t r want (look head w c t r want) else Act.ScanEnd t (slots w t)))
      go true = looked-heard p t r want e (look head w c t r want)
      go false = one p _ _ e refl
  act-heard p row rows (Move.Next i range at b) e = next-heard p i range at b e (next head w c i range at b)
  act-heard p row rows (Move.Free t r) e = one p _ _ e refl
  act-heard p row rows (Move.Collapse t) e = one p _ _ e refl
  act-heard p row rows (Move.Insert t) e = written-heard p _ _ e (insert-asks t) refl (one p _ _ e refl) (inserts head w c t row)
  act-heard p row rows (Move.Update t r) e = written-heard p _ _ e (update-asks t r) refl (one p _ _ e refl) (updates head w c t r row)
  act-heard p row rows (Move.Delete t r) e = written-heard p _ _ e (delete-asks t r) refl (one p _ _ e refl) (deletes head w c)
  act-heard p row rows (Move.Refuse code) e = one p _ _ e refl
  act-heard p row rows (Move.Undo floor) e = one p _ _ e refl
  act-heard p row rows (Move.Mark name) e = one p _ _ e refl
  act-heard p row rows (Move.Back name) e = one p _ _ e refl
  act-heard p row rows (Move.Set level may_wait) e = one p _ _ e refl
  act-heard p row rows Move.Commit e = tt
  act-heard p row rows (Move.RollbackEnd code reason) e = tt
  act-heard p row rows (Move.Reply code changed) e = tt

  -- each is an answer of the due step; a Stopped tells nothing
  pub made-heard : (p : Point) → AreAnswers p (heard w v c (made head w c p))
  made-heard p = go (is_full head w (by_agent c (act_of head w c (row_due p) (rows_due p) (due p))))
    where
      go : (b : Bool) → AreAnswers p (heard w v c (if b then Act.Stopped History else act_of head w c (row_due p) (rows_due p) (due p)))
      go true = tt
      go false = act-heard p (row_due p) (rows_due p) (due p) refl
