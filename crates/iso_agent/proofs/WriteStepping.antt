-- What is kept of a write's answer is what its statement hears of the entry.
use Rattle.std.proofs.Common.{◌≡◌, ℕ, Bool, true, false, List, [], ◌∷◌, ◌++◌, refl, sym, ap, ◌∙◌, subst, Option, Some, None, append-nil, if◌then◌else◌}
use Rattle.iso_agent.proofs.Stepping.{goes, limit-ends, limit-kept, lock-pins, waits-now}
use Rattle.iso_agent.specs.Steps.{HasStepped, keeps, kept_of_lock, stepped_of_write}
use Rattle.iso_agent.specs.declared.stepped.Stepped.TheVariants.{Goes}
use Rattle.iso_conduct.proofs.WritesFit.{Fits, delete-fits, insert-fits, update-fits}
use Rattle.iso_conduct.specs.Conduct.{ends, heard}
use Rattle.iso_conduct.specs.declared.moves.Told.{Told}
use Rattle.iso_history.proofs.whole.Sound.{sound-world}
use Rattle.iso_history.specs.After.{after, world}
use Rattle.iso_history.specs.Entries.{guard}
use Rattle.iso_history.specs.Facts.{IsSound}
use Rattle.iso_history.specs.Legal.{Ground}
use Rattle.iso_history.specs.Makers.{by_agent}
use Rattle.iso_history.specs.Outcomes.{at_limit, blocked_by, escalated_by, limited_by, written_by}
use Rattle.iso_history.specs.Phases.{is_phase, phase}
use Rattle.iso_history.specs.Records.{is_past_log}
use Rattle.iso_history.specs.Requests.{Outcome as Requested, escalation, is_limited, request}
use Rattle.iso_history.specs.Requests.Outcome.{Gives, Limit}
use Rattle.iso_history.specs.Versions.{is_changed_beside, next_rid, view}
use Rattle.iso_history.specs.World.{World}
use Rattle.iso_history.specs.Writes.{Written as Outcome, deletes, inserts, is_new_key, judged_guard, judged_index, judged_indexes, judged_key, judged_log, judged_need, judged_rivals, judged_unique, key_need, may_write, minus, or_else, rivals, updates, view_has}
use Rattle.iso_history.specs.Writes.Written.{AtLimit, Blocks, Done, IsFull, Refuses}
use Rattle.iso_history.specs.declared.entry.Act.{Act}
use Rattle.iso_history.specs.declared.entry.Entry.{Entry}
use Rattle.iso_history.specs.declared.entry.Got.{Got}
use Rattle.iso_history.specs.declared.entry.Why.TheVariants.{Blocked}
use Rattle.iso_locks.proofs.Blocks.{never-granted}
use Rattle.iso_locks.specs.Answers.{answer_of as lock_answer}
use Rattle.iso_modes.specs.declared.Mode.{Mode}
use Rattle.iso_modes.specs.declared.Mode.TheVariants.{Ns, Nw}
use Rattle.iso_modes.specs.declared.Term.TheVariants.{Brief}
use Rattle.iso_queue.specs.Locks.{others_guard}
use Rattle.iso_types.specs.Head.{indexes_of, is_unique, key_in}
use Rattle.iso_types.specs.declared.desk.Phase.{Phase}
use Rattle.iso_types.specs.declared.desk.Phase.TheVariants.{Running}
use Rattle.iso_types.specs.declared.head.Head.{Head}
use Rattle.iso_types.specs.declared.value.Conn.{Conn}
use Rattle.iso_types.specs.declared.value.IndexId.{IndexId}
use Rattle.iso_types.specs.declared.value.Name.{Name}
use Rattle.iso_types.specs.declared.value.Name.TheVariants.{Row, Table}
use Rattle.iso_types.specs.declared.value.Rid.{Rid}
use Rattle.iso_types.specs.declared.value.TableId.{TableId}
use Rattle.iso_types.specs.declared.value.Value.{Value}
use Rattle.iso_writes.specs.Answers.{answer_of, appended}
use Rattle.iso_writes.specs.declared.coming.Written.{Written}

-- a change: it goes on, and its statement hears that it is done
pub record IsChange (a : Act) : Type 0 where
  pub goes_on : ends a ≡ false
  pub done : (w v : World) (c : Conn) → heard w v c a ≡ Told.Done ∷ []
  pub answers : answer_of a ≡ Written.Done

-- at the limit a write is answered as a lock
escalated-write : (t : TableId) (m : Mode) (o : Requested) (b : Bool)
    → stepped_of_write (answer_of (escalated_by t m o)) b ≡ Goes (kept_of_lock (lock_answer (escalated_by t m o)) b)
escalated-write t m (Gives Got.Granted) b = refl
escalated-write t m (Gives (Got.Queued k)) b = refl
escalated-write t m (Gives Got.TimedOut) b = refl
escalated-write t m Limit b = refl

limited-write : (head : Head) (w : World) (c : Conn) (b : Bool)
    → stepped_of_write (answer_of (at_limit head w c)) b ≡ Goes (kept_of_lock (lock_answer (at_limit head w c)) b)
limited-write head w c b = go (escalation head w c)
  where
    go : (o : Option (TableId × Mode)) → stepped_of_write (answer_of (limited_by head w c o)) b ≡ Goes (kept_of_lock (lock_answer (limited_by head w c o)) b)
    go None = refl
    go (Some p) = escalated-write p.0 p.1 (request head w c (Table p.0) p.1) b

module _ (head : Head) (es new : List Entry) (c : Conn) (runs : phase (world head es) c ≡ Running) where
  abbrev w : World
  w = world head es

  limit-write : (b : Bool) → new ≡ es ++ by_agent c (at_limit head w c) ∷ []
      → b ≡ is_phase (phase (after head w (by_agent c (at_limit head w c))) c) Phase.Waiting
      → HasStepped head es new c (at_limit head w c) (stepped_of_write (answer_of (at_limit head w c)) b)
  limit-write b is e =
      subst (HasStepped head es new c (at_limit head w c)) (sym (limited-write head w c b))
      (goes head es new c (at_limit head w c) (kept_of_lock (lock_answer (at_limit head w c)) b) is (limit-ends head w c runs) (limit-kept head w c runs b e)
      (lock-pins head w c runs (lock_answer (at_limit head w c)) b))

  -- the Lock of a blocked write is not granted
  blocked-write : (n : Name) (m : Mode) (o : Requested) → (o ≡ Gives Got.Granted → ⊥) → (b : Bool)
      → new ≡ es ++ by_agent c (blocked_by head w c n m o) ∷ []
      → b ≡ is_phase (phase (after head w (by_agent c (blocked_by head w c n m o))) c) Phase.Waiting
      → HasStepped head es new c (blocked_by head w c n m o) (stepped_of_write (answer_of (blocked_by head w c n m o)) b)
  blocked-write n m (Gives Got.Granted) waits b is e = absurd (waits refl)
  blocked-write n m (Gives (Got.Queued k)) waits b is e =
      goes head es new c (Act.Lock n m Brief Blocked (Got.Queued k)) (keeps Told.Blocked) is refl refl tt
  blocked-write n m (Gives Got.TimedOut) waits b is e = goes head es new c (Act.Lock n m Brief Blocked Got.TimedOut) (keeps Told.TimedOut) is refl refl tt
  blocked-write n m Limit waits b is e = limit-write b is e

  -- what blocks a write is not granted
  abbrev WillWait : Outcome → Type 0
  WillWait (Blocks n m) = request head w c n m ≡ Gives Got.Granted → ⊥
  WillWait x = Unit {0}

  fits-wait : IsSound head w → (t : TableId) (may : may_write w c t ≡ true) (x : Outcome) → Fits head w c t may x → WillWait x
  fits-wait s t may Done f = tt
  fits-wait s t may IsFull f = tt
  fits-wait s t may (Refuses code) f = tt
  fits-wait s t may (Blocks n m) f = never-granted head w s c n m f.0 f.1
  fits-wait s t may AtLimit f = tt

  -- the step of a write, by what comes of it
  pub write-stepped : (a : Act) → IsChange a → (x : Outcome) → WillWait x → (now : Head) (written : Written) (b : Bool) → now ≡ head
      → new ≡ es ++ appended head w c a x → written ≡ answer_of (written_by head w c a x) → b ≡ is_phase (phase (world now new) c) Phase.Waiting
      → HasStepped head es new c (written_by head w c a x) (stepped_of_write written b)
  write-stepped a g x waits now written b same is answer e =
      subst (λ y. HasStepped head es new c (written_by head w c a x) (stepped_of_write y b)) (sym answer) (by x waits is)
    where
      by : (x : Outcome) → WillWait x → new ≡ es ++ appended head w c a x
          → HasStepped head es new c (written_by head w c a x) (stepped_of_write (answer_of (written_by head w c a x)) b)
      by Done f i =
          subst (λ y. HasStepped head es new c a (stepped_of_write y b)) (sym g.answers)
          (goes head es new c a (keeps Told.Done) i g.goes_on (g.done w (after head w (by_agent c a)) c) tt)
      by IsFull f i = (i ∙ append-nil es, refl)
      by (Refuses code) f i = goes head es new c (Act.Refused code) (keeps (Told.Refused code)) i refl refl tt
      by (Blocks n m) f i = blocked-write n m (request head w c n m) f b i (waits-now head now es new c (blocked_by head w c n m (request head w c n m)) b same i e)
      by AtLimit f i = limit-write b i (waits-now head now es new c (at_limit head w c) b same i e)

-- ---- an update or a deletion appends its entry: no table is full

abbrev is_entry : Outcome → Bool
is_entry IsFull = false
is_entry x = true

or-entry : (a b : Outcome) → is_entry a ≡ true → is_entry b ≡ true → is_entry (or_else a b) ≡ true
or-entry Done b e f = f
or-entry IsFull b e f = e
or-entry (Refuses code) b e f = e
or-entry (Blocks n m) b e f = e
or-entry AtLimit b e f = e

module _ (head : Head) (w : World) (c : Conn) where
  need-entry : (k : ℕ) → is_entry (judged_need head w c k) ≡ true
  need-entry k = go (is_limited head w c k)
    where
      go : (b : Bool) → is_entry (if b then AtLimit else Done) ≡ true
      go true = refl
      go false = refl

  log-entry : is_entry (judged_log head w) ≡ true
  log-entry = go (is_past_log head w)
    where
      go : (b : Bool) → is_entry (if b then Refuses (minus 964) else Done) ≡ true
      go true = refl
      go false = refl

  rest-entry : (k : ℕ) → is_entry (or_else (judged_need head w c k) (judged_log head w)) ≡ true
  rest-entry k = or-entry (judged_need head w c k) (judged_log head w) (need-entry k) log-entry

  rivals-entry : (t : TableId) (i : IndexId) (ps : List (Value × Rid)) → is_entry (judged_rivals head w c t i ps) ≡ true
  rivals-entry t i [] = refl
  rivals-entry t i (p ∷ ps) = go (is_changed_beside w c t p.1) (view_has head w c t i p.0 p.1) (rivals-entry t i ps)
    where
      go : (a b : Bool) → is_entry (judged_rivals head w c t i ps) ≡ true
          → is_entry (if a then Blocks (Row t p.1) Ns else if b then Refuses (minus 803) else judged_rivals head w c t i ps) ≡ true
      go true b ih = refl
      go false true ih = refl
      go false false ih = ih

  key-entry : (t : TableId) (r : Rid) (i : IndexId) (v : Value) → is_entry (judged_key head w c t r i v) ≡ true
  key-entry t r i v = or-entry (judged_unique head w c t i v r) (judged_guard w c i v) (unique (is_unique head i)) (guard-free (others_guard w.holds c (guard w i v)))
    where
      unique : (b : Bool) → is_entry (if b then judged_rivals head w c t i (rivals w i v r) else Done) ≡ true
      unique true = rivals-entry t i (rivals w i v r)
      unique false = refl

      guard-free : (b : Bool) → is_entry (if b then Blocks (guard w i v) Nw else Done) ≡ true
      guard-free true = refl
      guard-free false = refl

  indexes-entry : (t : TableId) (r : Rid) (old : Option (List Value)) (row : List Value) (is : List IndexId) → is_entry (judged_indexes head w c t r old row is) ≡ true
  indexes-entry t r old row [] = refl
  indexes-entry t r old row (i ∷ is) =
      or-entry (judged_index head w c t r old row i) (judged_indexes head w c t r old row is) (one (is_new_key head i old row)) (indexes-entry t r old row is)
    where
      one : (b : Bool) → is_entry (if b then judged_key head w c t r i (key_in head i row) else Done) ≡ true
      one true = key-entry t r i (key_in head i row)
      one false = refl

  update-entry : (t : TableId) (r : Rid) (row : List Value) → is_entry (updates head w c t r row) ≡ true
  update-entry t r row =
      or-entry (judged_indexes head w c t r (view w c t r) row (indexes_of head t)) _ (indexes-entry t r (view w c t r) row (indexes_of head t))
      (rest-entry (key_need head w c t row))

-- an update or a deletion appends its entry
entry-appends : (head : Head) (w : World) (c : Conn) (a : Act) (x : Outcome) → is_entry x ≡ true
    → by_agent c (written_by head w c a x) ∷ [] ≡ appended head w c a x
entry-appends head w c a Done e = refl
entry-appends head w c a IsFull e = absurd (cc)
entry-appends head w c a (Refuses code) e = refl
entry-appends head w c a (Blocks n m) e = refl
entry-appends head w c a AtLimit e = refl

module _ (head : Head) (es new : List Entry) (c : Conn) (runs : phase (world head es) c ≡ Running) (now : Head) (same : now ≡ head)
    (written : Written) (b : Bool) (e : b ≡ is_phase (phase (world now new) c) Phase.Waiting) (g : Ground head es) where
  entry-stepped : (a : Act) → IsChange a → (x : Outcome) → is_entry x ≡ true → WillWait head es new c runs x
      → new ≡ es ++ by_agent c (written_by head (world head es) c a x) ∷ []
      → written ≡ answer_of (written_by head (world head es) c a x)
      → HasStepped head es new c (written_by head (world head es) c a x) (stepped_of_write written b)
  entry-stepped a change x k waits is answer =
      write-stepped head es new c runs a change x waits now written b same (is ∙ ap (λ z. es ++ z) (entry-appends head (world head es) c a x k)) answer e

  abbrev to_write : TableId → Type 0
  to_write t = may_write (world head es) c t ≡ true

  pub delete-stepped : (t : TableId) (r : Rid) → to_write t
      → new ≡ es ++ by_agent c (written_by head (world head es) c (Act.Delete t r) (deletes head (world head es) c)) ∷ []
      → written ≡ answer_of (written_by head (world head es) c (Act.Delete t r) (deletes head (world head es) c))
      → HasStepped head es new c (written_by head (world head es) c (Act.Delete t r) (deletes head (world head es) c)) (stepped_of_write written b)
  delete-stepped t r may is answer =
      entry-stepped (Act.Delete t r) (record { goes_on = refl; done = λ w v d. refl; answers = refl }) (deletes head (world head es) c)
      (rest-entry head (world head es) c 0)
      (fits-wait head es new c runs (sound-world head es g) t may (deletes head (world head es) c) (delete-fits head (world head es) c t may)) is answer

  pub update-stepped : (t : TableId) (r : Rid) (row : List Value) → to_write t
      → new ≡ es ++ by_agent c (written_by head (world head es) c (Act.Update t r row) (updates head (world head es) c t r row)) ∷ []
      → written ≡ answer_of (written_by head (world head es) c (Act.Update t r row) (updates head (world head es) c t r row))
      → HasStepped head es new c (written_by head (world head es) c (Act.Update t r row) (updates head (world head es) c t r row)) (stepped_of_write written b)
  update-stepped t r row may is answer =
      entry-stepped (Act.Update t r row) (record { goes_on = refl; done = λ w v d. refl; answers = refl }) (updates head (world head es) c t r row)
      (update-entry head (world head es) c t r row)
      (fits-wait head es new c runs (sound-world head es g) t may (updates head (world head es) c t r row) (update-fits head (world head es) c t may r row))
      is answer

  pub insert-stepped : (t : TableId) (row : List Value) → to_write t
      → new ≡ es ++ appended head (world head es) c (Act.Insert t (next_rid (world head es) t) row) (inserts head (world head es) c t row)
      → written ≡ answer_of (written_by head (world head es) c (Act.Insert t (next_rid (world head es) t) row) (inserts head (world head es) c t row))
      → HasStepped head es new c (written_by head (world head es) c (Act.Insert t (next_rid (world head es) t) row) (inserts head (world head es) c t row))
      (stepped_of_write written b)
  insert-stepped t row may is answer =
      write-stepped head es new c runs (Act.Insert t (next_rid (world head es) t) row) (record { goes_on = refl; done = λ w v d. refl; answers = refl })
      (inserts head (world head es) c t row)
      (fits-wait head es new c runs (sound-world head es g) t may (inserts head (world head es) c t row) (insert-fits head (world head es) c t may row))
      now written b same is answer e
