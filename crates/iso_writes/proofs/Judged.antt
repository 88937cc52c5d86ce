-- What a deletion comes to, by the test that its judging makes, and what comes at the lock limit.
use Rattle.std.proofs.Common.{◌≡◌, Bool, true, false, if◌then◌else◌, refl, ap, None, Some, Option}
use Rattle.iso_history.proofs.whole.Pressed.{no-need}
use Rattle.iso_history.specs.Outcomes.{at_limit, blocked_by, escalated_by, limited_by}
use Rattle.iso_history.specs.Records.{is_past_log}
use Rattle.iso_history.specs.Requests.{Outcome, escalation, is_limited, request}
use Rattle.iso_history.specs.Requests.Outcome.{Gives, Limit}
use Rattle.iso_history.specs.Shares.{SharesHold}
use Rattle.iso_history.specs.World.{World}
use Rattle.iso_history.specs.Writes.{deletes, minus, or_else}
use Rattle.iso_history.specs.Writes.Written.{AtLimit, Done, Refuses}
use Rattle.iso_history.specs.declared.entry.Got.{Got}
use Rattle.iso_locks.specs.Answers.{answer_of as lock_answer}
use Rattle.iso_modes.specs.declared.Mode.{Mode}
use Rattle.iso_types.specs.declared.head.Head.{Head}
use Rattle.iso_types.specs.declared.value.Conn.{Conn}
use Rattle.iso_types.specs.declared.value.Name.{Name}
use Rattle.iso_types.specs.declared.value.Name.TheVariants.{Table}
use Rattle.iso_types.specs.declared.value.TableId.{TableId}
use Rattle.iso_writes.specs.Changing.{blocked_by_name}
use Rattle.iso_writes.specs.Answers.{answer_of, comes_at_limit, limited, past_or_done}

by-log : (limited past b : Bool) → limited ≡ false → b ≡ past
    → past_or_done b ≡ or_else (if limited then AtLimit else Done) (if past then Refuses (minus 964) else Done)
by-log true past b e f = absurd (cc)
by-log false true b e f = ap past_or_done f
by-log false false b e f = ap past_or_done f

module _ (head : Head) (w : World) (c : Conn) where
  -- a Delete needs no lock
  pub delete-judged : SharesHold head w → (b : Bool) → b ≡ is_past_log head w → past_or_done b ≡ deletes head w c
  delete-judged s b e = by-log (is_limited head w c 0) (is_past_log head w) b (no-need head w c s) e

-- what comes at the limit, and what is answered then
pub limit-comes : (head : Head) (w : World) (c : Conn) → comes_at_limit (lock_answer (at_limit head w c)) ≡ true
limit-comes head w c = go (escalation head w c)
  where
    by : (t : TableId) (m : Mode) (o : Outcome) → comes_at_limit (lock_answer (escalated_by t m o)) ≡ true
    by t m (Gives Got.Granted) = refl
    by t m (Gives (Got.Queued to)) = refl
    by t m (Gives Got.TimedOut) = refl
    by t m Limit = refl

    go : (o : Option (TableId × Mode)) → comes_at_limit (lock_answer (limited_by head w c o)) ≡ true
    go None = refl
    go (Some p) = by p.0 p.1 (request head w c (Table p.0) p.1)

pub limit-answer : (head : Head) (w : World) (c : Conn) → limited (lock_answer (at_limit head w c)) ≡ answer_of (at_limit head w c)
limit-answer head w c = go (escalation head w c)
  where
    by : (t : TableId) (m : Mode) (o : Outcome) → limited (lock_answer (escalated_by t m o)) ≡ answer_of (escalated_by t m o)
    by t m (Gives Got.Granted) = refl
    by t m (Gives (Got.Queued to)) = refl
    by t m (Gives Got.TimedOut) = refl
    by t m Limit = refl

    go : (o : Option (TableId × Mode)) → limited (lock_answer (limited_by head w c o)) ≡ answer_of (limited_by head w c o)
    go None = refl
    go (Some p) = by p.0 p.1 (request head w c (Table p.0) p.1)

-- what is answered to the lock of a blocked write
pub blocked-answer : (head : Head) (w : World) (c : Conn) (n : Name) (m : Mode) (o : Outcome)
    → blocked_by_name (lock_answer (blocked_by head w c n m o)) n ≡ answer_of (blocked_by head w c n m o)
blocked-answer head w c n m (Gives Got.Granted) = refl
blocked-answer head w c n m (Gives (Got.Queued to)) = refl
blocked-answer head w c n m (Gives Got.TimedOut) = refl
blocked-answer head w c n m Limit = go (escalation head w c)
  where
    by : (t : TableId) (k : Mode) (o : Outcome) → blocked_by_name (lock_answer (escalated_by t k o)) n ≡ answer_of (escalated_by t k o)
    by t k (Gives Got.Granted) = refl
    by t k (Gives (Got.Queued to)) = refl
    by t k (Gives Got.TimedOut) = refl
    by t k Limit = refl

    go : (o : Option (TableId × Mode)) → blocked_by_name (lock_answer (limited_by head w c o)) n ≡ answer_of (limited_by head w c o)
    go None = refl
    go (Some p) = by p.0 p.1 (request head w c (Table p.0) p.1)
