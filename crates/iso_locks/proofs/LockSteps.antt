-- What the outcomes of a request allow.
use Rattle.std.proofs.Common.{◌≡◌, ◌≤◌, ◌+◌, ℕ, Bool, true, false, ◌&&◌, ◌||◌, refl, sym, subst, ◌∙◌, arith}
use Rattle.std.specs.Option.{option_map, option_map_or}
use Rattle.std.specs.Prelude.{None, Some, IsTrue, Option, if◌then◌else◌, is_none, nat_lt}
use Rattle.std.proofs.lemmas.Bool.Decides.{nat_tests}
use Rattle.iso_history.specs.Legal.{ByAgent, LockStands, Runs}
use Rattle.iso_history.specs.Makers.{by_agent}
use Rattle.iso_history.specs.Outcomes.{at_limit, escalated_by, limited_by}
use Rattle.iso_history.specs.Requests.{asking, escalation, is_had, is_limited, is_pressed, may_ask, need_of, request}
use Rattle.iso_history.specs.Requests.Outcome.{Gives, Limit}
use Rattle.iso_history.specs.Stops.{is_full}
use Rattle.iso_history.specs.World.{World}
use Rattle.iso_history.specs.Writes.{minus}
use Rattle.iso_history.specs.declared.entry.Act.TheVariants.{Refused}
use Rattle.iso_history.specs.declared.entry.Got.{Got}
use Rattle.iso_history.specs.declared.entry.Why.TheVariants.{Asked, Escalation}
use Rattle.iso_modes.specs.Modes.{escalated}
use Rattle.iso_modes.specs.declared.Mode.{Mode}
use Rattle.iso_modes.specs.declared.Mode.TheVariants.{X}
use Rattle.iso_modes.specs.declared.Term.TheVariants.{Kept}
use Rattle.iso_queue.specs.Limits.{all_taken, prey, taken}
use Rattle.iso_queue.specs.Locks.{held, is_held, target}
use Rattle.iso_queue.specs.Queues.{would_wait}
use Rattle.iso_types.specs.Head.{lock_share, lock_slots}
use Rattle.iso_types.specs.declared.head.Head.{Head}
use Rattle.iso_types.specs.declared.value.Conn.{Conn}
use Rattle.iso_types.specs.declared.value.Name.{Name}
use Rattle.iso_types.specs.declared.value.Name.TheVariants.{Table}
use Rattle.iso_types.specs.declared.value.TableId.{TableId}
use Rattle.iso_state.proofs.LockWrites.{by-tests}

-- what is at the limit is so with a greater need
more-limited : (a b t u k : ℕ) → k ≤ 5 → (nat_lt a (t + k) || nat_lt b (u + k)) ≡ true → (nat_lt a (t + 5) || nat_lt b (u + 5)) ≡ true
more-limited a b t u k le h = go (nat_lt a (t + k)) (nat_lt b (u + k)) refl refl h
  where
    or-right : (x y : Bool) → y ≡ true → (x || y) ≡ true
    or-right true y e = refl
    or-right false y e = e

    go : (x y : Bool) → nat_lt a (t + k) ≡ x → nat_lt b (u + k) ≡ y → (nat_lt a (t + k) || nat_lt b (u + k)) ≡ true
        → (nat_lt a (t + 5) || nat_lt b (u + 5)) ≡ true
    go true y e f h =
        let first : nat_lt a (t + 5) ≡ true = grind (arith, nat_tests, e, le) in
        rw first refl
    go false true e f h =
        let second : nat_lt b (u + 5) ≡ true = grind (arith, nat_tests, f, le) in
        or-right (nat_lt a (t + 5)) (nat_lt b (u + 5)) second
    go false false e f h =
        let none : (nat_lt a (t + k) || nat_lt b (u + k)) ≡ false = rw (e, f) refl in
        cc (sym none ∙ h)

limited-by : (had limited waits may : Bool) (to : Mode) → by-tests had limited waits may to ≡ Limit → limited ≡ true
limited-by true l s m to e = cc
limited-by false true s m to e = refl
limited-by false false false m to e = cc
limited-by false false true true to e = cc
limited-by false false true false to e = cc

need-small : (w : World) (c : Conn) (n : Name) → need_of w c n ≤ 5
need-small w c n = go (is_held w.holds c n)
  where
    go : (b : Bool) → (if b then 0 else 1) ≤ 5
    go true = omega arith
    go false = omega arith

-- at a limit the connection is pressed
pub pressed : (head : Head) (w : World) (c : Conn) (n : Name) (m : Mode) → request head w c n m ≡ Limit → is_pressed head w c ≡ true
pressed head w c n m outcome =
    more-limited (lock_share head.config) (lock_slots head.config) (taken w.holds w.waits c) (all_taken head w.holds w.waits) (need_of w c n) (need-small w c n)
    (limited-by (is_had head w c n m) (is_limited head w c (need_of w c n)) (would_wait w.holds w.waits (asking w c n m)) (w.setting c).may_wait
    (target w.holds c n m) outcome)

-- what each outcome may be, from what the request comes to
pub asked-stands : (head : Head) (w : World) (c : Conn) (n : Name) (m : Mode) (got : Got) → IsTrue (may_ask head w c n m)
    → request head w c n m ≡ Gives got → LockStands head w c n m Kept Asked got
asked-stands head w c n m got may outcome = (refl, may, outcome)

pub escalation-stands : (head : Head) (w : World) (c : Conn) (t : TableId) (m : Mode) (got : Got) → is_pressed head w c ≡ true
    → escalation head w c ≡ Some (t, m) → request head w c (Table t) m ≡ Gives got → LockStands head w c (Table t) m Kept Escalation got
escalation-stands head w c t m got full is outcome = (refl, (full, is, outcome))

pub refused-by : (head : Head) (w : World) (c : Conn) → Runs w c → is_pressed head w c ≡ true → escalation head w c ≡ None
    → ByAgent head w c (Refused (minus 912))
refused-by head w c runs full none = (runs, both full (nobody (prey head w.holds c) none))
  where
    nobody : (o : Option TableId) → option_map {U = TableId × Mode} (λ t. (t, option_map_or escalated (held w.holds c (Table t)) X)) o ≡ None → o ≡ None
    nobody None e = refl
    nobody (Some t) e = cc e

    both : {a : Bool} {o : Option TableId} → a ≡ true → o ≡ None → (a && is_none o) ≡ true
    both e f = rw (e, f) refl

-- the entry at a limit is that of the escalation
pub limit-full : (head : Head) (w : World) (c : Conn) (t : TableId) (m : Mode) → escalation head w c ≡ Some (t, m)
    → is_full head w (by_agent c (escalated_by t m (request head w c (Table t) m))) ≡ true → is_full head w (by_agent c (at_limit head w c)) ≡ true
limit-full head w c t m e full =
    subst (λ (o : Option (TableId × Mode)). is_full head w (by_agent c (limited_by head w c o)) ≡ true) (sym e) full
