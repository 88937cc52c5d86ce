-- What is kept of each step's answer is what its statement hears of the entry.
use Rattle.std.proofs.Common.{◌≡◌, Bool, true, false, List, [], ◌∷◌, ◌++◌, refl, sym, ap, ◌∙◌, subst, Option, Some, None, if◌then◌else◌}
use Rattle.iso_agent.specs.Fits.{Tells, told_list}
use Rattle.iso_agent.specs.Steps.{HasPin, HasStepped, cause_of, kept_of_lock}
use Rattle.iso_agent.specs.declared.agent.Kept.{Kept}
use Rattle.iso_agent.specs.declared.stepped.Stepped.TheVariants.{Goes, Stops}
use Rattle.iso_conduct.specs.Conduct.{ends, heard}
use Rattle.iso_conduct.specs.declared.moves.Told.{Told}
use Rattle.iso_history.proofs.Snoc.{world-snoc}
use Rattle.iso_history.proofs.limits.Courses.{running}
use Rattle.iso_history.proofs.limits.Waiting.{conn_eq-refl, waiting-queued}
use Rattle.iso_history.specs.After.{after, world}
use Rattle.iso_history.specs.Makers.{by_agent}
use Rattle.iso_history.specs.Outcomes.{asked_by, at_limit, escalated_by, limited_by}
use Rattle.iso_history.specs.Phases.{is_phase, phase}
use Rattle.iso_history.specs.Requests.{Outcome, escalation, request}
use Rattle.iso_history.specs.Requests.Outcome.{Gives, Limit}
use Rattle.iso_history.specs.Stops.{is_full, may_stop}
use Rattle.iso_history.specs.World.{World}
use Rattle.iso_history.specs.declared.entry.Act.{Act}
use Rattle.iso_history.specs.declared.entry.Act.TheVariants.{Lock}
use Rattle.iso_history.specs.declared.entry.Cause.TheVariants.{Memory}
use Rattle.iso_history.specs.declared.entry.Entry.{Entry}
use Rattle.iso_history.specs.declared.entry.Got.{Got}
use Rattle.iso_history.specs.declared.entry.Why.TheVariants.{Escalation}
use Rattle.iso_locks.specs.Answers.{answer_of}
use Rattle.iso_locks.specs.declared.locking.Answer.{Answer as LockAnswer}
use Rattle.iso_modes.specs.declared.Mode.{Mode}
use Rattle.iso_modes.specs.declared.Term.TheVariants.{Kept as IsKept}
use Rattle.iso_types.specs.declared.desk.Phase.{Phase}
use Rattle.iso_types.specs.declared.desk.Phase.TheVariants.{Running}
use Rattle.iso_types.specs.declared.head.Head.{Head}
use Rattle.iso_types.specs.declared.items.StepFault.{StepFault}
use Rattle.iso_types.specs.declared.value.Conn.{Conn}
use Rattle.iso_types.specs.declared.value.Name.{Name}
use Rattle.iso_types.specs.declared.value.Name.TheVariants.{Table}
use Rattle.iso_types.specs.declared.value.TableId.{TableId}

-- a step that goes on
pub goes : (head : Head) (es new : List Entry) (c : Conn) (a : Act) (kept : Kept) → new ≡ es ++ by_agent c a ∷ [] → ends a ≡ false
    → Tells kept (heard (world head es) (after head (world head es) (by_agent c a)) c a) → HasPin kept → HasStepped head es new c a (Goes kept)
goes head es new c a kept is unended tells pin =
    (is, unended, subst (λ v. Tells kept (heard (world head es) v c a)) (sym (ap (world head) is ∙ world-snoc head es (by_agent c a))) tells, pin)

-- a step that can't be made for a fault
pub stops-by : (head : Head) (es new : List Entry) (c : Conn) (a : Act) (fault : StepFault) → new ≡ es
    → may_stop head (world head es) c Memory ≡ true
    → (fault ≡ StepFault.HistoryFull → is_full head (world head es) (by_agent c a) ≡ true)
    → HasStepped head es new c a (Stops (cause_of fault))
stops-by head es new c a StepFault.Memory same may full = (same, may)
stops-by head es new c a StepFault.HistoryFull same may full = (same, full refl)

-- who runs may stop for want of memory
pub running-stops : (head : Head) (w : World) (c : Conn) → phase w c ≡ Running → may_stop head w c Memory ≡ true
running-stops head w c runs = rw runs refl

module _ (head : Head) (w : World) (c : Conn) (runs : phase w c ≡ Running) where
  -- the connection waits after its entry
  abbrev waits_after : Act → Bool
  waits_after a = is_phase (phase (after head w (by_agent c a)) c) Phase.Waiting

  abbrev heard_after : Act → List Told
  heard_after a = heard w (after head w (by_agent c a)) c a

  -- after an escalation that is granted it runs on, after one that queues it waits
  granted-runs : (t : TableId) (m : Mode) → waits_after (Lock (Table t) m IsKept Escalation Got.Granted) ≡ false
  granted-runs t m = rw runs refl

  queued-waits : (t : TableId) (m k : Mode) → waits_after (Lock (Table t) m IsKept Escalation (Got.Queued k)) ≡ true
  queued-waits t m k =
      let parts = running w c runs in
      rw (parts.ended_is, parts.closing_is, parts.doomed_is, waiting-queued w.holds (record { name = Table t; conn = c; target = k; term = IsKept }) w.waits c (conn_eq-refl c)) refl

  escalated-kept : (t : TableId) (m : Mode) (o : Outcome) (b : Bool) → b ≡ waits_after (escalated_by t m o)
      → Tells (kept_of_lock (answer_of (escalated_by t m o)) b) (heard_after (escalated_by t m o))
  escalated-kept t m (Gives Got.Granted) b e = subst (λ x. Told.Escalates t ∷ [] ≡ told_list (Told.Escalates t) x) (sym (e ∙ granted-runs t m)) refl
  escalated-kept t m (Gives (Got.Queued k)) b e = subst (λ x. Told.Escalates t ∷ Told.Queued ∷ [] ≡ told_list (Told.Escalates t) x) (sym (e ∙ queued-waits t m k)) refl
  escalated-kept t m (Gives Got.TimedOut) b e = refl
  escalated-kept t m Limit b e = refl

  escalated-ends : (t : TableId) (m : Mode) (o : Outcome) → ends (escalated_by t m o) ≡ false
  escalated-ends t m (Gives got) = refl
  escalated-ends t m Limit = refl

  -- at the lock limit
  limit-kept-by : (o : Option (TableId × Mode)) (b : Bool) → b ≡ waits_after (limited_by head w c o)
      → Tells (kept_of_lock (answer_of (limited_by head w c o)) b) (heard_after (limited_by head w c o))
  limit-kept-by None b e = refl
  limit-kept-by (Some p) b e = escalated-kept p.0 p.1 (request head w c (Table p.0) p.1) b e

  pub limit-kept : (b : Bool) → b ≡ waits_after (at_limit head w c) → Tells (kept_of_lock (answer_of (at_limit head w c)) b) (heard_after (at_limit head w c))
  limit-kept b e = limit-kept-by (escalation head w c) b e

  limit-ends-by : (o : Option (TableId × Mode)) → ends (limited_by head w c o) ≡ false
  limit-ends-by None = refl
  limit-ends-by (Some p) = escalated-ends p.0 p.1 (request head w c (Table p.0) p.1)

  pub limit-ends : ends (at_limit head w c) ≡ false
  limit-ends = limit-ends-by (escalation head w c)

  -- what is kept of a lock pins nothing
  pub lock-pins : (answer : LockAnswer) (b : Bool) → HasPin (kept_of_lock answer b)
  lock-pins LockAnswer.Done b = tt
  lock-pins LockAnswer.Queued b = tt
  lock-pins LockAnswer.TimedOut b = tt
  lock-pins (LockAnswer.Escalates t) b = tt
  lock-pins (LockAnswer.Refused code) b = tt

  -- a lock that is asked for
  asked-kept : (n : Name) (m : Mode) (o : Outcome) (b : Bool) → b ≡ waits_after (asked_by head w c n m o)
      → Tells (kept_of_lock (answer_of (asked_by head w c n m o)) b) (heard_after (asked_by head w c n m o))
  asked-kept n m (Gives Got.Granted) b e = refl
  asked-kept n m (Gives (Got.Queued k)) b e = refl
  asked-kept n m (Gives Got.TimedOut) b e = refl
  asked-kept n m Limit b e = limit-kept b e

  asked-ends : (n : Name) (m : Mode) (o : Outcome) → ends (asked_by head w c n m o) ≡ false
  asked-ends n m (Gives got) = refl
  asked-ends n m Limit = limit-ends

  pub lock-kept : (n : Name) (m : Mode) (answer : LockAnswer) (b : Bool) → answer ≡ answer_of (asked_by head w c n m (request head w c n m))
      → b ≡ waits_after (asked_by head w c n m (request head w c n m))
      → Tells (kept_of_lock answer b) (heard_after (asked_by head w c n m (request head w c n m)))
  lock-kept n m answer b is e =
      subst (λ x. Tells (kept_of_lock x b) (heard_after (asked_by head w c n m (request head w c n m)))) (sym is) (asked-kept n m (request head w c n m) b e)

  pub lock-ends : (n : Name) (m : Mode) → ends (asked_by head w c n m (request head w c n m)) ≡ false
  lock-ends n m = asked-ends n m (request head w c n m)

-- whether the connection waits now, told of the new parts
pub waits-now : (head now : Head) (es new : List Entry) (c : Conn) (a : Act) (b : Bool) → now ≡ head → new ≡ es ++ by_agent c a ∷ []
    → b ≡ is_phase (phase (world now new) c) Phase.Waiting → b ≡ is_phase (phase (after head (world head es) (by_agent c a)) c) Phase.Waiting
waits-now head now es new c a b same is e =
    e ∙ ap (λ h. is_phase (phase (world h new) c) Phase.Waiting) same
    ∙ ap (λ w. is_phase (phase w c) Phase.Waiting) (ap (world head) is ∙ world-snoc head es (by_agent c a))

-- the step of a lock
pub lock-stepped : (head now : Head) (es new : List Entry) (c : Conn) (n : Name) (m : Mode) (answer : LockAnswer) (b : Bool) → phase (world head es) c ≡ Running
    → now ≡ head → new ≡ es ++ by_agent c (asked_by head (world head es) c n m (request head (world head es) c n m)) ∷ []
    → answer ≡ answer_of (asked_by head (world head es) c n m (request head (world head es) c n m))
    → b ≡ is_phase (phase (world now new) c) Phase.Waiting
    → HasStepped head es new c (asked_by head (world head es) c n m (request head (world head es) c n m)) (Goes (kept_of_lock answer b))
lock-stepped head now es new c n m answer b runs same is told waits =
    let w = world head es in
    goes head es new c (asked_by head w c n m (request head w c n m)) (kept_of_lock answer b) is (lock-ends head w c runs n m)
    (lock-kept head w c runs n m answer b told (waits-now head now es new c _ b same is waits)) (lock-pins head w c runs answer b)
