-- Who waits is in phase waiting, and an open statement has a unit.
use Rattle.std.proofs.Common.{◌≡◌, ℕ, Bool, true, false, ◌||◌, List, [], ◌∷◌, zero, suc, arith, refl, ap, sym, ◌∙◌, Some, None, Option, is_some, is_none, subst}
use Rattle.std.proofs.lemmas.Bool.Decides.{nat_tests}
use Rattle.iso_history.specs.After.{after, start}
use Rattle.iso_history.specs.Courses.{CourseAt, OnCourse}
use Rattle.iso_history.specs.Legal.{Allowed, By, ByAgent, ByDispatcher}
use Rattle.iso_history.specs.Paces.{is_stop, pace_by}
use Rattle.std.specs.Option.{option_map_or}
use Rattle.iso_history.specs.Quiet.{least_idle}
use Rattle.iso_types.specs.Head.{conns}
use Rattle.std.specs.Prelude.{◌==◌, find, if◌then◌else◌}
use Rattle.iso_history.specs.Waits.{waits_by}
use Rattle.iso_history.specs.Waits.Joining.{Passes, Quits}
use Rattle.iso_history.specs.Phases.{doom_by, is_phase, phase, phase_number, victim}
use Rattle.iso_history.specs.Phases.Doom.{Dooms, Spares}
use Rattle.iso_history.specs.World.{Pace, World}
use Rattle.iso_history.specs.declared.entry.Act.{Act}
use Rattle.iso_history.specs.declared.entry.Act.TheVariants.{Claim, Close, Commit, Dispatch, Expire, Lock, Look, Next, Reply, Rollback, Stopped, Victim}
use Rattle.iso_history.specs.declared.entry.Entry.{Entry}
use Rattle.iso_history.specs.declared.entry.Got.{Got}
use Rattle.iso_history.specs.declared.entry.Stand.{Stand}
use Rattle.iso_history.specs.declared.entry.Who.{Who}
use Rattle.iso_history.specs.declared.entry.Who.TheVariants.{Agent, Dispatcher}
use Rattle.iso_queue.specs.Queues.{is_waiting}
use Rattle.iso_types.specs.Ids.{conn_eq}
use Rattle.iso_types.specs.declared.desk.Phase.{Phase}
use Rattle.iso_types.specs.declared.desk.Phase.TheVariants.{Closing, Idle, Rolling, Running}
use Rattle.iso_types.specs.declared.head.Head.{Head}
use Rattle.iso_types.specs.declared.value.Conn.{Conn}
use Rattle.iso_history.specs.Makers.{by_agent, by_dispatcher}
use Rattle.iso_history.proofs.limits.Others.{IsSameAt, at-same, others-agent, others-close, others-dispatch, others-expire, others-victim, same-at}
use Rattle.iso_history.proofs.limits.Stations.{HasParts, idle-parts, phase-at, running-parts, waiting-parts}
use Rattle.iso_history.proofs.limits.Waiting.{conn_eq-is, conn_eq-refl, waiting-queued, waiting-unqueued}

pub some_of-shut : (o : Option ℕ) → is_none o ≡ false → is_some o ≡ true
some_of-shut None e = absurd (cc)
some_of-shut (Some n) e = refl

pub shut_of-some : (o : Option ℕ) → is_some o ≡ true → is_none o ≡ false
shut_of-some None e = absurd (cc)
shut_of-some (Some n) e = refl

-- the parts of a connection in this phase
pub running : (w : World) (c : Conn) → phase w c ≡ Running → HasParts w c false false false false false
running w c is = running-parts _ _ _ _ _ is

pub idle : (w : World) (c : Conn) → phase w c ≡ Idle → HasParts w c false false false false true
idle w c is = idle-parts _ _ _ _ _ is

-- a connection that waits has an open statement
pub waiting : (w : World) (c : Conn) → CourseAt w c → phase w c ≡ Phase.Waiting → HasParts w c false false false true false
waiting w c s is =
    let h = waiting-parts _ _ _ _ _ is in
    record {
      ended_is = h.ended_is;
      closing_is = h.closing_is;
      doomed_is = h.doomed_is;
      waiting_is = h.waiting_is;
      shut_is = shut_of-some (w.line c) (s.waits h.waiting_is).1;
    }

-- a connection that runs has an open unit
pub running-unit : (w : World) (c : Conn) → CourseAt w c → phase w c ≡ Running → is_some (w.unit c) ≡ true
running-unit w c s is = s.lines (some_of-shut (w.line c) (running w c is).shut_is)

pub phase-same : (w v : World) (d : Conn) → IsSameAt w v d → phase v d ≡ phase w d
phase-same w v d h = rw (h.ended_same, h.closing_same, h.doom_same, h.waiting_same, h.line_same) refl

course-same : (w v : World) (d : Conn) → IsSameAt w v d → CourseAt w d → CourseAt v d
course-same w v d h s = record {
  waits = λ x. let y = s.waits (sym h.waiting_same ∙ x) in (phase-same w v d h ∙ y.0, ap (λ o. is_some o) h.line_same ∙ y.1);
  lines = λ x. ap (λ o. is_some o) h.unit_same ∙ s.lines (sym (ap (λ o. is_some o) h.line_same) ∙ x);
}

-- a connection that does not wait
course-free : (v : World) (c : Conn) → is_waiting v.waits c ≡ false → (is_some (v.line c) ≡ true → is_some (v.unit c) ≡ true) → CourseAt v c
course-free v c e l = record { waits = λ x. absurd (cc); lines = l }

-- a request of a running connection that queues
course-queued : (w v : World) (c : Conn) → CourseAt w c → phase w c ≡ Running → v.ended c ≡ w.ended c → v.closing c ≡ w.closing c
    → v.doom c ≡ w.doom c → is_waiting v.waits c ≡ true → v.line c ≡ w.line c → v.unit c ≡ w.unit c → CourseAt v c
course-queued w v c s is e f d x l u =
    let h = running w c is in
    record {
      waits = λ _. (
        phase-at v c false false false true false (record {
          ended_is = e ∙ h.ended_is;
          closing_is = f ∙ h.closing_is;
          doomed_is = ap (λ o. is_some o) d ∙ h.doomed_is;
          waiting_is = x;
          shut_is = ap (λ o. is_none o) l ∙ h.shut_is;
        }),
        ap (λ o. is_some o) l ∙ some_of-shut (w.line c) h.shut_is,
      );
      lines = λ y. ap (λ o. is_some o) u ∙ s.lines (sym (ap (λ o. is_some o) l) ∙ y);
    }

-- an entry that shuts the statement
none-open : (o : Option ℕ) (p : Option ℕ) → o ≡ None → is_some o ≡ true → is_some p ≡ true
none-open o p e x = absurd (cc)

-- an agent's entry, at the agent's own connection
pub course-maker : (head : Head) (w : World) (c : Conn) (a : Act) → ByAgent head w c a → CourseAt w c → CourseAt (after head w (by_agent c a)) c
course-maker head w c (Lock name mode term why (Got.Queued m)) al s =
    course-queued w _ c s al.0.0 refl refl refl (waiting-queued w.holds _ w.waits c (conn_eq-refl c)) refl refl
course-maker head w c (Look t r want (Got.Queued m)) al s =
    course-queued w _ c s al.0.0 refl refl refl (waiting-queued w.holds _ w.waits c (conn_eq-refl c)) refl refl
course-maker head w c (Next i range at guarded (Stand.Queued n)) al s =
    course-queued w _ c s al.0.0 refl refl refl (waiting-queued w.holds _ w.waits c (conn_eq-refl c)) refl refl
course-maker head w c (Lock name mode term why Got.TimedOut) al s = course-free _ c (running w c al.0.0).waiting_is s.lines
course-maker head w c (Look t r want Got.TimedOut) al s = course-free _ c (running w c al.0.0).waiting_is s.lines
course-maker head w c (Next i range at guarded (Stand.TimedOut n)) al s = course-free _ c (running w c al.0.0).waiting_is s.lines
course-maker head w c Claim al s = course-free _ c (waiting-unqueued c w.waits) s.lines
course-maker head w c (Reply code changed rows) al s =
    course-free _ c (running w c al.0).waiting_is (λ x. none-open _ (w.unit c) (at-same w.line c None) x)
course-maker head w c Commit al s = course-free _ c (waiting-unqueued c w.waits) (λ x. none-open _ _ (at-same w.line c None) x)
course-maker head w c (Rollback code reason) al s = course-free _ c (waiting-unqueued c w.waits) (λ x. none-open _ _ (at-same w.line c None) x)
course-maker head w c Act.Ended al s = course-free _ c (waiting-unqueued c w.waits) (λ x. none-open _ _ (at-same w.line c None) x)
course-maker head w c (Stopped cause) al s = course-free _ c (waiting-unqueued c w.waits) s.lines
course-maker head w c _ al s = record { waits = s.waits; lines = s.lines }

-- a Dispatch and a Close, at the connection that they name
pub course-dispatch : (head : Head) (w : World) (line : ℕ) (c : Conn) → phase w c ≡ Idle → CourseAt (after head w (by_dispatcher (Dispatch line c))) c
course-dispatch head w line c is = course-free _ c (idle w c is).waiting_is (λ x. unit_there (at-same w.unit c _))
  where
    unit_there : {o : Option ℕ} {u : ℕ} → o ≡ Some u → is_some o ≡ true
    unit_there e = rw e refl

pub course-close : (head : Head) (w : World) (c : Conn) → phase w c ≡ Idle → CourseAt w c → CourseAt (after head w (by_dispatcher (Close c))) c
course-close head w c is s = course-free _ c (idle w c is).waiting_is s.lines

-- an Expire and a Victim, at the connection whose wait they end
pub course-expire : (head : Head) (w : World) (line : ℕ) (c : Conn) → CourseAt w c → CourseAt (after head w (by_dispatcher (Expire line c true))) c
course-expire head w line c s = course-free _ c (waiting-unqueued c w.waits) s.lines

pub course-victim : (head : Head) (w : World) (cycle : List Conn) (c : Conn) → victim w cycle ≡ Some c → CourseAt w c
    → CourseAt (after head w (by_dispatcher (Victim cycle))) c
course-victim head w cycle c is s = course-free _ c (quit (victim w cycle) is) s.lines
  where
    quit : (o : Option Conn) → o ≡ Some c → is_waiting (waits_by w (option_map_or Quits o Passes)) c ≡ false
    quit o is = rw is (waiting-unqueued c w.waits)

phase_numbered : ℕ → Phase
phase_numbered zero = Idle
phase_numbered (suc zero) = Running
phase_numbered (suc (suc zero)) = Phase.Waiting
phase_numbered (suc (suc (suc zero))) = Rolling
phase_numbered (suc (suc (suc (suc zero)))) = Closing
phase_numbered _ = Phase.Ended

numbered : (p : Phase) → phase_numbered (phase_number p) ≡ p
unfolding phase_numbered
numbered Idle = refl
numbered Running = refl
numbered Phase.Waiting = refl
numbered Rolling = refl
numbered Closing = refl
numbered Phase.Ended = refl

-- the phase, from its test
pub is_phase-is : (p q : Phase) → is_phase p q ≡ true → p ≡ q
is_phase-is p q e = sym (numbered p) ∙ ap phase_numbered (same (phase_number p) (phase_number q) e) ∙ numbered q
  where
    same : (k n : ℕ) → (k == n) ≡ true → k ≡ n
    same k n e = grind (arith, nat_tests)

-- what is found passes
pub find-passes : {A : Type 0} (p : A → Bool) (xs : List A) (x : A) → find p xs ≡ Some x → p x ≡ true
find-passes p [] x e = absurd (cc)
find-passes p (y ∷ ys) x e = go (find-passes p ys x) (p y) refl e
  where
    some-is : {A : Type 0} (a b : A) → Some a ≡ Some b → a ≡ b
    some-is a b e = cc

    go : (find p ys ≡ Some x → p x ≡ true) → (b : Bool) → p y ≡ b → (if b then Some y else find p ys) ≡ Some x → p x ≡ true
    go ih true t f = subst (λ z. p z ≡ true) (some-is y x f) t
    go ih false t f = ih f

-- the least idle connection is idle
pub least-idle-is : (head : Head) (w : World) (c : Conn) → least_idle head w ≡ Some c → phase w c ≡ Idle
least-idle-is head w c e = is_phase-is (phase w c) Idle (find-passes (λ d. is_phase (phase w d) Idle) (conns head) c e)

-- where the entry touches one connection, and leaves the others
each-by : (w v : World) (c : Conn) → ((d : Conn) → CourseAt w d) → CourseAt v c → ((d : Conn) → conn_eq d c ≡ false → IsSameAt w v d)
    → (d : Conn) → CourseAt v d
each-by w v c s here same d = go (conn_eq d c) refl
  where
    go : (b : Bool) → conn_eq d c ≡ b → CourseAt v d
    go true e = subst (CourseAt v) (sym (conn_eq-is d c e)) here
    go false e = course-same w v d (same d e) (s d)

each-victim : (head : Head) (w : World) (cycle : List Conn) (o : Option Conn) → victim w cycle ≡ o → ((d : Conn) → CourseAt w d)
    → (d : Conn) → CourseAt (after head w (by_dispatcher (Victim cycle))) d
each-victim head w cycle (Some c) is s = each-by w _ c s (course-victim head w cycle c is (s c)) (λ d e. others-victim head w cycle c d is e)
each-victim head w cycle None is s = λ d.
    course-same w _ d (same-at _ _ d refl refl (spared d (victim w cycle) is) (passed d (victim w cycle) is) refl refl) (s d)
  where
    spared : (d : Conn) (o : Option Conn) → o ≡ None → doom_by w.doom (option_map_or (λ x. Dooms x 2) o Spares) d ≡ w.doom d
    spared d o is = rw is refl

    passed : (d : Conn) (o : Option Conn) → o ≡ None → is_waiting (waits_by w (option_map_or Quits o Passes)) d ≡ is_waiting w.waits d
    passed d o is = rw is refl

each-dispatcher : (head : Head) (w : World) (a : Act) → ByDispatcher head w a → ((d : Conn) → CourseAt w d)
    → (d : Conn) → CourseAt (after head w (by_dispatcher a)) d
each-dispatcher head w (Dispatch line c) al s = each-by w _ c s (course-dispatch head w line c al.1) (others-dispatch head w line c)
each-dispatcher head w (Expire line c true) al s = each-by w _ c s (course-expire head w line c (s c)) (others-expire head w line c)
each-dispatcher head w (Victim cycle) al s = each-victim head w cycle (victim w cycle) refl s
each-dispatcher head w (Close c) al s = each-by w _ c s (course-close head w c (least-idle-is head w c al.1) (s c)) (others-close head w c)
each-dispatcher head w _ al s = λ d. record { waits = (s d).waits; lines = (s d).lines }

-- the dispatcher's own stop is a stop
halts-after : (p : Pace) (who : Who) (a : Act) → (p.halted ≡ true → p.stopped ≡ true)
    → (pace_by p who a).halted ≡ true → (pace_by p who a).stopped ≡ true
halts-after p Dispatcher a h x = both (is_stop a) p.halted p.stopped h x
  where
    both : (b k m : Bool) → (k ≡ true → m ≡ true) → (b || k) ≡ true → (b || m) ≡ true
    both true k m h x = refl
    both false k m h x = h x
halts-after p (Agent c) a h x = later (is_stop a) (h x)
  where
    later : (b : Bool) → p.stopped ≡ true → (b || p.stopped) ≡ true
    later true e = refl
    later false e = e

pub on_course-after : (head : Head) (w : World) (e : Entry) → Allowed head w e → OnCourse w → OnCourse (after head w e)
on_course-after head w e al s = record { each = go e.who al.2; halts = halts-after w.pace e.who e.act s.halts }
  where
    go : (who : Who) → By head w who e.act → (d : Conn) → CourseAt (after head w (record { who = who; act = e.act })) d
    go Dispatcher a = each-dispatcher head w e.act a s.each
    go (Agent c) a = each-by w _ c s.each (course-maker head w c e.act a.1 (s.each c)) (others-agent head w c e.act)

pub on_course-start : (head : Head) → OnCourse (start head)
on_course-start head = record { each = λ c. record { waits = λ x. absurd (cc); lines = λ x. absurd (cc) }; halts = λ x. absurd (cc) }
