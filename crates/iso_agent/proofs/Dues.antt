-- No Collapse is due of a closing connection.
use Rattle.std.proofs.Common.{◌≡◌, ℕ, Bool, true, false, ◌&&◌, List, refl, sym, ap, ◌∙◌, subst, Option, Some, None, if◌then◌else◌}
use Rattle.std.specs.Prelude.{is_none, is_some}
use Rattle.iso_history.proofs.Snoc.{along}
use Rattle.iso_history.proofs.limits.Courses.{idle, is_phase-is, least-idle-is, on_course-after, on_course-start, running, waiting}
use Rattle.iso_history.proofs.limits.Others.{others-agent}
use Rattle.iso_history.proofs.limits.Stations.{closing-parts}
use Rattle.iso_history.proofs.limits.Waiting.{conn_eq-is, conn_eq-refl}
use Rattle.iso_history.specs.After.{after, world}
use Rattle.iso_history.specs.Courses.{CourseAt, OnCourse}
use Rattle.iso_history.specs.Lasts.{due_of}
use Rattle.iso_history.specs.Legal.{By, ByAgent, ByDispatcher, Ground, may_undo}
use Rattle.iso_history.specs.Makers.{by_agent, by_dispatcher}
use Rattle.iso_history.specs.Phases.{phase}
use Rattle.iso_history.specs.World.{World}
use Rattle.iso_history.specs.declared.entry.Act.{Act}
use Rattle.iso_history.specs.declared.entry.Act.TheVariants.{Claim, Close, Dispatch, Lock}
use Rattle.iso_history.specs.declared.entry.Entry.{Entry}
use Rattle.iso_history.specs.declared.entry.Who.{Who}
use Rattle.iso_history.specs.declared.entry.Who.TheVariants.{Agent, Dispatcher}
use Rattle.iso_queue.specs.Queues.{is_waiting}
use Rattle.iso_types.specs.Ids.{conn_eq}
use Rattle.iso_types.specs.declared.desk.Phase.{Phase}
use Rattle.iso_types.specs.declared.desk.Phase.TheVariants.{Closing, Idle}
use Rattle.iso_types.specs.declared.head.Head.{Head}
use Rattle.iso_types.specs.declared.value.Conn.{Conn}

-- none is due of a connection that closes, or has no open statement
pub record IsUndue (w : World) (c : Conn) : Type 0 where
  pub closing : w.closing c ≡ true → w.due c ≡ None
  pub shut : is_none (w.line c) ≡ true → w.due c ≡ None

both : (b : Bool) → b ≡ true → b ≡ false → (P : Type 0) → P
both b t f P = absurd (cc)

and-first : (a b : Bool) → (a && b) ≡ true → a ≡ true
and-first true b e = refl
and-first false b e = absurd (cc)

-- an own entry that makes none due
own-none : (head : Head) (w : World) (c : Conn) (a : Act) → due_of a (w.last c) ≡ None → IsUndue (after head w (by_agent c a)) c
own-none head w c a e =
    let none : (after head w (by_agent c a)).due c ≡ None = ap (λ (b : Bool). if b then due_of a (w.last c) else w.due c) (conn_eq-refl c) ∙ e in
    record { closing = λ k. none; shut = λ k. none }

own-undue : (head : Head) (w : World) (c : Conn) (a : Act) → ByAgent head w c a → CourseAt w c → IsUndue (after head w (by_agent c a)) c
own-undue head w c (Lock n m t why got) by course = let r = running w c by.0.0 in
    record { closing = λ k. both (w.closing c) k r.closing_is _; shut = λ k. both (is_none (w.line c)) k r.shut_is _ }
own-undue head w c Claim by course = let r = waiting w c course (is_phase-is (phase w c) Phase.Waiting (and-first _ _ by)) in
    record { closing = λ k. both (w.closing c) k r.closing_is _; shut = λ k. both (is_none (w.line c)) k r.shut_is _ }
own-undue head w c a by course = own-none head w c a refl

agent-undue : (head : Head) (w : World) (d : Conn) (a : Act) → ByAgent head w d a → OnCourse w → ((c : Conn) → IsUndue w c) → (c : Conn)
    → IsUndue (after head w (by_agent d a)) c
agent-undue head w d a by course u c = go (conn_eq c d) refl
  where
    go : (b : Bool) → conn_eq c d ≡ b → IsUndue (after head w (by_agent d a)) c
    go true e = subst (IsUndue (after head w (by_agent d a))) (sym (conn_eq-is c d e)) (own-undue head w d a by (course.each d))
    go false e =
        let same = others-agent head w d a c e in
        let due : (after head w (by_agent d a)).due c ≡ w.due c = ap (λ (b : Bool). if b then due_of a (w.last d) else w.due c) e in
        record {
          closing = λ k. due ∙ (u c).closing (sym same.closing_same ∙ k);
          shut = λ k. due ∙ (u c).shut (ap (λ (o : Option ℕ). is_none o) (sym same.line_same) ∙ k);
        }

dispatcher-undue : (head : Head) (w : World) (a : Act) → ByDispatcher head w a → ((c : Conn) → IsUndue w c) → (c : Conn)
    → IsUndue (after head w (by_dispatcher a)) c
dispatcher-undue head w (Dispatch line d) by u c = record { closing = (u c).closing; shut = λ k. go (conn_eq c d) k }
  where
    go : (b : Bool) → is_none (if b then Some line else w.line c) ≡ true → w.due c ≡ None
    go true k = absurd (cc)
    go false k = (u c).shut k
dispatcher-undue head w (Close d) by u c = record { closing = λ k. go (conn_eq c d) refl k; shut = (u c).shut }
  where
    go : (b : Bool) → conn_eq c d ≡ b → (if b then true else w.closing c) ≡ true → w.due c ≡ None
    go true e k = (u c).shut (idle w c (subst (λ x. phase w x ≡ Idle) (sym (conn_eq-is c d e)) (least-idle-is head w d by.1))).shut_is
    go false e k = (u c).closing k
dispatcher-undue head w _ by u c = record { closing = (u c).closing; shut = (u c).shut }

entry-undue : (head : Head) (w : World) (who : Who) (a : Act) → By head w who a → OnCourse w → ((c : Conn) → IsUndue w c) → (c : Conn)
    → IsUndue (after head w (record { who = who; act = a })) c
entry-undue head w Dispatcher a by course u = dispatcher-undue head w a by u
entry-undue head w (Agent d) a by course u = agent-undue head w d a by.1 course u

abbrev Undue : World → Type 0
Undue w = OnCourse w × ((c : Conn) → IsUndue w c)

undue-along : (head : Head) (es : List Entry) → Ground head es → Undue (world head es)
undue-along head es g =
    along head Undue (λ w e al p. (on_course-after head w e al p.0, entry-undue head w e.who e.act al.2 p.0 p.1)) es
    (on_course-start head, λ c. record { closing = λ k. refl; shut = λ k. refl }) g

-- so its undos may be made
pub closing-undoes : (head : Head) (es : List Entry) (c : Conn) → Ground head es → phase (world head es) c ≡ Closing → may_undo (world head es) c ≡ true
closing-undoes head es c g e =
    let u = ((undue-along head es g).1 c).closing (closing-is e) in rw (e, u) refl
  where
    closing-is : phase (world head es) c ≡ Closing → (world head es).closing c ≡ true
    closing-is k = (closing-parts ((world head es).ended c) ((world head es).closing c) (is_some ((world head es).doom c)) (is_waiting (world head es).waits c) (is_none ((world head es).line c)) k).closing_is
