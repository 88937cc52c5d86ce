-- Where memory may be wanting for what an entry tells, its connection runs; and what it tells may be told.
use Rattle.std.proofs.Common.{◌≡◌, inl, inr, ◌≤◌, Bool, true, false, ◌||◌, ◌&&◌, List, [], ◌∷◌, refl, sym, subst}
use Rattle.std.specs.List.{list_any}
use Rattle.iso_agent.proofs.LookMade.{IsScanStep, heard-shows, made-look, steps_scan}
use Rattle.iso_agent.proofs.ScanLooks.{looking}
use Rattle.iso_agent.proofs.ScanSteps.{tells_scan}
use Rattle.iso_agent.proofs.ShownRows.{may-tell-shown}
use Rattle.iso_agent.specs.Fits.{CanTell, wants}
use Rattle.iso_agent.specs.Scans.{IsSoundPoint}
use Rattle.iso_agent.specs.Steps.{act_due}
use Rattle.iso_conduct.specs.Answers.{AreAnswers}
use Rattle.iso_conduct.specs.Conduct.{heard, heard_lock}
use Rattle.iso_conduct.specs.Courses.{MayTell}
use Rattle.iso_conduct.specs.Points.{Point, due, row_due, rows_due, told_point}
use Rattle.iso_conduct.specs.declared.moves.Told.{Told}
use Rattle.iso_history.proofs.limits.Courses.{is_phase-is, waiting}
use Rattle.iso_history.proofs.limits.Waiting.{waiting-unqueued}
use Rattle.iso_history.specs.After.{after}
use Rattle.iso_history.specs.Courses.{CourseAt}
use Rattle.iso_history.specs.Fitted.{RowsFit}
use Rattle.iso_history.specs.Legal.{ByAgent, is_fresh_on}
use Rattle.iso_history.specs.Makers.{by_agent}
use Rattle.iso_history.specs.Phases.{phase}
use Rattle.iso_history.specs.World.{World}
use Rattle.iso_history.specs.declared.entry.Act.{Act}
use Rattle.iso_history.specs.declared.entry.Got.{Got}
use Rattle.iso_history.specs.declared.entry.Stand.{Stand}
use Rattle.iso_history.specs.declared.entry.Why.{Why}
use Rattle.iso_history.specs.declared.entry.Why.TheVariants.{Asked, Blocked, Escalation}
use Rattle.iso_types.specs.declared.desk.Phase.{Phase}
use Rattle.iso_types.specs.declared.desk.Phase.TheVariants.{Running}
use Rattle.iso_types.specs.declared.head.Head.{Head}
use Rattle.iso_types.specs.declared.value.Conn.{Conn}
use Rattle.iso_types.specs.declared.value.Name.{Name}
use Rattle.iso_types.specs.declared.value.Name.TheVariants.{Row, Table}

-- ---- memory

queued-wants : (p : Point) (why : Why) (m : _) (n : Name) → wants p (heard_lock why (Got.Queued m) n) ≡ false
queued-wants p Asked m n = refl
queued-wants p Escalation m (Table t) = refl
queued-wants p Blocked m n = refl
queued-wants p _ m _ = refl

unwanted : (b : Bool) → b ≡ false → b ≡ true → (P : Type 0) → P
unwanted b f t P = absurd (cc)

claimed-runs : (head : Head) (w : World) (c : Conn) → CourseAt w c → phase w c ≡ Phase.Waiting → phase (after head w (by_agent c Act.Claim)) c ≡ Running
claimed-runs head w c course e =
    let parts = waiting w c course e in rw (parts.ended_is, parts.closing_is, parts.doomed_is, waiting-unqueued c w.waits, parts.shut_is) refl

and-first : (a b : Bool) → (a && b) ≡ true → a ≡ true
and-first true b e = refl
and-first false b e = absurd (cc)

module _ (head : Head) (w v : World) (c : Conn) (p : Point) (course : CourseAt w c) where
  pub wants-runs : (a : Act) → ByAgent head w c a → wants p (heard w v c a) ≡ true → phase (after head w (by_agent c a)) c ≡ Running
  wants-runs (Act.Lock n m t why Got.Granted) by e = by.0.0
  wants-runs (Act.Lock n m t why (Got.Queued k)) by e = unwanted (wants p (heard_lock why (Got.Queued k) n)) (queued-wants p why k n) e _
  wants-runs (Act.Lock n m t why Got.TimedOut) by e = absurd (cc)
  wants-runs Act.Claim by e = claimed-runs head w c course (is_phase-is (phase w c) Phase.Waiting (and-first _ _ by))
  wants-runs (Act.Look t r want Got.Granted) by e = by.0.0
  wants-runs (Act.Look t r want (Got.Queued k)) by e = absurd (cc)
  wants-runs (Act.Look t r want Got.TimedOut) by e = absurd (cc)
  wants-runs (Act.ScanEnd t n) by e = by.0.0
  wants-runs (Act.Next i range at guarded (Stand.At key r)) by e = by.0.0
  wants-runs (Act.Next i range at guarded Stand.Past) by e = by.0.0
  wants-runs (Act.Next i range at guarded (Stand.Queued n)) by e = absurd (cc)
  wants-runs (Act.Next i range at guarded (Stand.TimedOut n)) by e = absurd (cc)
  wants-runs (Act.Free t r) by e = by.0.0
  wants-runs (Act.Collapse t m) by e = by.0
  wants-runs (Act.Insert t r row) by e = by.0.0
  wants-runs (Act.Update t r row) by e = by.0.0
  wants-runs (Act.Delete t r) by e = by.0.0
  wants-runs (Act.Refused code) by e = by.0.0
  wants-runs (Act.Undo n) by e = absurd (cc)
  wants-runs (Act.Mark name) by e = by.0
  wants-runs (Act.Back name) by e = by.0.0
  wants-runs (Act.Set level may_wait) by e = by.0
  wants-runs _ by e = absurd (cc)

-- ---- what may be told

may-plain : (p : Point) (t : Told) → tells_scan t ≡ false → MayTell p t
may-plain p (Told.Shown shown fresh) e = absurd (cc)
may-plain p _ e = tt

can-by : (p : Point) (ts : List Told) → list_any tells_scan ts ≡ false → AreAnswers p ts → CanTell p ts
can-by p [] e a = tt
can-by p (t ∷ ts) e a = let k = neither (tells_scan t) (list_any tells_scan ts) e in (a.0, may-plain p t k.0, can-by (told_point p t) ts k.1 a.1)
  where
    neither : (a b : Bool) → (a || b) ≡ false → (a ≡ false) × (b ≡ false)
    neither true b h = absurd (cc)
    neither false b h = (refl, h)

-- of the step that is due at a point
pub can-heard : (head : Head) (w v : World) (c : Conn) (p : Point) → IsSoundPoint head w p → w.made ≤ 2000000 → RowsFit head w.tables
    → AreAnswers p (heard w v c (act_due head w c p)) → CanTell p (heard w v c (act_due head w c p))
can-heard head w v c p g few fits answers = go (steps_scan (act_due head w c p)) refl
  where
    by : IsScanStep w (due p) (act_due head w c p) → CanTell p (heard w v c (act_due head w c p))
    by (inl m) =
        let look = looking head w p.statement p.kept p.left m.table m.rid m.want m.move_is g.within in
        subst (λ x. CanTell p (heard w v c x)) (sym m.act_is) (
          (subst (λ x. AreAnswers p (heard w v c x)) m.act_is answers).0,
          may-tell-shown head w p g m.table m.rid look c m.want (is_fresh_on v c (Row m.table m.rid)) few fits,
          tt,
        )
    by (inr m) =
        subst (λ x. CanTell p (heard w v c x)) (sym m.act_is) ((subst (λ x. AreAnswers p (heard w v c x)) m.act_is answers).0, tt, tt)

    go : (b : Bool) → steps_scan (act_due head w c p) ≡ b → CanTell p (heard w v c (act_due head w c p))
    go false e = can-by p (heard w v c (act_due head w c p)) (heard-shows w v c (act_due head w c p) e) answers
    go true e = by (made-look head w c (row_due p) (rows_due p) (due p) e)
