-- What the step that is due leaves of its agent, or why it stops.
use Rattle.std.proofs.Common.{◌≡◌, ◌≤◌, Bool, true, false, not, List, [], ◌∷◌, ◌++◌, refl, sym, ap, ◌∙◌, subst, Some, None, arith, ◌+◌, length, if◌then◌else◌}
use Rattle.std.specs.List.{list_all}
use Rattle.iso_agent.proofs.Leaves.{goes-leaves, goes-may, over-leaves, stop-may, world-now}
use Rattle.iso_agent.proofs.Running.{past-from}
use Rattle.iso_agent.proofs.Wants.{can-heard, wants-runs}
use Rattle.iso_agent.specs.Fits.{wants}
use Rattle.iso_agent.specs.Scans.{IsSoundPoint}
use Rattle.iso_agent.specs.Steps.{HasStepped, IsWanting, act_due}
use Rattle.iso_agent.specs.Turns.{Leaves}
use Rattle.iso_agent.specs.declared.agent.Kept.{Kept}
use Rattle.iso_agent.specs.declared.agent.Kept.TheVariants.{Nothing}
use Rattle.iso_agent.specs.declared.stepped.Stepped.TheVariants.{Goes, Over}
use Rattle.iso_conduct.proofs.Heard.{made-heard}
use Rattle.iso_conduct.proofs.MadeStands.{made-stands}
use Rattle.iso_conduct.specs.Answers.{AreAnswers}
use Rattle.iso_conduct.specs.Conduct.{Conduct, MayIn, heard, made, point, ready}
use Rattle.iso_conduct.specs.Points.{Point}
use Rattle.iso_conduct.specs.Standing.{MayGoOn}
use Rattle.iso_history.proofs.limits.Within.{limit-holds}
use Rattle.iso_history.proofs.whole.Journal.{first-fitted, log_sound-world}
use Rattle.iso_history.proofs.whole.Sound.{sound-world}
use Rattle.iso_history.specs.After.{start, world}
use Rattle.iso_history.specs.Fitted.{RowsFit}
use Rattle.iso_history.specs.Legal.{Allowed, By, Ground, GroundFrom}
use Rattle.iso_history.specs.Stops.{is_full, needs}
use Rattle.iso_history.specs.Makers.{by_agent}
use Rattle.iso_history.specs.Phases.{phase}
use Rattle.iso_history.specs.World.{World}
use Rattle.iso_history.specs.declared.entry.Act.TheVariants.{Stopped}
use Rattle.iso_history.specs.declared.entry.Cause.{Cause}
use Rattle.iso_history.specs.declared.entry.Cause.TheVariants.{History, Memory}
use Rattle.iso_history.specs.declared.entry.Entry.{Entry}
use Rattle.iso_history.specs.declared.entry.Who.TheVariants.{Agent}
use Rattle.iso_script.specs.Sound.{IsSound}
use Rattle.iso_script.specs.declared.script.Line.{Line}
use Rattle.iso_script.specs.declared.script.Script.{Script}
use Rattle.iso_standing.specs.Going.{GoesOn}
use Rattle.iso_types.specs.Head.{is_conn, row_fits}
use Rattle.iso_types.specs.declared.desk.Phase.TheVariants.{Running}
use Rattle.iso_types.specs.declared.head.Head.{Head}
use Rattle.iso_types.specs.declared.value.Conn.{Conn}

-- what was appended may stand
last-allowed : (head : Head) (es : List Entry) (e : Entry) → Ground head (es ++ e ∷ []) → Allowed head (world head es) e
unfolding Ground GroundFrom world
last-allowed head es e g = (past-from head (start head) es (e ∷ []) g).0.0

made-by : (head : Head) (w : World) (c : Conn) (p : Point) (b : Bool) → is_full head w (by_agent c (act_due head w c p)) ≡ b
    → made head w c p ≡ (if b then Stopped History else act_due head w c p)
made-by head w c p b e = ap (λ (x : Bool). if x then Stopped History else act_due head w c p) e

not-full : (b : Bool) → not b ≡ true → b ≡ false
not-full true e = absurd (cc)
not-full false e = refl

module _ (head : Head) (lines : List Line) (es : List Entry) (c : Conn) (p : Point) (ground : Ground head es) (conduct : Conduct head lines es c)
    (goes : GoesOn (world head es) c) (is_ready : ready head lines (world head es) c (point head lines es c) ≡ Some p) where
  -- the entry that was made is the one that conduct names
  pub made-of : (new : List Entry) → Ground head new → new ≡ es ++ by_agent c (act_due head (world head es) c p) ∷ []
      → made head (world head es) c p ≡ act_due head (world head es) c p
  made-of new g is =
      let al = last-allowed head es (by_agent c (act_due head (world head es) c p)) (subst (Ground head) is g) in
      made-by head (world head es) c p false (not-full (is_full head (world head es) (by_agent c (act_due head (world head es) c p))) al.1)

  -- a step that goes on
  pub stepped-leaves : (new : List Entry) → Ground head new → length head.conns ≤ 32 → list_all (λ f. row_fits head f.table f.row) head.rows ≡ true
      → IsSoundPoint head (world head es) p → (kept : Kept) → HasStepped head es new c (act_due head (world head es) c p) (Goes kept)
      → Leaves head lines new c (Some p) kept
  stepped-leaves new g few rows sound kept stepped =
      goes-leaves head lines es new c (act_due head (world head es) c p) stepped.0 conduct
      (goes-may head lines (world head es) c (point head lines es c) goes p is_ready (act_due head (world head es) c p) m) goes.1 stepped.1 p is_ready
      kept stepped.2 stepped.3 runs (can-heard head (world head es) (world head new) c p sound made_few fits answers)
    where
      m : made head (world head es) c p ≡ act_due head (world head es) c p
      m = made-of new g stepped.0

      al : Allowed head (world head es) (by_agent c (act_due head (world head es) c p))
      al = last-allowed head es (by_agent c (act_due head (world head es) c p)) (subst (Ground head) stepped.0 g)

      runs : wants p (heard (world head es) (world head new) c (act_due head (world head es) c p)) ≡ true → phase (world head new) c ≡ Running
      runs want = ap (λ v. phase v c) (world-now head lines es new c (act_due head (world head es) c p) stepped.0)
          ∙ wants-runs head (world head es) (world head new) c p ((sound-world head es ground).course.each c) (act_due head (world head es) c p) al.2.1 want

      made_few : (world head es).made ≤ 2000000
      made_few = let l : (world head es).made + needs head (world head es) ≤ 2000000 = limit-holds head es few ground in omega (arith, l)

      fits : RowsFit head (world head es).tables
      fits = (log_sound-world head es (first-fitted head rows) ground).fitted

      answers : AreAnswers p (heard (world head es) (world head new) c (act_due head (world head es) c p))
      answers = subst (λ x. AreAnswers p (heard (world head es) (world head new) c x)) m (made-heard head (world head es) (world head new) c p)

  -- one that ends its statement
  pub ended-leaves : (new : List Entry) → Ground head new → HasStepped head es new c (act_due head (world head es) c p) Over
      → Leaves head lines new c None Nothing
  ended-leaves new g stepped =
      over-leaves head lines es new c (act_due head (world head es) c p) stepped.0 conduct
      (goes-may head lines (world head es) c (point head lines es c) goes p is_ready (act_due head (world head es) c p) (made-of new g stepped.0)) stepped.1

  made-stop : (cause : Cause) → made head (world head es) c p ≡ Stopped cause → Allowed head (world head es) (by_agent c (made head (world head es) c p))
      → By head (world head es) (Agent c) (Stopped cause) × MayIn (phase (world head es) c) head lines (world head es) c (point head lines es c) (Stopped cause)
  made-stop cause m al =
      (subst (λ x. By head (world head es) (Agent c) x) m al.2, goes-may head lines (world head es) c (point head lines es c) goes p is_ready (Stopped cause) m)

  -- one that can't be made
  pub stops-made : is_conn head c ≡ true → Allowed head (world head es) (by_agent c (made head (world head es) c p)) → (cause : Cause)
      → IsWanting head (world head es) c (act_due head (world head es) c p) cause
      → By head (world head es) (Agent c) (Stopped cause) × MayIn (phase (world head es) c) head lines (world head es) c (point head lines es c) (Stopped cause)
  stops-made known al Memory want = ((known, want), stop-may head lines (world head es) c (point head lines es c) want)
  stops-made known al History want = made-stop History (made-by head (world head es) c p true want) al
  stops-made known al Cause.Table want = made-stop Cause.Table (made-by head (world head es) c p false (never want) ∙ want) al
    where
      never : act_due head (world head es) c p ≡ Stopped Cause.Table → is_full head (world head es) (by_agent c (act_due head (world head es) c p)) ≡ false
      never e = ap (λ x. is_full head (world head es) (by_agent c x)) e

-- the law of steps that may be made, over the parts' head
pub made-at : (script : Script) (head : Head) (es : List Entry) (c : Conn) (p : Point) → head ≡ script.head → IsSound script → Ground head es
    → is_conn head c ≡ true → (world head es).pace.finished ≡ false → MayGoOn head (world head es) c p
    → Allowed head (world head es) (by_agent c (made head (world head es) c p))
made-at script head es c p is sound =
    subst (λ h. Ground h es → is_conn h c ≡ true → (world h es).pace.finished ≡ false → MayGoOn h (world h es) c p
    → Allowed h (world h es) (by_agent c (made h (world h es) c p))) (sym is) (made-stands script es c p sound)
