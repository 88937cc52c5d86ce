-- What is told without an entry is an answer of its step; and a way back to a savepoint is one of a connection that runs.
use Rattle.std.proofs.Common.{◌≡◌, ◌∙◌, ℕ, Bool, true, false, List, refl, sym, ap, subst, Option, Some, None, find, if◌then◌else◌}
use Rattle.std.specs.Option.{option_map}
use Rattle.std.specs.Prelude.{◌==◌, IfSome, is_none}
use Rattle.iso_agent.specs.Quiet.{RunsForBack}
use Rattle.iso_conduct.proofs.Quiet.{quiet-twice}
use Rattle.iso_conduct.specs.Answers.{answers}
use Rattle.iso_conduct.specs.Conduct.{has_left, opened, quiet, quiet_back, quiet_claim, quieted, ready, statement_at, statement_on}
use Rattle.iso_conduct.specs.Points.{Point, due, row_due, start_point, told_point}
use Rattle.iso_conduct.specs.Standing.{MayGoOn, MayMake}
use Rattle.iso_conduct.specs.Starts.{setting_of}
use Rattle.iso_conduct.specs.declared.moves.Move.{Move}
use Rattle.iso_conduct.specs.declared.moves.Told.{Told}
use Rattle.iso_history.proofs.limits.Courses.{running}
use Rattle.iso_history.specs.Legal.{Runs}
use Rattle.iso_history.specs.Marks.{mark_of}
use Rattle.iso_history.specs.Phases.{phase}
use Rattle.iso_history.specs.World.{World}
use Rattle.iso_history.specs.declared.entry.Want.{Want}
use Rattle.iso_script.specs.declared.script.Line.{Line}
use Rattle.iso_sql.specs.declared.statement.Statement.{Statement}
use Rattle.iso_state.specs.Stands.{IsDeskOf}
use Rattle.iso_types.specs.declared.desk.Desk.{Desk}
use Rattle.iso_types.specs.declared.desk.Phase.{Phase}
use Rattle.iso_types.specs.declared.desk.Phase.TheVariants.{Rolling, Running}
use Rattle.iso_types.specs.declared.head.Head.{Head}
use Rattle.iso_types.specs.declared.head.Range.{Range}
use Rattle.iso_types.specs.declared.value.Conn.{Conn}
use Rattle.iso_types.specs.declared.value.IndexId.{IndexId}
use Rattle.iso_types.specs.declared.value.Rid.{Rid}
use Rattle.iso_types.specs.declared.value.TableId.{TableId}
use Rattle.iso_types.specs.declared.value.Value.{Value}

pub quiet-answers : (w : World) (c : Conn) (m : Move) (t : Told) → quiet w c m ≡ Some t → answers m t ≡ true
quiet-answers w c Move.Claim t e = ended (phase w c) (w.doom c) e
  where
    ended : (f : Phase) (o : Option ℕ) → quiet_claim f o ≡ Some t → answers Move.Claim t ≡ true
    ended Rolling (Some reason) h = let q : Told.Ended reason ≡ t = cc in subst (λ x. answers Move.Claim x ≡ true) q refl
    ended _ _ h = absurd (cc)
quiet-answers w c (Move.Undo floor) t e = undone (has_left w c floor) e
  where
    undone : (b : Bool) → (if b then None else Some (Told.Undone false)) ≡ Some t → answers (Move.Undo floor) t ≡ true
    undone true h = absurd (cc)
    undone false h = let q : Told.Undone false ≡ t = cc in subst (λ x. answers (Move.Undo floor) x ≡ true) q refl
quiet-answers w c (Move.Back name) t e = back (mark_of (w.marks c) name) e
  where
    back : (o : Option ℕ) → quiet_back o ≡ Some t → answers (Move.Back name) t ≡ true
    back None h = let q : Told.Floor None ≡ t = cc in subst (λ x. answers (Move.Back name) x ≡ true) q refl
    back (Some at) h = absurd (cc)
quiet-answers w c _ t e = absurd (cc)

-- ---- ways back

abbrev told_by : Point → Option Told → Point
told_by p o = elim o [ None ↦ p | Some t ↦ told_point p t ]

-- a look is answered by no more than its entry
pub look_quiet : (w : World) (c : Conn) (p : Point) (t : TableId) (r : Rid) (want : Want) → due p ≡ Move.Look t r want → p ≡ quieted w c (quieted w c p)
look_quiet w c p t r want e =
    let once : quieted w c p ≡ p = ap (told_by p) (ap (quiet w c) e) in
    sym (ap (quieted w c) once ∙ once)

-- nor is a step of an index scan
pub next_quiet : (w : World) (c : Conn) (p : Point) (i : IndexId) (range : Range) (after : Option (Value × Rid)) (guarded : Bool)
    → due p ≡ Move.Next i range after guarded → p ≡ quieted w c (quieted w c p)
next_quiet w c p i range after guarded e =
    let once : quieted w c p ≡ p = ap (told_by p) (ap (quiet w c) e) in
    sym (ap (quieted w c) once ∙ once)

-- where the first point is one whose step may be made
pub back-runs : (head : Head) (w : World) (c : Conn) (p : Point) → MayGoOn head w c (quieted w c (quieted w c p)) → RunsForBack w c (due p)
back-runs head w c p may = go (due p) refl
  where
    back : (name : List ℕ) → due p ≡ Move.Back name → (o : Option ℕ) → mark_of (w.marks c) name ≡ o → Runs w c
    back name e None m =
        let told : quiet w c (due p) ≡ Some (Told.Floor None) = ap (quiet w c) e ∙ ap quiet_back m in
        let once : quieted w c p ≡ told_point p (Told.Floor None) = ap (told_by p) told in
        (subst (MayGoOn head w c) (ap (quieted w c) once) may).0
    back name e (Some at) m =
        let told : quiet w c (due p) ≡ None = ap (quiet w c) e ∙ ap quiet_back m in
        let once : quieted w c p ≡ p = ap (told_by p) told in
        (subst (MayMake head w c (row_due p)) e (subst (MayGoOn head w c) (ap (quieted w c) once ∙ once) may)).0

    go : (m : Move) → due p ≡ m → RunsForBack w c m
    go (Move.Back name) e = back name e (mark_of (w.marks c) name) refl
    go _ e = tt

-- the third time nothing is told
pub quieted-thrice : (w : World) (c : Conn) (p : Point) → quieted w c (quieted w c (quieted w c p)) ≡ quieted w c (quieted w c p)
quieted-thrice w c p = ap (told_by (quieted w c (quieted w c p))) (quiet-twice w c p)

-- the first point, from the task of the open statement
pub ready-is : (head : Head) (lines : List Line) (w : World) (c : Conn) (task o : Option Point) (p : Point) → task ≡ o
    → opened head lines w c task ≡ Some p → ready head lines w c o ≡ Some (quieted w c (quieted w c p))
ready-is head lines w c task o p is e = ap (option_map (λ x. quieted w c (quieted w c x))) (ap (opened head lines w c) (sym is) ∙ e)

-- ---- the task that a desk begins

setting-is : (w : World) (c : Conn) (d : Desk) → IsDeskOf w c d → setting_of d ≡ w.setting c
setting-is w c d h = λ i. record { level = h.isolation i; may_wait = h.may_wait i }

pub desk-opens : (head : Head) (lines : List Line) (w : World) (c : Conn) (d : Desk) → IsDeskOf w c d → phase w c ≡ Running
    → option_map (start_point head c (setting_of d) d.start) (statement_on c (find (λ l. l.number == d.line) lines)) ≡ opened head lines w c None
desk-opens head lines w c d h runs = go (w.line c) refl h.line
  where
    unshut : (b : Bool) → b ≡ true → b ≡ false → (P : Type 0) → P
    unshut b t f P = absurd (cc)

    begun : (s : Option Statement) → option_map (start_point head c (setting_of d) d.start) s ≡ option_map (start_point head c (w.setting c) (w.floor c)) s
    begun s = λ i. option_map (start_point head c (setting-is w c d h i) (h.start i)) s

    go : (o : Option ℕ) → w.line c ≡ o → IfSome o (λ n. d.line ≡ n)
        → option_map (start_point head c (setting_of d) d.start) (statement_on c (find (λ l. l.number == d.line) lines))
        ≡ option_map (start_point head c (w.setting c) (w.floor c)) (statement_at lines c (w.line c))
    go None e k = let q : is_none (w.line c) ≡ true = ap (λ (o : Option ℕ). is_none o) e in unshut (is_none (w.line c)) q (running w c runs).shut_is _
    go (Some n) e k =
        ap (λ x. option_map (start_point head c (setting_of d) d.start) (statement_on c (find (λ l. l.number == x) lines))) k
        ∙ begun (statement_on c (find (λ l. l.number == n) lines))
        ∙ ap (λ o. option_map (start_point head c (w.setting c) (w.floor c)) (statement_at lines c o)) (sym e)
