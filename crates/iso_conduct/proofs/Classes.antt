-- Which stage an answer is of.
use Rattle.std.proofs.Common.{◌≡◌, ◌≢◌, ℕ, Bool, true, false, List, ◌∷◌, refl, sym, ap, ◌∙◌, Option, Result, Ok, Err}
use Rattle.iso_conduct.specs.Answers.{answers}
use Rattle.iso_conduct.specs.Courses.{IsSoundAt, columns_in, is_back, is_undo, left_with, part_of, staged}
use Rattle.iso_conduct.specs.Parts.{Part}
use Rattle.iso_conduct.specs.Points.{Haul, change_part, due_by, fault_code}
use Rattle.iso_conduct.specs.declared.course.Course.{Course}
use Rattle.iso_conduct.specs.declared.course.End.{End}
use Rattle.iso_conduct.specs.declared.course.Place.{Place}
use Rattle.iso_conduct.specs.declared.course.Stage.{Stage}
use Rattle.iso_conduct.specs.declared.course.Walk.{Walk}
use Rattle.iso_conduct.specs.declared.moves.Move.{Move}
use Rattle.iso_conduct.specs.declared.moves.Told.{Told}
use Rattle.iso_conduct.proofs.Staged.{left-row_lock}
use Rattle.iso_predicate.specs.Assigned.{Fault, assigned}
use Rattle.iso_sql.specs.declared.statement.Statement.{Statement}
use Rattle.iso_sql.specs.declared.statement.Statement.TheVariants as st
use Rattle.iso_types.specs.declared.head.Column.{Column}
use Rattle.iso_types.specs.declared.value.Rid.{Rid}
use Rattle.iso_types.specs.declared.value.TableId.{TableId}
use Rattle.iso_types.specs.declared.value.Value.{Value}

-- steps of a scan, an undo, a return to a mark, a Claim, and others
abbrev pub class : Move → ℕ
class (Move.Look t r want) = 1
class (Move.Next i range at guarded) = 1
class (Move.Undo floor) = 2
class (Move.Back name) = 3
class Move.Claim = 4
class m = 0

-- the same of stages
abbrev pub stage_class : Stage → ℕ
stage_class Stage.Scan = 1
stage_class (Stage.Undos floor end) = 2
stage_class (Stage.Backs name) = 3
stage_class stage = 0

change-class : (kept : Haul) (s : Statement) (columns : List Column) (t : TableId) (k : Rid × List Value) (ps : List Part) → class (due_by kept (change_part s columns t k ∷ ps)) ≡ 0
change-class kept (st.Update u sets cond level) columns t k ps = go (assigned columns sets.list k.1)
  where
    go : (o : Result (List Value) Fault) → class (due_by kept (elim o [ Ok row ↦ Part.RowUpdate t k.0 row | Err fault ↦ Part.Refuses (fault_code fault) ] ∷ ps)) ≡ 0
    go (Ok row) = refl
    go (Err f) = refl
change-class kept _ columns t k ps = refl

scan-class : (kept : Haul) (k : Walk) (place : Place) (ps : List Part) → class (due_by kept (part_of k place ∷ ps)) ≡ 1
scan-class kept k (Place.Slot r) ps = refl
scan-class kept k (Place.Behind at) ps = refl
scan-class kept k (Place.Entry key r) ps = refl

due-class : (kept : Haul) (c : Course) (stage : Stage) → IsSoundAt stage c → class (due_by kept (left_with c stage)) ≡ stage_class stage
due-class kept c (Stage.Lock mode then') s = refl
due-class kept c Stage.Scan s = scan-class kept c.walk c.place _
due-class kept c (Stage.RowLock i) s = ap (λ ps. class (due_by kept ps)) (left-row_lock c.table c.statement (columns_in c.updates) (part_of c.walk c.place) c.found i s.0)
due-class kept c (Stage.RowWait i) s = change-class kept c.statement (columns_in c.updates) c.table _ _
due-class kept c (Stage.RowChange i) s = change-class kept c.statement (columns_in c.updates) c.table _ _
due-class kept c (Stage.Ends (End.Replies code changed)) s = refl
due-class kept c (Stage.Ends (End.Leaves code reason)) s = refl
due-class kept c _ s = refl

-- the answers of a scan's step
abbrev pub is_scans : Told → Bool
is_scans (Told.Shown row fresh) = true
is_scans Told.EndOfTable = true
is_scans (Told.At key r) = true
is_scans Told.Past = true
is_scans t = false

scan-answer : (t : Told) (m : Move) → is_scans t ≡ true → answers m t ≡ true → class m ≡ 1
scan-answer t (Move.Look u r want) s a = refl
scan-answer t (Move.Next i range at guarded) s a = refl
scan-answer (Told.Shown row fresh) _ s a = cc
scan-answer Told.EndOfTable _ s a = cc
scan-answer (Told.At key r) _ s a = cc
scan-answer Told.Past _ s a = cc
scan-answer _ _ s a = cc

undo-answer : (b : Bool) (m : Move) → answers m (Told.Undone b) ≡ true → class m ≡ 2
undo-answer b (Move.Undo floor) a = refl
undo-answer b _ a = cc

back-answer : (mark : Option ℕ) (m : Move) → answers m (Told.Floor mark) ≡ true → class m ≡ 3
back-answer mark (Move.Back name) a = refl
back-answer mark _ a = cc

done-answer : (m : Move) → answers m Told.Done ≡ true → class m ≡ 1 → ⊥
done-answer (Move.Look t r want) a e = cc
done-answer (Move.Next i range at guarded) a e = cc
done-answer _ a e = cc

granted-answer : (m : Move) → answers m Told.Granted ≡ true → class m ≡ 4
granted-answer Move.Claim a = refl
granted-answer _ a = cc

-- no stage is a Claim
stage-claim : (stage : Stage) → stage_class stage ≡ 4 → ⊥
stage-claim Stage.Scan e = cc
stage-claim (Stage.Undos floor end) e = cc
stage-claim (Stage.Backs name) e = cc
stage-claim _ e = cc

stage-scan : (stage : Stage) → stage_class stage ≡ 1 → stage ≡ Stage.Scan
stage-scan Stage.Scan e = refl
stage-scan _ e = cc

stage-undo : (stage : Stage) → stage_class stage ≡ 2 → is_undo stage ≡ true
stage-undo (Stage.Undos floor end) e = refl
stage-undo _ e = cc

stage-back : (stage : Stage) → stage_class stage ≡ 3 → is_back stage ≡ true
stage-back (Stage.Backs name) e = refl
stage-back _ e = cc

module _ (kept : Haul) (c : Course) (s : IsSoundAt c.stage c) where
  -- an answer of a scan's step comes where the scan is
  pub at-scan : (t : Told) → is_scans t ≡ true → answers (due_by kept (staged c)) t ≡ true → c.stage ≡ Stage.Scan
  at-scan t i a = stage-scan c.stage (sym (due-class kept c c.stage s) ∙ scan-answer t (due_by kept (staged c)) i a)

  pub at-undo : (b : Bool) → answers (due_by kept (staged c)) (Told.Undone b) ≡ true → is_undo c.stage ≡ true
  at-undo b a = stage-undo c.stage (sym (due-class kept c c.stage s) ∙ undo-answer b (due_by kept (staged c)) a)

  pub at-back : (mark : Option ℕ) → answers (due_by kept (staged c)) (Told.Floor mark) ≡ true → is_back c.stage ≡ true
  at-back mark a = stage-back c.stage (sym (due-class kept c c.stage s) ∙ back-answer mark (due_by kept (staged c)) a)

  pub at-done : answers (due_by kept (staged c)) Told.Done ≡ true → c.stage ≢ Stage.Scan
  at-done a e = done-answer (due_by kept (staged c)) a (due-class kept c c.stage s ∙ ap stage_class e)

  -- without a Claim in front nothing is granted
  pub at-granted : answers (due_by kept (staged c)) Told.Granted ≡ true → ⊥
  at-granted a = stage-claim c.stage (sym (due-class kept c c.stage s) ∙ granted-answer (due_by kept (staged c)) a)
