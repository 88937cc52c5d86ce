-- The rows of a reply are those of the reply with what the scan kept.
use Rattle.std.proofs.Common.{◌≡◌, ◌≢◌, List, [], ◌∷◌, refl, sym, ap, Result, Ok, Err}
use Rattle.iso_conduct.specs.Courses.{IsSoundAt, columns_in, left_with, part_of, staged}
use Rattle.iso_conduct.specs.Parts.{Part}
use Rattle.iso_conduct.specs.Points.{Haul, change_part, fault_code, rows_by}
use Rattle.iso_conduct.specs.declared.course.Course.{Course}
use Rattle.iso_conduct.specs.declared.course.End.{End}
use Rattle.iso_conduct.specs.declared.course.Place.{Place}
use Rattle.iso_conduct.specs.declared.course.Stage.{Stage}
use Rattle.iso_conduct.specs.declared.course.Walk.{Walk}
use Rattle.iso_conduct.proofs.Staged.{left-row_lock}
use Rattle.iso_predicate.specs.Assigned.{Fault, assigned}
use Rattle.iso_sql.specs.declared.statement.Statement.{Statement}
use Rattle.iso_sql.specs.declared.statement.Statement.TheVariants as st
use Rattle.iso_types.specs.declared.head.Column.{Column}
use Rattle.iso_types.specs.declared.value.Rid.{Rid}
use Rattle.iso_types.specs.declared.value.TableId.{TableId}
use Rattle.iso_types.specs.declared.value.Value.{Value}

change-rows : (kept : Haul) (s : Statement) (columns : List Column) (t : TableId) (k : Rid × List Value) (ps : List Part) → [] ≡ rows_by kept (change_part s columns t k ∷ ps)
change-rows kept (st.Update u sets cond level) columns t k ps = go (assigned columns sets.list k.1)
  where
    go : (o : Result (List Value) Fault) → [] ≡ rows_by kept (elim o [ Ok row ↦ Part.RowUpdate t k.0 row | Err fault ↦ Part.Refuses (fault_code fault) ] ∷ ps)
    go (Ok row) = refl
    go (Err f) = refl
change-rows kept _ columns t k ps = refl

scan-rows : (kept : Haul) (k : Walk) (place : Place) (ps : List Part) → [] ≡ rows_by kept (part_of k place ∷ ps)
scan-rows kept k (Place.Slot r) ps = refl
scan-rows kept k (Place.Behind at) ps = refl
scan-rows kept k (Place.Entry key r) ps = refl

stage-rows : (kept : Haul) (c : Course) (stage : Stage) → IsSoundAt stage c → stage ≢ Stage.Answer → [] ≡ rows_by kept (left_with c stage)
stage-rows kept c (Stage.Lock mode then') s n = refl
stage-rows kept c Stage.Scan s n = scan-rows kept c.walk c.place _
stage-rows kept c (Stage.RowLock i) s n = sym (ap (rows_by kept) (left-row_lock c.table c.statement (columns_in c.updates) (part_of c.walk c.place) c.found i s.0))
stage-rows kept c (Stage.RowWait i) s n = change-rows kept c.statement (columns_in c.updates) c.table _ _
stage-rows kept c (Stage.RowChange i) s n = change-rows kept c.statement (columns_in c.updates) c.table _ _
stage-rows kept c (Stage.Ends (End.Replies code changed)) s n = refl
stage-rows kept c (Stage.Ends (End.Leaves code reason)) s n = refl
stage-rows kept c Stage.Answer s n = absurd (n refl)
stage-rows kept c _ s n = refl

-- nothing is given where that reply is not due
pub no-rows : (kept : Haul) (c : Course) → IsSoundAt c.stage c → c.stage ≢ Stage.Answer → [] ≡ rows_by kept (staged c)
no-rows kept c s n = stage-rows kept c c.stage s n
