-- The row that is due to be written.
use Rattle.std.proofs.Common.{◌≡◌, ◌≢◌, true, List, ◌∷◌, refl, sym, ap, subst, Option, Some, None, ℤ}
use Rattle.iso_conduct.specs.Courses.{IsSoundAt, change_by, columns_in, found_at, is_write, left_of, left_with, part_of, staged, with_front}
use Rattle.iso_conduct.specs.Parts.{Part}
use Rattle.iso_conduct.specs.Points.{Haul, due_by, row_by}
use Rattle.iso_conduct.specs.declared.course.Course.{Course}
use Rattle.iso_conduct.specs.declared.course.End.{End}
use Rattle.iso_conduct.specs.declared.course.Front.{Front}
use Rattle.iso_conduct.specs.declared.course.Place.{Place}
use Rattle.iso_conduct.specs.declared.course.Stage.{Stage}
use Rattle.iso_conduct.specs.declared.course.Walk.{Walk}
use Rattle.iso_conduct.proofs.Staged.{change-worked, left-row_lock}
use Rattle.iso_sql.specs.declared.statement.Statement.{Statement}
use Rattle.iso_sql.specs.declared.statement.Statement.TheVariants as st
use Rattle.iso_types.specs.declared.value.Rid.{Rid}
use Rattle.iso_types.specs.declared.value.TableId.{TableId}
use Rattle.iso_types.specs.declared.value.Value.{Value}

write-change : (kept : Haul) (s : Statement) (t : TableId) (r : Rid) (row : List Value) (fault : Option ℤ) (ps : List Part)
    → is_write (due_by kept (change_by s t r row fault ∷ ps)) ≡ true → row ≡ row_by (change_by s t r row fault ∷ ps)
write-change kept (st.Update u sets cond level) t r row None ps h = refl
write-change kept (st.Update u sets cond level) t r row (Some code) ps h = cc
write-change kept _ t r row fault ps h = cc

write-worked : (kept : Haul) (s : Statement) (t : TableId) (r : Rid) (row : List Value) (fault : Option ℤ) (x : Part) (ps : List Part) → x ≡ change_by s t r row fault
    → is_write (due_by kept (x ∷ ps)) ≡ true → row ≡ row_by (x ∷ ps)
write-worked kept s t r row fault x ps e = subst (λ y. is_write (due_by kept (y ∷ ps)) ≡ true → row ≡ row_by (y ∷ ps)) (sym e) (write-change kept s t r row fault ps)

no-scan : (kept : Haul) (k : Walk) (place : Place) (ps : List Part) → is_write (due_by kept (part_of k place ∷ ps)) ≡ true → ⊥
no-scan kept k (Place.Slot r) ps h = cc
no-scan kept k (Place.Behind at) ps h = cc
no-scan kept k (Place.Entry key r) ps h = cc

write-stage : (kept : Haul) (c : Course) (stage : Stage) → IsSoundAt stage c → stage ≢ Stage.NewRow → c.front ≡ Front.Nothing
    → is_write (due_by kept (left_with c stage)) ≡ true → c.assigned ≡ row_by (left_with c stage)
write-stage kept c (Stage.Lock mode then') s n f h = cc
write-stage kept c Stage.Scan s n f h = absurd (no-scan kept c.walk c.place _ h)
write-stage kept c (Stage.RowLock i) s n f h = cc (ap (λ ps. is_write (due_by kept ps)) (left-row_lock c.table c.statement (columns_in c.updates) (part_of c.walk c.place) c.found i s.0))
write-stage kept c (Stage.RowWait i) s n f h = let e : c.front ≡ Front.Claims = s.2 in cc
write-stage kept c (Stage.RowChange i) s n f h = write-worked kept c.statement c.table (found_at c.found i).rid c.assigned c.fault _ _
    (change-worked c.statement (columns_in c.updates) c.table (found_at c.found i).rid (found_at c.found i).row c.assigned c.fault s.2) h
write-stage kept c Stage.NewRow s n f h = absurd (n refl)
write-stage kept c (Stage.Ends (End.Replies code changed)) s n f h = cc
write-stage kept c (Stage.Ends (End.Leaves code reason)) s n f h = cc
write-stage kept c _ s n f h = cc

write-front : (kept : Haul) (c : Course) (front : Front) → c.front ≡ front → IsSoundAt c.stage c → c.stage ≢ Stage.NewRow
    → is_write (due_by kept (with_front c.walk.table front (staged c))) ≡ true → c.assigned ≡ row_by (with_front c.walk.table front (staged c))
write-front kept c Front.Nothing f s n h = write-stage kept c c.stage s n f h
write-front kept c Front.Claims f s n h = cc
write-front kept c (Front.Collapses t) f s n h = cc
write-front kept c (Front.ClaimsCollapses t) f s n h = cc
write-front kept c (Front.Frees r) f s n h = cc

-- where it is not that of an INSERT, it is the assigned one
pub assigned-due : (kept : Haul) (c : Course) → IsSoundAt c.stage c → c.stage ≢ Stage.NewRow → is_write (due_by kept (left_of c)) ≡ true → c.assigned ≡ row_by (left_of c)
assigned-due kept c s n h = write-front kept c c.front refl s n h
