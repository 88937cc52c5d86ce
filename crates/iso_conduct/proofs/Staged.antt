-- What a stage's list begins with.
use Rattle.std.proofs.Common.{◌≡◌, true, ◌&&◌, OnErr, ℕ, ◌+◌, ◌<◌, List, [], ◌∷◌, length, drop, refl, sym, ap, ◌∙◌, subst, Option, Some, None, Result, Ok, Err, drop-cons, add-one, ℤ}
use Rattle.iso_conduct.specs.Courses.{GivesRow, IsAssigned, IsSoundAt, asks_row, change_by, is_update, change_of, columns_in, found_at, left_at, pair_of, pairs_of, part_of, staged}
use Rattle.iso_conduct.specs.Parts.{Part}
use Rattle.iso_conduct.specs.Parts.Part.{Asks}
use Rattle.iso_conduct.specs.Points.{Haul, change_part, change_parts, due_by, fault_code}
use Rattle.iso_conduct.specs.declared.course.Course.{Course}
use Rattle.iso_conduct.specs.declared.course.Found as kept
use Rattle.iso_conduct.specs.declared.course.Stage.{Stage}
use Rattle.iso_conduct.specs.declared.moves.Move.{Move}
use Rattle.iso_modes.specs.declared.Mode.TheVariants.{X}
use Rattle.iso_predicate.specs.Assigned.{Fault, assigned}
use Rattle.iso_sql.specs.declared.statement.Statement.{Statement}
use Rattle.iso_sql.specs.declared.statement.Statement.TheVariants as st
use Rattle.iso_types.specs.declared.head.Column.{Column}
use Rattle.iso_types.specs.declared.value.Name.TheVariants.{Row}
use Rattle.iso_types.specs.declared.value.Rid.{Rid}
use Rattle.iso_types.specs.declared.value.TableId.{TableId}
use Rattle.iso_types.specs.declared.value.Value.{Value}

module _ (s : Statement) (columns : List Column) (t : TableId) where
  -- the changes of the kept rows from one on begin with its lock and its change
  parts-drop : (found : List kept.Found) (i : ℕ) → i < length found
      → change_parts s columns t (pairs_of (drop i found))
      ≡ Asks (Row t (found_at found i).rid) X ∷ change_part s columns t (pair_of (found_at found i)) ∷ change_parts s columns t (pairs_of (drop (i + 1) found))
  parts-drop found i lt = rw (drop-cons found i (record { rid = record { 0 = 0 }; row = [] }) lt) (rw add-one refl)

-- before a row's lock, its lock comes next, and then what is left while it is waited for
pub left-row_lock : (t : TableId) (s : Statement) (columns : List Column) (look : Part) (found : List kept.Found) (i : ℕ) → i < length found
    → left_at t s columns look found (Stage.RowLock i) ≡ Asks (Row t (found_at found i).rid) X ∷ left_at t s columns look found (Stage.RowWait i)
left-row_lock t s columns look found i lt = rw (parts-drop s columns t found i lt) refl

-- so it is the lock of a row that comes first
asks-row_lock : (c : Course) (i : ℕ) → c.stage ≡ Stage.RowLock i → IsSoundAt c.stage c → asks_row (staged c) ≡ true
asks-row_lock c i e s = subst (λ g. asks_row (left_at c.table c.statement (columns_in c.updates) (part_of c.walk c.place) c.found g) ≡ true) (sym e)
    (ap asks_row (left-row_lock c.table c.statement (columns_in c.updates) (part_of c.walk c.place) c.found i (subst (λ g. IsSoundAt g c) e s).0))

pub err-asks : (c : Course) (i : ℕ) → c.stage ≡ Stage.RowLock i → IsSoundAt c.stage c → is_update c.statement ≡ true
    → (is_update c.statement && asks_row (staged c)) ≡ true
err-asks c i e s u = rw (u) (asks-row_lock c i e s)

-- what holds, holds where there is an error
pub on-err : {A E P : Type 0} (r : Result A E) → P → OnErr r P
on-err (Ok a) p = tt
on-err (Err e) p = p

-- the change of a row that is worked out
pub change-worked : (s : Statement) (columns : List Column) (t : TableId) (r : Rid) (row given : List Value) (fault : Option ℤ) → IsAssigned s columns row given fault
    → change_part s columns t (r, row) ≡ change_by s t r given fault
change-worked (st.Update u sets cond level) columns t r row given fault h = go (assigned columns sets.list row) h
  where
    go : (o : Result (List Value) Fault) → GivesRow o given fault
        → elim o [ Ok row ↦ Part.RowUpdate t r row | Err fault ↦ Part.Refuses (fault_code fault) ] ≡ change_by (st.Update u sets cond level) t r given fault
    go (Ok row) g = rw g.0 (rw g.1 refl)
    go (Err f) g = rw g refl
change-worked _ columns t r row given fault h = refl

pub due-row_lock : (kept : Haul) (c : Course) (i : ℕ) → c.stage ≡ Stage.RowLock i → IsSoundAt c.stage c
    → Move.Lock (Row c.table (found_at c.found i).rid) X ≡ due_by kept (staged c)
due-row_lock kept c i e s = subst (λ g. Move.Lock (Row c.table (found_at c.found i).rid) X ≡ due_by kept (left_at c.table c.statement (columns_in c.updates) (part_of c.walk c.place) c.found g)) (sym e)
    (sym (ap (due_by kept) (left-row_lock c.table c.statement (columns_in c.updates) (part_of c.walk c.place) c.found i (subst (λ g. IsSoundAt g c) e s).0)))

first-due : (kept : Haul) (x y : Part) (ps : List Part) → x ≡ y → due_by kept (y ∷ []) ≡ due_by kept (y ∷ ps) → due_by kept (y ∷ []) ≡ due_by kept (x ∷ ps)
first-due kept x y ps e h = subst (λ z. due_by kept (y ∷ []) ≡ due_by kept (z ∷ ps)) (sym e) h

change-alone : (kept : Haul) (s : Statement) (t : TableId) (r : Rid) (row : List Value) (fault : Option ℤ) (ps : List Part)
    → due_by kept (change_by s t r row fault ∷ []) ≡ due_by kept (change_by s t r row fault ∷ ps)
change-alone kept (st.Update u sets cond level) t r row None ps = refl
change-alone kept (st.Update u sets cond level) t r row (Some code) ps = refl
change-alone kept _ t r row fault ps = refl

at-row_change : (kept : Haul) (c : Course) (i : ℕ) → c.stage ≡ Stage.RowChange i → IsSoundAt c.stage c
    → due_by kept (change_of c (found_at c.found i).rid ∷ []) ≡ due_by kept (staged c)
at-row_change kept c i e s = subst (λ g. due_by kept (change_of c (found_at c.found i).rid ∷ []) ≡ due_by kept (left_at c.table c.statement (columns_in c.updates) (part_of c.walk c.place) c.found g)) (sym e)
    (first-due kept _ _ _ (change-worked c.statement (columns_in c.updates) c.table (found_at c.found i).rid (found_at c.found i).row c.assigned c.fault (subst (λ g. IsSoundAt g c) e s).2)
    (change-alone kept c.statement c.table (found_at c.found i).rid c.assigned c.fault _))

-- where the row's change is due
pub due-row_change : (kept : Haul) (c : Course) (i : ℕ) (r : Rid) → r ≡ (found_at c.found i).rid → c.stage ≡ Stage.RowChange i → IsSoundAt c.stage c
    → due_by kept (change_of c r ∷ []) ≡ due_by kept (staged c)
due-row_change kept c i r q e s = ap (λ x. due_by kept (change_of c x ∷ [])) q ∙ at-row_change kept c i e s
