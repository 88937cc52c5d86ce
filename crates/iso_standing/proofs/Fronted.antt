-- What comes between the parts of a statement stands in front of them: a Claim, a Collapse at once or behind a Claim, a Free.
use Rattle.std.proofs.Common.{◌≡◌, ◌⊎◌, inl, inr, Bool, true, false, List, [], ◌∷◌, ◌++◌, refl, Option, Some, None, Ok, Err, Result, if◌then◌else◌, pos}
use Rattle.iso_conduct.specs.Parts.{Part, listed, new_row, scan}
use Rattle.iso_conduct.specs.Parts.Part.{Asks, Changes, Claims, Collapses, EntryLook, Frees, IndexScan, Leaves, NewRow, Refuses, Replies, RowUpdate, TableScan, Undos}
use Rattle.iso_conduct.specs.Points.{Point, behind, change_part, change_parts, ending, fault_code, found_rows, freeing, frees, is_kept, looked_by, opened_out, past_look, queued_up, standing_at, told_point}
use Rattle.iso_conduct.specs.declared.moves.Told.{Told}
use Rattle.iso_history.specs.World.{Setting}
use Rattle.iso_history.specs.Writes.{minus}
use Rattle.iso_history.specs.declared.entry.Want.{Want}
use Rattle.iso_predicate.specs.Assigned.{Fault, assigned, has_null}
use Rattle.iso_predicate.specs.Plan.{plan_of}
use Rattle.iso_predicate.specs.declared.plans.Path.{Path}
use Rattle.iso_sql.specs.Sound.{columns_of}
use Rattle.iso_sql.specs.declared.statement.Statement.{Statement}
use Rattle.iso_sql.specs.declared.statement.Statement.TheVariants as st
use Rattle.iso_types.specs.declared.head.Column.{Column}
use Rattle.iso_types.specs.declared.head.Head.{Head}
use Rattle.iso_types.specs.declared.head.Isolation.{Isolation}
use Rattle.iso_types.specs.declared.value.Conn.{Conn}
use Rattle.iso_types.specs.declared.value.Rid.{Rid}
use Rattle.iso_types.specs.declared.value.TableId.{TableId}
use Rattle.iso_types.specs.declared.value.Value.{Value}

-- a part of a statement's own list, that ends no unit by a Rollback
abbrev pub IsStep : Part → Type 0
IsStep Claims = ⊥
IsStep (Collapses t) = ⊥
IsStep (Frees t r) = ⊥
IsStep (Leaves code reason) = ⊥
IsStep _ = Unit {0}

-- all are
abbrev pub AreSteps : List Part → Type 0
AreSteps [] = Unit {0}
AreSteps (x ∷ xs) = IsStep x × AreSteps xs

-- a Collapse may stand in front of them
abbrev pub BehindClaim : List Part → Type 0
BehindClaim (Collapses t ∷ ps) = AreSteps ps
BehindClaim ps = AreSteps ps

-- or a Claim, a Collapse, or a Free
abbrev pub Fronted : List Part → Type 0
Fronted (Claims ∷ ps) = BehindClaim ps
Fronted (Collapses t ∷ ps) = AreSteps ps
Fronted (Frees t r ∷ ps) = AreSteps ps
Fronted ps = AreSteps ps

-- the parts of a statement that need not roll back: those, or those of ROLLBACK
abbrev pub Unrolled : List Part → Type 0
Unrolled ps = Fronted ps ⊎ (ps ≡ Undos 0 ∷ Leaves (pos 0) 0 ∷ [])

pub steps-fronted : (ps : List Part) → AreSteps ps → Fronted ps
steps-fronted [] h = tt
steps-fronted (Claims ∷ ps) h = absurd h.0
steps-fronted (Collapses t ∷ ps) h = absurd h.0
steps-fronted (Frees t r ∷ ps) h = absurd h.0
steps-fronted (x ∷ ps) h = h

steps-behind : (ps : List Part) → AreSteps ps → BehindClaim ps
steps-behind [] h = tt
steps-behind (Collapses t ∷ ps) h = absurd h.0
steps-behind (x ∷ ps) h = h

pub behind-fronted : (ps : List Part) → BehindClaim ps → Fronted ps
behind-fronted [] h = tt
behind-fronted (Claims ∷ ps) h = absurd h.0
behind-fronted (Collapses t ∷ ps) h = h
behind-fronted (Frees t r ∷ ps) h = absurd h.0
behind-fronted (x ∷ ps) h = h

pub rest-steps : (ps : List Part) → AreSteps ps → AreSteps (behind ps)
rest-steps [] h = tt
rest-steps (x ∷ ps) h = h.1

steps-append : (xs ys : List Part) → AreSteps xs → AreSteps ys → AreSteps (xs ++ ys)
steps-append [] ys h k = k
steps-append (x ∷ xs) ys h k = (h.0, steps-append xs ys h.1 k)

-- ---- what a statement begins with

scan-steps : (head : Head) (t : TableId) (want : Want) (level : Isolation) (path : Path) → IsStep (scan head t want level path)
scan-steps head t want level Path.Table = tt
scan-steps head t want level (Path.Index i range) = tt

new-steps : (head : Head) (t : TableId) (row : List Value) → IsStep (new_row head t row)
new-steps head t row = go (has_null (columns_of head t) row)
  where
    go : (b : Bool) → IsStep (if b then Refuses (minus 407) else NewRow t row)
    go true = tt
    go false = tt

pub listed-unrolled : (head : Head) (c : Conn) (set : Setting) (s : Statement) → Unrolled (listed head c set s)
listed-unrolled head c set (st.Select t items cond level) = inl (tt, (scan-steps head t _ _ (plan_of head t cond), (tt, tt)))
listed-unrolled head c set (st.Update t sets cond level) = inl (tt, (scan-steps head t _ _ (plan_of head t cond), (tt, (tt, tt))))
listed-unrolled head c set (st.Delete t cond level) = inl (tt, (scan-steps head t _ _ (plan_of head t cond), (tt, (tt, tt))))
listed-unrolled head c set (st.Insert t row) = inl (tt, (new-steps head t row, (tt, tt)))
listed-unrolled head c set (st.LockTable t mode) = inl (tt, (tt, tt))
listed-unrolled head c set (st.Savepoint name) = inl (tt, (tt, tt))
listed-unrolled head c set (st.RollbackTo name) = inl (tt, (tt, tt))
listed-unrolled head c set st.Rollback = inr refl
listed-unrolled head c set st.Commit = inl (tt, tt)
listed-unrolled head c set (st.SetIsolation level) = inl (tt, (tt, tt))
listed-unrolled head c set (st.SetWait may_wait) = inl (tt, (tt, tt))

-- ---- parts after an answer

change-steps : (s : Statement) (columns : List Column) (t : TableId) (k : Rid × List Value) → IsStep (change_part s columns t k)
change-steps (st.Update u sets cond level) columns t k = go (assigned columns sets.list k.1)
  where
    go : (x : Result (List Value) Fault) → IsStep (elim x [ Ok row ↦ RowUpdate t k.0 row | Err fault ↦ Refuses (fault_code fault) ])
    go (Ok row) = tt
    go (Err fault) = tt
change-steps s columns t k = tt

changes-steps : (s : Statement) (columns : List Column) (t : TableId) (ks : List (Rid × List Value)) → AreSteps (change_parts s columns t ks)
changes-steps s columns t [] = tt
changes-steps s columns t (k ∷ ks) = (tt, (change-steps s columns t k, changes-steps s columns t ks))

pub opened-steps : (p : Point) (ps : List Part) → AreSteps ps → AreSteps (opened_out p ps)
opened-steps p [] h = tt
opened-steps p (Changes t ∷ ps) h =
    steps-append (change_parts p.statement p.columns t (found_rows p.kept)) ps (changes-steps p.statement p.columns t (found_rows p.kept)) h.1
opened-steps p (x ∷ ps) h = h

pub ending-steps : (ps : List Part) → AreSteps ps → AreSteps (ending ps)
ending-steps [] h = tt
ending-steps (Leaves code reason ∷ ps) h = absurd h.0
ending-steps (Replies code changed ∷ ps) h = (tt, tt)
ending-steps (x ∷ ps) h = ending-steps ps h.1

pub standing-steps : (key : Value) (r : Rid) (ps : List Part) → AreSteps ps → AreSteps (standing_at key r ps)
standing-steps key r [] h = tt
standing-steps key r (IndexScan k at ∷ ps) h = h
standing-steps key r (x ∷ ps) h = h

pub past-steps : (ps : List Part) → AreSteps ps → AreSteps (past_look ps)
past-steps [] h = tt
past-steps (TableScan t want r ∷ ps) h = h
past-steps (EntryLook k key r ∷ ps) h = h
past-steps (x ∷ ps) h = h

freed-fronted : (fresh : Bool) (ps qs : List Part) → AreSteps qs → Fronted ((if fresh then freeing ps else []) ++ qs)
freed-fronted false ps qs h = steps-fronted qs h
freed-fronted true (TableScan t want r ∷ ps) qs h = go (frees want)
  where
    go : (b : Bool) → Fronted ((if b then Frees t (record { 0 = r }) ∷ [] else []) ++ qs)
    go true = h
    go false = steps-fronted qs h
freed-fronted true (EntryLook k key r ∷ ps) qs h = go (frees k.want)
  where
    go : (b : Bool) → Fronted ((if b then Frees k.table r ∷ [] else []) ++ qs)
    go true = h
    go false = steps-fronted qs h
freed-fronted true [] qs h = steps-fronted qs h
freed-fronted true (x ∷ ps) qs h = steps-fronted qs h

queued-fronted : (ps : List Part) → AreSteps ps → Fronted (queued_up ps)
queued-fronted [] h = tt
queued-fronted (Asks name mode ∷ ps) h = steps-behind ps h.1
queued-fronted (Claims ∷ ps) h = absurd h.0
queued-fronted (Collapses t ∷ ps) h = absurd h.0
queued-fronted (x ∷ ps) h = h

looked-fronted : (p : Point) (shown : Option (List Value)) (fresh b : Bool) → AreSteps p.left → Fronted (looked_by p shown fresh b).left
looked-fronted p shown fresh true h = steps-fronted (past_look p.left) (past-steps p.left h)
looked-fronted p shown fresh false h = freed-fronted fresh p.left (past_look p.left) (past-steps p.left h)

-- the answer ends the unit
abbrev pub says_end : Told → Bool
says_end Told.TimedOut = true
says_end (Told.Ended reason) = true
says_end _ = false

-- after any other answer to a step of the statement's own
pub told-fronted : (p : Point) (t : Told) → says_end t ≡ false → AreSteps p.left → Fronted (told_point p t).left
told-fronted p Told.Done e h = steps-fronted (behind p.left) (rest-steps p.left h)
told-fronted p Told.Granted e h = steps-fronted (behind p.left) (rest-steps p.left h)
told-fronted p Told.Queued e h = queued-fronted p.left h
told-fronted p Told.Blocked e h = steps-behind p.left h
told-fronted p Told.TimedOut e h = absurd (cc)
told-fronted p (Told.Ended reason) e h = absurd (cc)
told-fronted p (Told.Escalates t) e h = h
told-fronted p (Told.Refused code) e h = (tt, (tt, tt))
told-fronted p (Told.Shown shown fresh) e h = looked-fronted p shown fresh (is_kept p shown) h
told-fronted p Told.EndOfTable e h = steps-fronted _ (opened-steps p (behind p.left) (rest-steps p.left h))
told-fronted p Told.Past e h = steps-fronted _ (opened-steps p (behind p.left) (rest-steps p.left h))
told-fronted p (Told.At key r) e h = steps-fronted _ (standing-steps key r p.left h)
told-fronted p (Told.Undone true) e h = steps-fronted p.left h
told-fronted p (Told.Undone false) e h = steps-fronted _ (ending-steps p.left h)
told-fronted p (Told.Floor (Some n)) e h = (tt, rest-steps p.left h)
told-fronted p (Told.Floor None) e h = (tt, tt)
