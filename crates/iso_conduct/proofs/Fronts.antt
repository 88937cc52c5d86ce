-- A Claim stands in front of what is left, and nowhere else.
use Rattle.std.proofs.Common.{◌≡◌, Bool, true, false, ◌||◌, List, [], ◌∷◌, ◌++◌, refl, Option, Some, None, if◌then◌else◌, Ok, Err, Result}
use Rattle.iso_conduct.specs.Answers.{answers}
use Rattle.iso_conduct.specs.Parts.{Part, listed, scan}
use Rattle.iso_conduct.specs.Parts.Part.{Asks, Changes, Claims, EntryLook, Frees, IndexScan, Leaves, NewRow, Replies, RowUpdate, TableScan}
use Rattle.iso_conduct.specs.Points.{Haul, Point, behind, change_part, change_parts, due_by, ending, fault_code, found_rows, freeing, is_kept, frees, looked_by, opened_out, past_look, queued_up, standing_at, told_point}
use Rattle.iso_conduct.specs.declared.moves.Told.{Told}
use Rattle.iso_history.specs.World.{Setting}
use Rattle.iso_history.specs.Writes.{minus}
use Rattle.iso_history.specs.declared.entry.Want.{Want}
use Rattle.iso_predicate.specs.Assigned.{Fault, assigned, has_null}
use Rattle.iso_predicate.specs.Plan.{plan_of}
use Rattle.iso_predicate.specs.declared.plans.Path.{Path}
use Rattle.iso_sql.specs.Sound.{columns_of}
use Rattle.iso_sql.specs.declared.statement.Statement.{Statement}
use Rattle.iso_sql.specs.declared.statement.Statement.TheVariants as st
use Rattle.iso_types.specs.declared.head.Column.{Column}
use Rattle.iso_types.specs.declared.head.Head.{Head}
use Rattle.iso_types.specs.declared.head.Isolation.{Isolation}
use Rattle.iso_types.specs.declared.value.Conn.{Conn}
use Rattle.iso_types.specs.declared.value.Rid.{Rid}
use Rattle.iso_types.specs.declared.value.TableId.{TableId}
use Rattle.iso_types.specs.declared.value.Value.{Value}

abbrev pub is_claim : Part → Bool
is_claim Claims = true
is_claim _ = false

-- a Claim is among the parts
unfoldable pub has_claim : List Part → Bool
has_claim [] = false
has_claim (x ∷ xs) = is_claim x || has_claim xs

-- none is behind the first part
unfoldable pub IsFront : List Part → Type 0
IsFront ps = has_claim (behind ps) ≡ false

no-rest : (x : Part) (ps : List Part) → has_claim (x ∷ ps) ≡ false → has_claim ps ≡ false
unfolding has_claim
no-rest x ps h = go (is_claim x) h
  where
    go : (b : Bool) → (b || has_claim ps) ≡ false → has_claim ps ≡ false
    go true k = absurd (cc)
    go false k = k

-- the rest of a list without a Claim has none
no-behind : (ps : List Part) → has_claim ps ≡ false → IsFront ps
unfolding IsFront
no-behind [] h = h
no-behind (x ∷ ps) h = no-rest x ps h

pub no-append : (ps qs : List Part) → has_claim ps ≡ false → has_claim qs ≡ false → has_claim (ps ++ qs) ≡ false
unfolding has_claim
no-append [] qs h k = k
no-append (x ∷ ps) qs h k = go (is_claim x) h (λ r. no-append ps qs r k)
  where
    go : (b : Bool) → (b || has_claim ps) ≡ false → (has_claim ps ≡ false → has_claim (ps ++ qs) ≡ false) → (b || has_claim (ps ++ qs)) ≡ false
    go true r later = absurd (cc)
    go false r later = later r

-- changes have none
no-change : (s : Statement) (columns : List Column) (t : TableId) (k : Rid × List Value) → is_claim (change_part s columns t k) ≡ false
no-change (st.Update u sets cond level) columns t k = go (assigned columns sets.list k.1)
  where
    go : (x : Result (List Value) Fault) → is_claim (elim x [ Ok row ↦ RowUpdate t k.0 row | Err fault ↦ Part.Refuses (fault_code fault) ]) ≡ false
    go (Ok row) = refl
    go (Err fault) = refl
no-change _ columns t k = refl

no-changes : (s : Statement) (columns : List Column) (t : TableId) (ks : List (Rid × List Value)) → has_claim (change_parts s columns t ks) ≡ false
unfolding has_claim
no-changes s columns t [] = refl
no-changes s columns t (k ∷ ks) = rw (no-change s columns t k) (no-changes s columns t ks)

-- a statement begins without one
pub begins-front : (head : Head) (c : Conn) (set : Setting) (s : Statement) → IsFront (listed head c set s)
unfolding IsFront has_claim
begins-front head c set (st.Select t items cond level) = scan-front t _ _ (plan_of head t cond)
  where
    scan-front : (t : TableId) (want : Want) (l : Isolation) (path : Path) → (is_claim (scan head t want l path) || false) ≡ false
    scan-front t want l Path.Table = refl
    scan-front t want l (Path.Index i range) = refl
begins-front head c set (st.Update t sets cond level) = scan-front t _ _ (plan_of head t cond)
  where
    scan-front : (t : TableId) (want : Want) (l : Isolation) (path : Path) → (is_claim (scan head t want l path) || false) ≡ false
    scan-front t want l Path.Table = refl
    scan-front t want l (Path.Index i range) = refl
begins-front head c set (st.Delete t cond level) = scan-front t _ _ (plan_of head t cond)
  where
    scan-front : (t : TableId) (want : Want) (l : Isolation) (path : Path) → (is_claim (scan head t want l path) || false) ≡ false
    scan-front t want l Path.Table = refl
    scan-front t want l (Path.Index i range) = refl
begins-front head c set (st.Insert t row) = go (has_null (columns_of head t) row)
  where
    go : (b : Bool) → (is_claim (if b then Part.Refuses (minus 407) else NewRow t row) || false) ≡ false
    go true = refl
    go false = refl
begins-front head c set _ = refl

-- what is left once the undos are made has none
pub ending-front : (ps : List Part) → has_claim (ending ps) ≡ false
unfolding has_claim
ending-front [] = refl
ending-front (Leaves code reason ∷ ps) = refl
ending-front (Replies code changed ∷ ps) = refl
ending-front (x ∷ ps) = ending-front ps

-- a part that is no Claim
others-claim : (x : Part) (ps : List Part) → is_claim x ≡ false → IsFront (x ∷ ps) → has_claim (x ∷ ps) ≡ false
unfolding IsFront has_claim
others-claim x ps e h = rw e h

-- where a step that is no Claim answers, no Claim stands at all
pub no-claim : (kept : Haul) (ps : List Part) (t : Told) → answers (due_by kept ps) t ≡ true → answers (due_by kept (Claims ∷ [])) t ≡ false → IsFront ps
    → has_claim ps ≡ false
unfolding IsFront has_claim
no-claim kept [] t a n h = refl
no-claim kept (Claims ∷ ps) t a n h = absurd (cc)
no-claim kept (x ∷ ps) t a n h = h

pub opened-front : (p : Point) (ps : List Part) → has_claim ps ≡ false → has_claim (opened_out p ps) ≡ false
unfolding has_claim
opened-front p [] h = h
opened-front p (Changes t ∷ ps) h = no-append (change_parts p.statement p.columns t (found_rows p.kept)) ps (no-changes p.statement p.columns t (found_rows p.kept)) h
opened-front p (x ∷ ps) h = h

queued-front : (kept : Haul) (ps : List Part) → answers (due_by kept ps) Told.Queued ≡ true → IsFront ps → IsFront (queued_up ps)
unfolding IsFront has_claim
queued-front kept [] a h = refl
queued-front kept (Asks name mode ∷ ps) a h = h
queued-front kept (x ∷ ps) a h = no-claim kept (x ∷ ps) Told.Queued a refl h

pub past-claim : (kept : Haul) (ps : List Part) (shown : Option (List Value)) (fresh : Bool) → answers (due_by kept ps) (Told.Shown shown fresh) ≡ true
    → IsFront ps → has_claim (past_look ps) ≡ false
unfolding IsFront has_claim
past-claim kept [] shown fresh a h = refl
past-claim kept (TableScan t want r ∷ ps) shown fresh a h = h
past-claim kept (EntryLook k key r ∷ ps) shown fresh a h = h
past-claim kept (x ∷ ps) shown fresh a h = no-claim kept (x ∷ ps) (Told.Shown shown fresh) a refl h

freeing-claim : (ps : List Part) → has_claim (freeing ps) ≡ false
unfolding has_claim
freeing-claim (TableScan t want r ∷ ps) = go (frees want)
  where
    go : (b : Bool) → has_claim (if b then Frees t (record { 0 = r }) ∷ [] else []) ≡ false
    go true = refl
    go false = refl
freeing-claim (EntryLook k key r ∷ ps) = go (frees k.want)
  where
    go : (b : Bool) → has_claim (if b then Frees k.table r ∷ [] else []) ≡ false
    go true = refl
    go false = refl
freeing-claim _ = refl

pub freed-claim : (fresh : Bool) (ps : List Part) → has_claim (if fresh then freeing ps else []) ≡ false
unfolding has_claim
freed-claim true ps = freeing-claim ps
freed-claim false ps = refl

looked-front : (p : Point) (shown : Option (List Value)) (fresh b : Bool) → has_claim (past_look p.left) ≡ false
    → IsFront (looked_by p shown fresh b).left
looked-front p shown fresh true h = no-behind (past_look p.left) h
looked-front p shown fresh false h = no-behind _ (no-append (if fresh then freeing p.left else []) (past_look p.left) (freed-claim fresh p.left) h)

standing-front : (key : Value) (r : Rid) (ps : List Part) → IsFront ps → IsFront (standing_at key r ps)
unfolding IsFront has_claim
standing-front key r [] h = h
standing-front key r (IndexScan k at ∷ ps) h = h
standing-front key r (x ∷ ps) h = h

-- an answer leaves it so
pub told-front : (p : Point) (t : Told) → answers (due_by p.kept p.left) t ≡ true → IsFront p.left → IsFront (told_point p t).left
unfolding IsFront has_claim
told-front p Told.Done a h = no-behind (behind p.left) h
told-front p Told.Granted a h = no-behind (behind p.left) h
told-front p Told.Queued a h = queued-front p.kept p.left a h
told-front p Told.Blocked a h = no-claim p.kept p.left Told.Blocked a refl h
told-front p Told.TimedOut a h = refl
told-front p (Told.Ended reason) a h = refl
told-front p (Told.Escalates t) a h = no-claim p.kept p.left (Told.Escalates t) a refl h
told-front p (Told.Refused code) a h = refl
told-front p (Told.Shown shown fresh) a h = looked-front p shown fresh (is_kept p shown) (past-claim p.kept p.left shown fresh a h)
told-front p Told.EndOfTable a h = no-behind (opened_out p (behind p.left)) (opened-front p (behind p.left) h)
told-front p Told.Past a h = no-behind (opened_out p (behind p.left)) (opened-front p (behind p.left) h)
told-front p (Told.At key r) a h = standing-front key r p.left h
told-front p (Told.Undone true) a h = h
told-front p (Told.Undone false) a h = no-behind (ending p.left) (ending-front p.left)
told-front p (Told.Floor (Some n)) a h = h
told-front p (Told.Floor None) a h = refl
