-- What the parts that change rows need of the lock on their table, and that an answer leaves it so.
use Rattle.std.proofs.Common.{◌≡◌, inl, inr, Bool, true, false, List, [], ◌∷◌, ◌++◌, refl, sym, subst, Option, Some, None, Ok, Err, Result, if◌then◌else◌, pos}
use Rattle.iso_conduct.proofs.Needs.{Asked, Behind, HeardOk, Locked, ToldOk, With, Within}
use Rattle.iso_conduct.specs.Parts.{Part, change_list, change_mode, change_want, level_in, listed, new_row, scan, select_list, select_mode, select_want}
use Rattle.iso_conduct.specs.Parts.Part.{Asks, Changes, EntryLook, Frees, IndexScan, Leaves, NewRow, Refuses, Replies, RowDelete, RowUpdate, TableScan}
use Rattle.iso_conduct.specs.Points.{Point, behind, change_part, change_parts, ending, fault_code, found_rows, freeing, frees, is_kept, looked_by, opened_out, past_look, queued_up, standing_at, told_all, told_point}
use Rattle.iso_conduct.specs.declared.moves.Told.{Told}
use Rattle.iso_history.specs.World.{Setting}
use Rattle.iso_history.specs.Writes.{minus}
use Rattle.iso_history.specs.declared.entry.Want.{Want}
use Rattle.iso_modes.specs.Modes.{at_least, joined, mode_eq, mode_number}
use Rattle.iso_modes.specs.declared.Mode.{Mode}
use Rattle.iso_modes.specs.declared.Mode.TheVariants.{Ix, X}
use Rattle.iso_predicate.specs.Assigned.{Fault, assigned, has_null}
use Rattle.iso_predicate.specs.Plan.{plan_of}
use Rattle.iso_predicate.specs.declared.plans.Path.{Path}
use Rattle.iso_sql.specs.Sound.{columns_of}
use Rattle.iso_sql.specs.declared.statement.Statement.{Statement}
use Rattle.iso_sql.specs.declared.statement.Statement.TheVariants as st
use Rattle.iso_types.specs.declared.head.Column.{Column}
use Rattle.iso_types.specs.declared.head.Head.{Head}
use Rattle.iso_types.specs.declared.head.Isolation.{Isolation}
use Rattle.iso_types.specs.declared.head.Isolation.TheVariants.{Cs, Rr, Rs, Ur}
use Rattle.iso_types.specs.declared.value.Conn.{Conn}
use Rattle.iso_types.specs.declared.value.Name.TheVariants.{End, Key, Row, Table}
use Rattle.iso_types.specs.declared.value.Rid.{Rid}
use Rattle.iso_types.specs.declared.value.TableId.{TableId}
use Rattle.iso_types.specs.declared.value.Value.{Value}

ix-ix : at_least Ix Ix ≡ true
unfolding mode_number mode_eq joined at_least
ix-ix = refl

x-ix : at_least X Ix ≡ true
unfolding mode_number mode_eq joined at_least
x-ix = refl

module _ (head : Head) where
  -- what a part that locks or changes a row needs: its table in IX; but tables only rows are asked for, in X
  abbrev pub Writes : Locked → Part → Type 0
  Writes g (Asks (Row t r) m) = (m ≡ X) × g t Ix
  Writes g (Asks (Key i v) m) = ⊥
  Writes g (Asks (End i) m) = ⊥
  Writes g (Changes t) = g t Ix
  Writes g (RowUpdate t r row) = g t Ix
  Writes g (RowDelete t r) = g t Ix
  Writes g _ = Unit {0}

  -- all parts, those behind a lock with it
  abbrev pub AllWrite : Locked → List Part → Type 0
  AllWrite g [] = Unit {0}
  AllWrite g (x ∷ xs) = Writes g x × AllWrite (Behind head g x) xs

  -- ---- more is locked

  writes-more : (g h : Locked) → Within g h → (x : Part) → Writes g x → Writes h x
  writes-more g h le (Asks (Table t) m) n = tt
  writes-more g h le (Asks (Row t r) m) n = (n.0, le t Ix n.1)
  writes-more g h le (Asks (Key i v) m) n = n
  writes-more g h le (Asks (End i) m) n = n
  writes-more g h le (Changes t) n = le t Ix n
  writes-more g h le (RowUpdate t r row) n = le t Ix n
  writes-more g h le (RowDelete t r) n = le t Ix n
  writes-more g h le _ n = tt

  with-more : (g h : Locked) → Within g h → (t : TableId) (m : Mode) → Within (With g t m) (With h t m)
  with-more g h le t m u k (inl e) = inl (le u k e)
  with-more g h le t m u k (inr e) = inr e

  behind-more : (g h : Locked) → Within g h → (x : Part) → Within (Behind head g x) (Behind head h x)
  behind-more g h le (Asks (Table t) m) = with-more g h le t m
  behind-more g h le (Asks _ m) = le
  behind-more g h le _ = le

  pub write-more : (g h : Locked) → Within g h → (xs : List Part) → AllWrite g xs → AllWrite h xs
  write-more g h le [] n = tt
  write-more g h le (x ∷ xs) n = (writes-more g h le x n.0, write-more (Behind head g x) (Behind head h x) (behind-more g h le x) xs n.1)

  keeps-locked : (g : Locked) (x : Part) → Within g (Behind head g x)
  keeps-locked g (Asks (Table t) m) u k e = inl e
  keeps-locked g (Asks _ m) u k e = e
  keeps-locked g _ u k e = e

  append : (g : Locked) (xs ys : List Part) → AllWrite g xs → AllWrite g ys → AllWrite g (xs ++ ys)
  append g [] ys n m = m
  append g (x ∷ xs) ys n m = (n.0, append (Behind head g x) xs ys n.1 (write-more g (Behind head g x) (keeps-locked g x) ys m))

  -- ---- a statement at its start

  scan-writes : (g : Locked) (t : TableId) (want : Want) (level : Isolation) (path : Path) → Writes g (scan head t want level path)
  scan-writes g t want level Path.Table = tt
  scan-writes g t want level (Path.Index i range) = tt

  change-locks : (g : Locked) (t : TableId) (level : Isolation) (path : Path) → With g t (change_mode level path) t Ix
  change-locks g t Ur path = inr (refl, ix-ix)
  change-locks g t Cs path = inr (refl, ix-ix)
  change-locks g t Rs path = inr (refl, ix-ix)
  change-locks g t Rr Path.Table = inr (refl, x-ix)
  change-locks g t Rr (Path.Index i range) = inr (refl, ix-ix)

  select-writes : (g : Locked) (t : TableId) (level : Isolation) (path : Path) → AllWrite g (select_list head t level path)
  select-writes g t level path = (tt, (scan-writes (With g t (select_mode level path)) t (select_want head.config.cur_commit level) level path, (tt, tt)))

  change-writes : (g : Locked) (t : TableId) (level : Isolation) (path : Path) → AllWrite g (change_list head t level path)
  change-writes g t level path = (
    tt,
    over (scan head t (change_want level) level path)
        (scan-writes (With g t (change_mode level path)) t (change_want level) level path),
  )
    where
      over : (x : Part) → Writes (With g t (change_mode level path)) x
          → AllWrite (With g t (change_mode level path)) (x ∷ Changes t ∷ Part.Answer ∷ [])
      over x n = (n, (keeps-locked (With g t (change_mode level path)) x t Ix (change-locks g t level path), (tt, tt)))

  new-writes : (g : Locked) (t : TableId) (row : List Value) → AllWrite g (new_row head t row ∷ Part.Replies (pos 0) 1 ∷ [])
  new-writes g t row = go (has_null (columns_of head t) row)
    where
      go : (b : Bool) → AllWrite g ((if b then Refuses (minus 407) else NewRow t row) ∷ Part.Replies (pos 0) 1 ∷ [])
      go true = (tt, (tt, tt))
      go false = (tt, (tt, tt))

  pub begin-writes : (g : Locked) (c : Conn) (set : Setting) (s : Statement) → AllWrite g (listed head c set s)
  begin-writes g c set (st.Select t items cond level) = select-writes g t (level_in set level) (plan_of head t cond)
  begin-writes g c set (st.Update t sets cond level) = change-writes g t (level_in set level) (plan_of head t cond)
  begin-writes g c set (st.Delete t cond level) = change-writes g t (level_in set level) (plan_of head t cond)
  begin-writes g c set (st.Insert t row) = (tt, new-writes (With g t Ix) t row)
  begin-writes g c set (st.LockTable t mode) = (tt, (tt, tt))
  begin-writes g c set (st.Savepoint name) = (tt, (tt, tt))
  begin-writes g c set (st.RollbackTo name) = (tt, (tt, tt))
  begin-writes g c set st.Rollback = (tt, (tt, tt))
  begin-writes g c set st.Commit = (tt, tt)
  begin-writes g c set (st.SetIsolation level) = (tt, (tt, tt))
  begin-writes g c set (st.SetWait may_wait) = (tt, (tt, tt))

  -- ---- parts after an answer

  with-had : (g : Locked) (t : TableId) (m : Mode) → ((k : Mode) → at_least m k ≡ true → g t k) → Within (With g t m) g
  with-had g t m had u k (inl e) = e
  with-had g t m had u k (inr e) = subst (λ z. g z k) (sym e.0) (had k e.1)

  had-behind : (g : Locked) (x : Part) (ps : List Part) → Asked head g (x ∷ ps) → Within (Behind head g x) g
  had-behind g (Asks (Table t) m) ps ok = with-had g t m (ok t m ps refl)
  had-behind g (Asks _ m) ps ok = λ u k e. e
  had-behind g _ ps ok = λ u k e. e

  write-behind : (g : Locked) (ps : List Part) → AllWrite g ps → Asked head g ps → AllWrite g (behind ps)
  write-behind g [] n ok = tt
  write-behind g (x ∷ ps) n ok = write-more (Behind head g x) g (had-behind g x ps ok) ps n.1

  write-queued : (g : Locked) (ps : List Part) → AllWrite g ps → Asked head g ps → AllWrite g (queued_up ps)
  write-queued g [] n ok = (tt, tt)
  write-queued g (Asks name m ∷ ps) n ok = (tt, write-behind g (Asks name m ∷ ps) n ok)
  write-queued g (x ∷ ps) n ok = (tt, n)

  write-ending : (g : Locked) (ps : List Part) → AllWrite g (ending ps)
  write-ending g [] = tt
  write-ending g (Leaves code reason ∷ ps) = (tt, tt)
  write-ending g (Replies code changed ∷ ps) = (tt, tt)
  write-ending g (x ∷ ps) = write-ending g ps

  write-standing : (g : Locked) (key : Value) (r : Rid) (ps : List Part) → AllWrite g ps → AllWrite g (standing_at key r ps)
  write-standing g key r [] n = tt
  write-standing g key r (IndexScan k at ∷ ps) n = n
  write-standing g key r (x ∷ ps) n = n

  write-past_look : (g : Locked) (ps : List Part) → AllWrite g ps → AllWrite g (past_look ps)
  write-past_look g [] n = tt
  write-past_look g (TableScan t want r ∷ ps) n = n
  write-past_look g (EntryLook k key r ∷ ps) n = n
  write-past_look g (x ∷ ps) n = n

  write-freeing : (g : Locked) (ps : List Part) → AllWrite g (freeing ps)
  write-freeing g [] = tt
  write-freeing g (TableScan t want r ∷ ps) = go (frees want)
    where
      go : (b : Bool) → AllWrite g (if b then Frees t (record { 0 = r }) ∷ [] else [])
      go true = (tt, tt)
      go false = tt
  write-freeing g (EntryLook k key r ∷ ps) = go (frees k.want)
    where
      go : (b : Bool) → AllWrite g (if b then Frees k.table r ∷ [] else [])
      go true = (tt, tt)
      go false = tt
  write-freeing g (x ∷ ps) = tt

  write-looked : (g : Locked) (p : Point) (shown : Option (List Value)) (fresh keeps : Bool) → AllWrite g p.left
      → AllWrite g (looked_by p shown fresh keeps).left
  write-looked g p shown fresh true n = write-past_look g p.left n
  write-looked g p shown true false n = append g (freeing p.left) (past_look p.left) (write-freeing g p.left) (write-past_look g p.left n)
  write-looked g p shown false false n = write-past_look g p.left n

  write-assigned : (g : Locked) (t : TableId) (r : Rid) → g t Ix → (o : Result (List Value) Fault)
      → Writes g (elim o [ Ok row ↦ RowUpdate t r row | Err fault ↦ Refuses (fault_code fault) ])
  write-assigned g t r n (Ok row) = n
  write-assigned g t r n (Err fault) = tt

  write-change : (g : Locked) (s : Statement) (columns : List Column) (t : TableId) (k : Rid × List Value) → g t Ix
      → Writes g (change_part s columns t k)
  write-change g (st.Update u sets cond level) columns t k n = write-assigned g t k.0 n (assigned columns sets.list k.1)
  write-change g s columns t k n = n

  write-changes : (g : Locked) (s : Statement) (columns : List Column) (t : TableId) (ks : List (Rid × List Value)) → g t Ix
      → AllWrite g (change_parts s columns t ks)
  write-changes g s columns t [] n = tt
  write-changes g s columns t (k ∷ ks) n =
      let x = change_part s columns t k in
      ((refl, n), (write-change g s columns t k n, write-more g (Behind head g x) (keeps-locked g x) _ (write-changes g s columns t ks n)))

  write-opened : (g : Locked) (p : Point) (ps : List Part) → AllWrite g ps → AllWrite g (opened_out p ps)
  write-opened g p [] n = tt
  write-opened g p (Changes t ∷ ps) n =
      append g (change_parts p.statement p.columns t (found_rows p.kept)) ps (write-changes g p.statement p.columns t (found_rows p.kept) n.0) n.1
  write-opened g p (x ∷ ps) n = n

  pub write-told : (g : Locked) (p : Point) (t : Told) → AllWrite g p.left → ToldOk head g p.left t → AllWrite g (told_point p t).left
  write-told g p Told.Done n ok = write-behind g p.left n ok
  write-told g p Told.Granted n ok = write-behind g p.left n ok
  write-told g p Told.Queued n ok = write-queued g p.left n ok
  write-told g p Told.Blocked n ok = (tt, n)
  write-told g p Told.TimedOut n ok = (tt, (tt, tt))
  write-told g p (Told.Ended reason) n ok = (tt, (tt, tt))
  write-told g p (Told.Escalates t) n ok = (tt, n)
  write-told g p (Told.Refused code) n ok = (tt, (tt, tt))
  write-told g p (Told.Shown shown fresh) n ok = write-looked g p shown fresh (is_kept p shown) n
  write-told g p Told.EndOfTable n ok = write-opened g p (behind p.left) (write-behind g p.left n ok)
  write-told g p Told.Past n ok = write-opened g p (behind p.left) (write-behind g p.left n ok)
  write-told g p (Told.At key r) n ok = write-standing g key r p.left n
  write-told g p (Told.Undone true) n ok = n
  write-told g p (Told.Undone false) n ok = write-ending g p.left
  write-told g p (Told.Floor (Some floor)) n ok = (tt, write-behind g p.left n ok)
  write-told g p (Told.Floor None) n ok = (tt, tt)

  pub write-told_all : (g : Locked) (p : Point) (ts : List Told) → AllWrite g p.left → HeardOk head g p ts → AllWrite g (told_all p ts).left
  write-told_all g p [] n ok = n
  write-told_all g p (t ∷ ts) n ok = write-told_all g (told_point p t) ts (write-told g p t n ok.0) ok.1
