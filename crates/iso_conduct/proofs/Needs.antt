-- What the parts of a statement need of the locks on tables, and that an answer leaves it so.
use Rattle.std.proofs.Common.{◌≡◌, ◌⊎◌, inl, inr, ℕ, Bool, true, false, List, [], ◌∷◌, ◌++◌, refl, sym, subst, Option, Some, None, Ok, Err, Result, if◌then◌else◌, ℤ}
use Rattle.std.specs.List.{list_any}
use Rattle.std.specs.Ordering.{int_eq}
use Rattle.iso_conduct.specs.Parts.{Part, Walk}
use Rattle.iso_conduct.specs.Parts.Part.{Asks, Changes, EntryLook, Frees, IndexScan, Leaves, NewRow, Refuses, Replies, RowUpdate, TableScan}
use Rattle.iso_conduct.specs.Points.{Point, behind, change_part, change_parts, ending, fault_code, found_rows, freeing, frees, is_kept, looked_by, opened_out, past_look, queued_up, standing_at, told_all, told_point}
use Rattle.iso_conduct.specs.declared.moves.Told.{Told}
use Rattle.iso_history.specs.Requests.{is_table_mode}
use Rattle.iso_history.specs.Writes.{minus}
use Rattle.iso_history.specs.declared.entry.Want.{Want}
use Rattle.iso_history.specs.declared.entry.Want.TheVariants.{Alter, AlterKept, Dirty}
use Rattle.iso_modes.specs.Modes.{at_least}
use Rattle.iso_modes.specs.declared.Mode.{Mode}
use Rattle.iso_modes.specs.declared.Mode.TheVariants.{Is, Ix}
use Rattle.iso_predicate.specs.Assigned.{Fault, assigned}
use Rattle.iso_sql.specs.declared.statement.Statement.{Statement}
use Rattle.iso_sql.specs.declared.statement.Statement.TheVariants as st
use Rattle.iso_types.specs.Head.{is_table, row_fits, table_of_index}
use Rattle.iso_types.specs.declared.head.Column.{Column}
use Rattle.iso_types.specs.declared.head.Head.{Head}
use Rattle.iso_types.specs.declared.value.Name.TheVariants.{Table}
use Rattle.iso_types.specs.declared.value.Rid.{Rid}
use Rattle.iso_types.specs.declared.value.TableId.{TableId}
use Rattle.iso_types.specs.declared.value.Value.{Value}

-- which tables are locked, each in which mode at least
abbrev pub Locked : Type 1
Locked = TableId → Mode → Type 0

-- with a lock of this mode on this table
abbrev pub With : Locked → TableId → Mode → Locked
With g t m u k = g u k ⊎ ((u ≡ t) × (at_least m k ≡ true))

-- all that is locked in the first is in the second
abbrev pub Within : Locked → Locked → Type 0
Within g h = (u : TableId) (k : Mode) → g u k → h u k

-- the lock on its table under which a look may ask for its row
abbrev pub Reads : Locked → TableId → Want → Type 0
Reads g t Dirty = Unit {0}
Reads g t Alter = g t Ix
Reads g t AlterKept = g t Ix
Reads g t want = g t Is

-- a code with which a statement is refused by itself
abbrev pub is_own_refusal : ℤ → Bool
is_own_refusal code = list_any (int_eq code) (minus 407 ∷ minus 802 ∷ minus 880 ∷ [])

module _ (head : Head) where
  -- an index scan: its table is there and is locked, the index is the table's
  abbrev pub Scans : Locked → Walk → Type 0
  Scans g k =
      (is_table head k.table ≡ true) × (table_of_index head k.index ≡ Some k.table) × Reads g k.table k.want
      × (k.guarded ≡ true → g k.table Is)

  -- what a part needs
  abbrev pub Needs : Locked → Part → Type 0
  Needs g (Asks (Table t) m) = (is_table head t ≡ true) × (is_table_mode m ≡ true)
  Needs g (TableScan t want r) = (is_table head t ≡ true) × Reads g t want
  Needs g (IndexScan k at) = Scans g k
  Needs g (EntryLook k key r) = Scans g k
  Needs g (NewRow t row) = (row_fits head t row ≡ true) × g t Ix
  Needs g (Refuses code) = is_own_refusal code ≡ true
  Needs g _ = Unit {0}

  -- what is locked behind a part
  abbrev pub Behind : Locked → Part → Locked
  Behind g (Asks (Table t) m) = With g t m
  Behind g _ = g

  -- what all parts need, those behind a lock with it
  abbrev pub AllNeed : Locked → List Part → Type 0
  AllNeed g [] = Unit {0}
  AllNeed g (x ∷ xs) = Needs g x × AllNeed (Behind g x) xs

  -- ---- more is locked

  reads-more : (g h : Locked) → Within g h → (t : TableId) (want : Want) → Reads g t want → Reads h t want
  reads-more g h le t Dirty n = tt
  reads-more g h le t Alter n = le t Ix n
  reads-more g h le t AlterKept n = le t Ix n
  reads-more g h le t Want.Current n = le t Is n
  reads-more g h le t Want.Settled n = le t Is n
  reads-more g h le t Want.Steady n = le t Is n
  reads-more g h le t Want.Repeat n = le t Is n

  scans-more : (g h : Locked) → Within g h → (k : Walk) → Scans g k → Scans h k
  scans-more g h le k n = (n.0, n.1, reads-more g h le k.table k.want n.2, λ e. le k.table Is (n.3 e))

  needs-more : (g h : Locked) → Within g h → (x : Part) → Needs g x → Needs h x
  needs-more g h le (Asks (Table t) m) n = n
  needs-more g h le (Asks _ m) n = tt
  needs-more g h le (TableScan t want r) n = (n.0, reads-more g h le t want n.1)
  needs-more g h le (IndexScan k at) n = scans-more g h le k n
  needs-more g h le (EntryLook k key r) n = scans-more g h le k n
  needs-more g h le (NewRow t row) n = (n.0, le t Ix n.1)
  needs-more g h le (Refuses code) n = n
  needs-more g h le _ n = tt

  with-more : (g h : Locked) → Within g h → (t : TableId) (m : Mode) → Within (With g t m) (With h t m)
  with-more g h le t m u k (inl e) = inl (le u k e)
  with-more g h le t m u k (inr e) = inr e

  behind-more : (g h : Locked) → Within g h → (x : Part) → Within (Behind g x) (Behind h x)
  behind-more g h le (Asks (Table t) m) = with-more g h le t m
  behind-more g h le (Asks _ m) = le
  behind-more g h le _ = le

  pub more : (g h : Locked) → Within g h → (xs : List Part) → AllNeed g xs → AllNeed h xs
  more g h le [] n = tt
  more g h le (x ∷ xs) n = (needs-more g h le x n.0, more (Behind g x) (Behind h x) (behind-more g h le x) xs n.1)

  keeps-locked : (g : Locked) (x : Part) → Within g (Behind g x)
  keeps-locked g (Asks (Table t) m) u k e = inl e
  keeps-locked g (Asks _ m) u k e = e
  keeps-locked g _ u k e = e

  append : (g : Locked) (xs ys : List Part) → AllNeed g xs → AllNeed g ys → AllNeed g (xs ++ ys)
  append g [] ys n m = m
  append g (x ∷ xs) ys n m = (n.0, append (Behind g x) xs ys n.1 (more g (Behind g x) (keeps-locked g x) ys m))

  -- ---- parts after an answer

  -- the first part is no lock of a table, or it is locked
  abbrev pub Asked : Locked → List Part → Type 0
  Asked g ps = (t : TableId) (m : Mode) (rest : List Part) → ps ≡ Asks (Table t) m ∷ rest → (k : Mode) → at_least m k ≡ true → g t k

  with-had : (g : Locked) (t : TableId) (m : Mode) → ((k : Mode) → at_least m k ≡ true → g t k) → Within (With g t m) g
  with-had g t m had u k (inl e) = e
  with-had g t m had u k (inr e) = subst (λ z. g z k) (sym e.0) (had k e.1)

  had-behind : (g : Locked) (x : Part) (ps : List Part) → Asked g (x ∷ ps) → Within (Behind g x) g
  had-behind g (Asks (Table t) m) ps ok = with-had g t m (ok t m ps refl)
  had-behind g (Asks _ m) ps ok = λ u k e. e
  had-behind g _ ps ok = λ u k e. e

  pub need-behind : (g : Locked) (ps : List Part) → AllNeed g ps → Asked g ps → AllNeed g (behind ps)
  need-behind g [] n ok = tt
  need-behind g (x ∷ ps) n ok = more (Behind g x) g (had-behind g x ps ok) ps n.1

  need-queued : (g : Locked) (ps : List Part) → AllNeed g ps → Asked g ps → AllNeed g (queued_up ps)
  need-queued g [] n ok = (tt, tt)
  need-queued g (Asks name m ∷ ps) n ok = (tt, need-behind g (Asks name m ∷ ps) n ok)
  need-queued g (x ∷ ps) n ok = (tt, n)

  need-ending : (g : Locked) (ps : List Part) → AllNeed g (ending ps)
  need-ending g [] = tt
  need-ending g (Leaves code reason ∷ ps) = (tt, tt)
  need-ending g (Replies code changed ∷ ps) = (tt, tt)
  need-ending g (x ∷ ps) = need-ending g ps

  need-standing : (g : Locked) (key : Value) (r : Rid) (ps : List Part) → AllNeed g ps → AllNeed g (standing_at key r ps)
  need-standing g key r [] n = tt
  need-standing g key r (IndexScan k at ∷ ps) n = n
  need-standing g key r (x ∷ ps) n = n

  need-past_look : (g : Locked) (ps : List Part) → AllNeed g ps → AllNeed g (past_look ps)
  need-past_look g [] n = tt
  need-past_look g (TableScan t want r ∷ ps) n = n
  need-past_look g (EntryLook k key r ∷ ps) n = n
  need-past_look g (x ∷ ps) n = n

  need-freeing : (g : Locked) (ps : List Part) → AllNeed g (freeing ps)
  need-freeing g [] = tt
  need-freeing g (TableScan t want r ∷ ps) = go (frees want)
    where
      go : (b : Bool) → AllNeed g (if b then Frees t (record { 0 = r }) ∷ [] else [])
      go true = (tt, tt)
      go false = tt
  need-freeing g (EntryLook k key r ∷ ps) = go (frees k.want)
    where
      go : (b : Bool) → AllNeed g (if b then Frees k.table r ∷ [] else [])
      go true = (tt, tt)
      go false = tt
  need-freeing g (x ∷ ps) = tt

  need-looked : (g : Locked) (p : Point) (shown : Option (List Value)) (fresh keeps : Bool) → AllNeed g p.left → AllNeed g (looked_by p shown fresh keeps).left
  need-looked g p shown fresh true n = need-past_look g p.left n
  need-looked g p shown true false n = append g (freeing p.left) (past_look p.left) (need-freeing g p.left) (need-past_look g p.left n)
  need-looked g p shown false false n = need-past_look g p.left n

  need-assigned : (g : Locked) (t : TableId) (r : Rid) (o : Result (List Value) Fault)
      → Needs g (elim o [ Ok row ↦ RowUpdate t r row | Err fault ↦ Refuses (fault_code fault) ])
  need-assigned g t r (Ok row) = tt
  need-assigned g t r (Err Fault.Overflow) = refl
  need-assigned g t r (Err Fault.NullFault) = refl

  need-change : (g : Locked) (s : Statement) (columns : List Column) (t : TableId) (k : Rid × List Value) → Needs g (change_part s columns t k)
  need-change g (st.Update u sets cond level) columns t k = need-assigned g t k.0 (assigned columns sets.list k.1)
  need-change g s columns t k = tt

  behind-change : (g : Locked) (s : Statement) (columns : List Column) (t : TableId) (k : Rid × List Value) → Within g (Behind g (change_part s columns t k))
  behind-change g s columns t k = keeps-locked g (change_part s columns t k)

  need-changes : (g : Locked) (s : Statement) (columns : List Column) (t : TableId) (ks : List (Rid × List Value)) → AllNeed g (change_parts s columns t ks)
  need-changes g s columns t [] = tt
  need-changes g s columns t (k ∷ ks) =
      (tt, (need-change g s columns t k, more g (Behind g (change_part s columns t k)) (behind-change g s columns t k) _ (need-changes g s columns t ks)))

  need-opened : (g : Locked) (p : Point) (ps : List Part) → AllNeed g ps → AllNeed g (opened_out p ps)
  need-opened g p [] n = tt
  need-opened g p (Changes t ∷ ps) n =
      append g (change_parts p.statement p.columns t (found_rows p.kept)) ps (need-changes g p.statement p.columns t (found_rows p.kept)) n.1
  need-opened g p (x ∷ ps) n = n

  -- what an answer asks: a lock that was asked for is there, or its wait
  abbrev pub ToldOk : Locked → List Part → Told → Type 0
  ToldOk g ps Told.Done = Asked g ps
  ToldOk g ps Told.Granted = Asked g ps
  ToldOk g ps Told.Queued = Asked g ps
  ToldOk g ps Told.EndOfTable = Asked g ps
  ToldOk g ps Told.Past = Asked g ps
  ToldOk g ps (Told.Floor (Some floor)) = Asked g ps
  ToldOk g ps _ = Unit {0}

  pub need-told : (g : Locked) (p : Point) (t : Told) → AllNeed g p.left → ToldOk g p.left t → AllNeed g (told_point p t).left
  need-told g p Told.Done n ok = need-behind g p.left n ok
  need-told g p Told.Granted n ok = need-behind g p.left n ok
  need-told g p Told.Queued n ok = need-queued g p.left n ok
  need-told g p Told.Blocked n ok = (tt, n)
  need-told g p Told.TimedOut n ok = (tt, (tt, tt))
  need-told g p (Told.Ended reason) n ok = (tt, (tt, tt))
  need-told g p (Told.Escalates t) n ok = (tt, n)
  need-told g p (Told.Refused code) n ok = (tt, (tt, tt))
  need-told g p (Told.Shown shown fresh) n ok = need-looked g p shown fresh (is_kept p shown) n
  need-told g p Told.EndOfTable n ok = need-opened g p (behind p.left) (need-behind g p.left n ok)
  need-told g p Told.Past n ok = need-opened g p (behind p.left) (need-behind g p.left n ok)
  need-told g p (Told.At key r) n ok = need-standing g key r p.left n
  need-told g p (Told.Undone true) n ok = n
  need-told g p (Told.Undone false) n ok = need-ending g p.left
  need-told g p (Told.Floor (Some floor)) n ok = (tt, need-behind g p.left n ok)
  need-told g p (Told.Floor None) n ok = (refl, tt)

  -- where the first part is no lock of a table, or it is locked, every answer is as it asks
  pub any-told : (g : Locked) (ps : List Part) → Asked g ps → (t : Told) → ToldOk g ps t
  any-told g ps ok Told.Done = ok
  any-told g ps ok Told.Granted = ok
  any-told g ps ok Told.Queued = ok
  any-told g ps ok Told.EndOfTable = ok
  any-told g ps ok Told.Past = ok
  any-told g ps ok (Told.Floor (Some floor)) = ok
  any-told g ps ok _ = tt

  -- several answers
  abbrev pub HeardOk : Locked → Point → List Told → Type 0
  HeardOk g p [] = Unit {0}
  HeardOk g p (t ∷ ts) = ToldOk g p.left t × HeardOk g (told_point p t) ts

  pub need-told_all : (g : Locked) (p : Point) (ts : List Told) → AllNeed g p.left → HeardOk g p ts → AllNeed g (told_all p ts).left
  need-told_all g p [] n ok = n
  need-told_all g p (t ∷ ts) n ok = need-told_all g (told_point p t) ts (need-told g p t n ok.0) ok.1
