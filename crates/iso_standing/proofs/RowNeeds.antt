-- What the changes of a statement need of the rows that its scan kept: each is seen as it was kept, and locked before its change.
use Rattle.std.proofs.Common.{◌≡◌, ◌⊎◌, inl, inr, Bool, true, false, List, [], ◌∷◌, ◌++◌, refl, Ok, Err, Result}
use Rattle.iso_conduct.specs.Parts.{Part}
use Rattle.iso_conduct.specs.Parts.Part.{Answer, Asks, Backs, Changes, EntryLook, Frees, IndexScan, Leaves, NewRow, Refuses, Replies, RowDelete, RowUpdate, TableScan, Undos}
use Rattle.iso_conduct.specs.Points.{Haul, change_part, change_parts, fault_code, found_rows}
use Rattle.iso_modes.specs.declared.Mode.TheVariants.{X}
use Rattle.iso_predicate.specs.Assigned.{Fault, assigned}
use Rattle.iso_sql.specs.declared.statement.Statement.{Statement}
use Rattle.iso_sql.specs.declared.statement.Statement.TheVariants as st
use Rattle.iso_standing.proofs.KeptRows.{AllBefore, AllKept, AllSuch, Below, Passed, Scanned, Seen, Such, any-such, scanned-on}
use Rattle.iso_types.specs.Head.{row_fits}
use Rattle.iso_types.specs.declared.head.Column.{Column}
use Rattle.iso_types.specs.declared.head.Head.{Head}
use Rattle.iso_types.specs.declared.value.Name.TheVariants.{End, Key, Row, Table}
use Rattle.iso_types.specs.declared.value.Rid.{Rid}
use Rattle.iso_types.specs.declared.value.TableId.{TableId}
use Rattle.iso_types.specs.declared.value.Value.{Value}

-- which rows are locked for writing
abbrev pub Written : Type 1
Written = TableId → Rid → Type 0

-- with the lock of this row
abbrev pub WithRow : Written → TableId → Rid → Written
WithRow g t r u q = g u q ⊎ ((u ≡ t) × (q ≡ r))

-- nothing but undos, replies and a rollback: no row
abbrev pub is_tail : List Part → Bool
is_tail [] = true
is_tail (Answer ∷ ps) = is_tail ps
is_tail (Replies code changed ∷ ps) = is_tail ps
is_tail (Leaves code reason ∷ ps) = is_tail ps
is_tail (Undos floor ∷ ps) = is_tail ps
is_tail _ = false

-- ---- which rows are named

-- each row that the parts name is such a one
abbrev pub NamesSuch : Such → Haul → List Part → Type 0
NamesSuch such kept [] = Unit {0}
NamesSuch such kept (Asks (Row t r) m ∷ ps) = such t r × NamesSuch such kept ps
NamesSuch such kept (RowUpdate t r row ∷ ps) = such t r × NamesSuch such kept ps
NamesSuch such kept (RowDelete t r ∷ ps) = such t r × NamesSuch such kept ps
NamesSuch such kept (TableScan t want n ∷ ps) = AllSuch (such t) (found_rows kept) × NamesSuch such kept ps
NamesSuch such kept (IndexScan k at ∷ ps) = AllSuch (such k.table) (found_rows kept) × NamesSuch such kept ps
NamesSuch such kept (EntryLook k key r ∷ ps) = AllSuch (such k.table) (found_rows kept) × NamesSuch such kept ps
NamesSuch such kept (x ∷ ps) = NamesSuch such kept ps

-- every row is one
pub names-any : (kept : Haul) (ps : List Part) → NamesSuch (λ t q. Unit {0}) kept ps
names-any kept [] = tt
names-any kept (Asks (Table t) m ∷ ps) = names-any kept ps
names-any kept (Asks (Row t r) m ∷ ps) = (tt, names-any kept ps)
names-any kept (Asks _ m ∷ ps) = names-any kept ps
names-any kept (RowUpdate t r row ∷ ps) = (tt, names-any kept ps)
names-any kept (RowDelete t r ∷ ps) = (tt, names-any kept ps)
names-any kept (TableScan t want n ∷ ps) = (any-such (found_rows kept), names-any kept ps)
names-any kept (IndexScan k at ∷ ps) = (any-such (found_rows kept), names-any kept ps)
names-any kept (EntryLook k key r ∷ ps) = (any-such (found_rows kept), names-any kept ps)
names-any kept (x ∷ ps) = names-any kept ps

-- a tail names none
pub names-tail : (such : Such) (kept : Haul) (ps : List Part) → is_tail ps ≡ true → NamesSuch such kept ps
names-tail such kept [] e = tt
names-tail such kept (Answer ∷ ps) e = names-tail such kept ps e
names-tail such kept (Replies code changed ∷ ps) e = names-tail such kept ps e
names-tail such kept (Leaves code reason ∷ ps) e = names-tail such kept ps e
names-tail such kept (Undos floor ∷ ps) e = names-tail such kept ps e
names-tail such kept (x ∷ ps) e = absurd (cc)

-- what holds of such a one, where it is named
module _ (such a b : Such) (on : (t : TableId) (r : Rid) → such t r → a t r → b t r) where
  all-on : (t : TableId) (ks : List (Rid × List Value)) → AllSuch (such t) ks → AllSuch (a t) ks → AllSuch (b t) ks
  all-on t [] o h = tt
  all-on t (k ∷ ks) o h = (on t k.0 o.0 h.0, all-on t ks o.1 h.1)

  names-on : (kept : Haul) (ps : List Part) → NamesSuch such kept ps → NamesSuch a kept ps → NamesSuch b kept ps
  names-on kept [] o h = tt
  names-on kept (Asks (Table t) m ∷ ps) o h = names-on kept ps o h
  names-on kept (Asks (Row t r) m ∷ ps) o h = (on t r o.0 h.0, names-on kept ps o.1 h.1)
  names-on kept (Asks _ m ∷ ps) o h = names-on kept ps o h
  names-on kept (RowUpdate t r row ∷ ps) o h = (on t r o.0 h.0, names-on kept ps o.1 h.1)
  names-on kept (RowDelete t r ∷ ps) o h = (on t r o.0 h.0, names-on kept ps o.1 h.1)
  names-on kept (TableScan t want n ∷ ps) o h = (all-on t (found_rows kept) o.0 h.0, names-on kept ps o.1 h.1)
  names-on kept (IndexScan k at ∷ ps) o h = (all-on k.table (found_rows kept) o.0 h.0, names-on kept ps o.1 h.1)
  names-on kept (EntryLook k key r ∷ ps) o h = (all-on k.table (found_rows kept) o.0 h.0, names-on kept ps o.1 h.1)
  names-on kept (x ∷ ps) o h = names-on kept ps o h

-- a row of another rid
abbrev pub Beside : Rid → Such
Beside r t q = q ≡ r → ⊥

module _ (head : Head) (s : Statement) (columns : List Column) where
  -- ---- what a part needs

  -- what an UPDATE assigns fits its table again
  abbrev pub Assigns : Statement → TableId → Type 0
  Assigns (st.Update u sets cond level) t =
      (row new : List Value) → row_fits head t row ≡ true → assigned columns sets.list row ≡ Ok new → row_fits head t new ≡ true
  Assigns x t = Unit {0}

  -- behind a scan come the changes of its rows, or none
  abbrev pub Follows : TableId → List Part → Type 0
  Follows t (Changes u ∷ ps) = (u ≡ t) × (is_tail ps ≡ true) × Assigns s u
  Follows t ps = is_tail ps ≡ true

  -- what a part needs, with those behind it; which rows are firm counts for a Free, which leaves those alone
  abbrev pub NeedsRows : Seen → Such → Written → Haul → Part → List Part → Type 0
  NeedsRows see firm g kept (Asks (Row t r) m) ps = (m ≡ X) × (row : List Value) × see t r row
  NeedsRows see firm g kept (Asks (Key i v) m) ps = ⊥
  NeedsRows see firm g kept (Asks (End i) m) ps = ⊥
  NeedsRows see firm g kept (TableScan t want n) ps = Follows t ps × Scanned head see t want (Below n) kept
  NeedsRows see firm g kept (IndexScan k at) ps = Follows k.table ps × Scanned head see k.table k.want (Passed k.column at) kept
  NeedsRows see firm g kept (EntryLook k key r) ps = Follows k.table ps × Scanned head see k.table k.want (AllBefore k.column (key, r)) kept
  NeedsRows see firm g kept (Frees t r) ps = NamesSuch firm kept ps
  NeedsRows see firm g kept (Changes t) ps = (is_tail ps ≡ true) × Assigns s t
  NeedsRows see firm g kept (NewRow t row) ps = is_tail ps ≡ true
  NeedsRows see firm g kept (RowUpdate t r row) ps =
      g t r × ((old : List Value) × see t r old) × (row_fits head t row ≡ true) × NamesSuch (Beside r) kept ps
  NeedsRows see firm g kept (RowDelete t r) ps = g t r × ((old : List Value) × see t r old) × NamesSuch (Beside r) kept ps
  NeedsRows see firm g kept (Undos floor) ps = is_tail ps ≡ true
  NeedsRows see firm g kept (Backs name) ps = is_tail ps ≡ true
  NeedsRows see firm g kept _ ps = Unit {0}

  -- which rows are locked behind a part
  abbrev pub BehindRow : Written → Part → Written
  BehindRow g (Asks (Row t r) m) = WithRow g t r
  BehindRow g _ = g

  -- what all parts need
  abbrev pub AllRows : Seen → Such → Written → Haul → List Part → Type 0
  AllRows see firm g kept [] = Unit {0}
  AllRows see firm g kept (x ∷ xs) = NeedsRows see firm g kept x xs × AllRows see firm (BehindRow g x) kept xs

  -- a tail needs nothing
  pub tail-rows : (see : Seen) (firm : Such) (g : Written) (kept : Haul) (ps : List Part) → is_tail ps ≡ true → AllRows see firm g kept ps
  tail-rows see firm g kept [] e = tt
  tail-rows see firm g kept (Answer ∷ ps) e = (tt, tail-rows see firm g kept ps e)
  tail-rows see firm g kept (Replies code changed ∷ ps) e = (tt, tail-rows see firm g kept ps e)
  tail-rows see firm g kept (Leaves code reason ∷ ps) e = (tt, tail-rows see firm g kept ps e)
  tail-rows see firm g kept (Undos floor ∷ ps) e = (e, tail-rows see firm g kept ps e)
  tail-rows see firm g kept (x ∷ ps) e = absurd (cc)

  -- what follows a scan needs the same whatever is kept
  pub follow-rows : (see : Seen) (firm : Such) (g : Written) (kept : Haul) (t : TableId) (ps : List Part) → Follows t ps → AllRows see firm g kept ps
  follow-rows see firm g kept t [] f = tt
  follow-rows see firm g kept t (Changes u ∷ ps) f = ((f.1, f.2), tail-rows see firm g kept ps f.1)
  follow-rows see firm g kept t (x ∷ ps) f = tail-rows see firm g kept (x ∷ ps) f

  -- ---- from one world to another, for the rows that are named

  module _ (see sees : Seen) (firm firms : Such) (such : Such) (seen : (t : TableId) (r : Rid) (row : List Value) → such t r → see t r row → sees t r row)
      (stays : (t : TableId) (r : Rid) → such t r → firm t r → firms t r) where
    pub rows-on : (g h : Written) → ((t : TableId) (r : Rid) → such t r → g t r → h t r) → (kept : Haul) (ps : List Part) → NamesSuch such kept ps
        → AllRows see firm g kept ps → AllRows sees firms h kept ps
    rows-on g h locked kept [] o n = tt
    rows-on g h locked kept (Asks (Row t r) m ∷ ps) o n = (
      (n.0.0, n.0.1, seen t r n.0.1 o.0 n.0.2),
      rows-on (WithRow g t r) (WithRow h t r) with-on kept ps o.1 n.1,
    )
      where
        with-on : (u : TableId) (q : Rid) → such u q → WithRow g t r u q → WithRow h t r u q
        with-on u q f (inl e) = inl (locked u q f e)
        with-on u q f (inr e) = inr e
    rows-on g h locked kept (Asks (Table t) m ∷ ps) o n =
        (tt, rows-on g h locked kept ps o n.1)
    rows-on g h locked kept (Asks (Key i v) m ∷ ps) o n = absurd n.0
    rows-on g h locked kept (Asks (End i) m ∷ ps) o n = absurd n.0
    rows-on g h locked kept (TableScan t want m ∷ ps) o n = (
      (n.0.0, scanned-on head see sees such seen t want (Below m) kept o.0 n.0.1),
      rows-on g h locked kept ps o.1 n.1,
    )
    rows-on g h locked kept (IndexScan k at ∷ ps) o n = (
      (n.0.0, scanned-on head see sees such seen k.table k.want (Passed k.column at) kept o.0 n.0.1),
      rows-on g h locked kept ps o.1 n.1,
    )
    rows-on g h locked kept (EntryLook k key r ∷ ps) o n = (
      (n.0.0, scanned-on head see sees such seen k.table k.want (AllBefore k.column (key, r)) kept o.0 n.0.1),
      rows-on g h locked kept ps o.1 n.1,
    )
    rows-on g h locked kept (Frees t r ∷ ps) o n =
        (names-on such firm firms stays kept ps o n.0, rows-on g h locked kept ps o n.1)
    rows-on g h locked kept (RowUpdate t r row ∷ ps) o n = (
      (locked t r o.0 n.0.0, (n.0.1.0, seen t r n.0.1.0 o.0 n.0.1.1), n.0.2, n.0.3),
      rows-on g h locked kept ps o.1 n.1,
    )
    rows-on g h locked kept (RowDelete t r ∷ ps) o n = (
      (locked t r o.0 n.0.0, (n.0.1.0, seen t r n.0.1.0 o.0 n.0.1.1), n.0.2),
      rows-on g h locked kept ps o.1 n.1,
    )
    rows-on g h locked kept (x ∷ ps) o n = (n.0, rows-on g h locked kept ps o n.1)

  -- where more is locked
  pub rows-more : (see : Seen) (firm : Such) (g h : Written) → ((t : TableId) (r : Rid) → g t r → h t r) → (kept : Haul) (ps : List Part)
      → AllRows see firm g kept ps → AllRows see firm h kept ps
  rows-more see firm g h le kept ps n = rows-on see see firm firm (λ t q. Unit {0}) (λ t r row u e. e) (λ t r u e. e) g h (λ t r u e. le t r e) kept ps
      (names-any kept ps) n

  -- ---- the changes of the rows that were kept

  names-assigned : (such : Such) (kept : Haul) (t : TableId) (r : Rid) (o : Result (List Value) Fault) (ps : List Part) → such t r
      → NamesSuch such kept ps → NamesSuch such kept ((elim o [ Ok row ↦ RowUpdate t r row | Err fault ↦ Refuses (fault_code fault) ]) ∷ ps)
  names-assigned such kept t r (Ok row) ps o n = (o, n)
  names-assigned such kept t r (Err fault) ps o n = n

  names-change : (such : Such) (kept : Haul) (x : Statement) (t : TableId) (k : Rid × List Value) (ps : List Part) → such t k.0 → NamesSuch such kept ps
      → NamesSuch such kept (change_part x columns t k ∷ ps)
  names-change such kept (st.Update u sets cond level) t k ps o n = names-assigned such kept t k.0 (assigned columns sets.list k.1) ps o n
  names-change such kept _ t k ps o n = (o, n)

  names-changes : (such : Such) (kept : Haul) (t : TableId) (ks : List (Rid × List Value)) (ps : List Part) → AllSuch (such t) ks → is_tail ps ≡ true
      → NamesSuch such kept (change_parts s columns t ks ++ ps)
  names-changes such kept t [] ps o e = names-tail such kept ps e
  names-changes such kept t (k ∷ ks) ps o e =
      (o.0, names-change such kept s t k (change_parts s columns t ks ++ ps) o.0 (names-changes such kept t ks ps o.1 e))

  -- one change, behind the lock of its row
  change-rows : (see : Seen) (firm : Such) (g : Written) (kept : Haul) (x : Statement) (t : TableId) (k : Rid × List Value) (ps : List Part) → g t k.0
      → see t k.0 k.1 → row_fits head t k.1 ≡ true → Assigns x t → NamesSuch (Beside k.0) kept ps → AllRows see firm g kept ps
      → AllRows see firm g kept (change_part x columns t k ∷ ps)
  change-rows see firm g kept (st.Update u sets cond level) t k ps lock sees fits assigns names n = go (assigned columns sets.list k.1) refl
    where
      go : (o : Result (List Value) Fault) → assigned columns sets.list k.1 ≡ o
          → AllRows see firm g kept ((elim o [ Ok row ↦ RowUpdate t k.0 row | Err fault ↦ Refuses (fault_code fault) ]) ∷ ps)
      go (Ok row) e = ((lock, (k.1, sees), assigns k.1 row fits e, names), n)
      go (Err fault) e = (tt, n)
  change-rows see firm g kept _ t k ps lock sees fits assigns names n = ((lock, (k.1, sees), names), n)

  -- all of them
  pub changes-rows : (see : Seen) (firm : Such) (g : Written) (kept : Haul) (t : TableId) (ks : List (Rid × List Value)) (ps : List Part) → Assigns s t
      → is_tail ps ≡ true → AllKept head see t ks → AllRows see firm g kept (change_parts s columns t ks ++ ps)
  changes-rows see firm g kept t [] ps assigns e k = tail-rows see firm g kept ps e
  changes-rows see firm g kept t (x ∷ ks) ps assigns e k = (
    (refl, x.1, k.0),
    change-rows see firm (WithRow g t x.0) kept s t x (change_parts s columns t ks ++ ps) (inr (refl, refl)) k.0 k.1 assigns
        (names-changes (Beside x.0) kept t ks ps k.2 e)
        (rows-more see firm g (WithRow g t x.0) (λ u q l. inl l) kept (change_parts s columns t ks ++ ps)
        (changes-rows see firm g kept t ks ps assigns e k.3)),
  )
