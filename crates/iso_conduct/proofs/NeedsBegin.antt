-- What a sound statement needs at its start is locked by its own first part.
use Rattle.std.proofs.Common.{◌≡◌, ◌<◌, ◌⊎◌, inl, inr, ℕ, zero, suc, Bool, true, false, not, ◌&&◌, ◌||◌, List, [], ◌∷◌, length, arith, refl, ap, sym, ◌∙◌, subst, Some, None, Option, if◌then◌else◌, pos}
use Rattle.std.specs.Option.{option_map_or}
use Rattle.std.specs.Prelude.{Contains, nat_lt, slice_get}
use Rattle.std.proofs.lemmas.Bool.{and_parts}
use Rattle.std.proofs.lemmas.Bool.Decides.{nat_tests}
use Rattle.iso_conduct.proofs.Needs.{AllNeed, Locked, Needs, Reads, With}
use Rattle.iso_conduct.specs.Parts.{Part, change_list, change_mode, change_want, level_in, listed, new_row, scan, select_list, select_mode, select_want}
use Rattle.iso_conduct.specs.Parts.Part.{NewRow, Refuses}
use Rattle.iso_history.proofs.phantoms.KeysAfter.{index-on-table}
use Rattle.iso_history.proofs.phantoms.Members.{in-first, in-rest}
use Rattle.iso_history.specs.Requests.{is_table_mode}
use Rattle.iso_history.specs.World.{Setting}
use Rattle.iso_history.specs.Writes.{minus}
use Rattle.iso_history.specs.declared.entry.Want.{Want}
use Rattle.iso_modes.specs.Modes.{at_least, joined, mode_eq, mode_number}
use Rattle.iso_modes.specs.declared.Mode.{Mode}
use Rattle.iso_modes.specs.declared.Mode.TheVariants.{Is, Ix, S, X}
use Rattle.iso_predicate.specs.Assigned.{has_null}
use Rattle.iso_predicate.specs.Plan.{bounds_in, first_path, path_by, plan_of}
use Rattle.iso_predicate.specs.declared.plans.Path.{Path}
use Rattle.iso_sql.specs.Sound.{are_stored, columns_of, is_sound_statement}
use Rattle.iso_sql.specs.declared.statement.Condition.{Condition}
use Rattle.iso_sql.specs.declared.statement.Statement.{Statement}
use Rattle.iso_sql.specs.declared.statement.Statement.TheVariants as st
use Rattle.iso_types.specs.Head.{all_fit, fits_column, fits_kind, indexes_of, is_null, is_table, row_fits, table_of_index}
use Rattle.iso_types.specs.declared.head.Column.{Column}
use Rattle.iso_types.specs.declared.head.Head.{Head}
use Rattle.iso_types.specs.declared.head.Isolation.{Isolation}
use Rattle.iso_types.specs.declared.head.Isolation.TheVariants.{Cs, Rr, Rs, Ur}
use Rattle.iso_types.specs.declared.head.Range.{Range}
use Rattle.iso_types.specs.declared.head.TableDef.{TableDef}
use Rattle.iso_types.specs.declared.value.Conn.{Conn}
use Rattle.iso_types.specs.declared.value.IndexId.{IndexId}
use Rattle.iso_types.specs.declared.value.TableId.{TableId}
use Rattle.iso_types.specs.declared.value.Value.{Value}

-- ---- modes

is-is : at_least Is Is ≡ true
unfolding mode_number mode_eq joined at_least
is-is = refl

s-is : at_least S Is ≡ true
unfolding mode_number mode_eq joined at_least
s-is = refl

ix-ix : at_least Ix Ix ≡ true
unfolding mode_number mode_eq joined at_least
ix-ix = refl

ix-is : at_least Ix Is ≡ true
unfolding mode_number mode_eq joined at_least
ix-is = refl

x-ix : at_least X Ix ≡ true
unfolding mode_number mode_eq joined at_least
x-ix = refl

select-suits : (level : Isolation) (path : Path) → is_table_mode (select_mode level path) ≡ true
unfolding is_table_mode
select-suits Ur path = refl
select-suits Cs path = refl
select-suits Rs path = refl
select-suits Rr Path.Table = refl
select-suits Rr (Path.Index i range) = refl

change-suits : (level : Isolation) (path : Path) → is_table_mode (change_mode level path) ≡ true
unfolding is_table_mode
change-suits Ur path = refl
change-suits Cs path = refl
change-suits Rs path = refl
change-suits Rr Path.Table = refl
change-suits Rr (Path.Index i range) = refl

locks-suit : (m : Mode) → (mode_eq m S || mode_eq m X) ≡ true → is_table_mode m ≡ true
unfolding mode_eq mode_number is_table_mode
locks-suit Mode.S e = refl
locks-suit Mode.X e = refl
locks-suit Mode.In e = cc
locks-suit Mode.Is e = cc
locks-suit Mode.Ns e = cc
locks-suit Mode.Ix e = cc
locks-suit Mode.Six e = cc
locks-suit Mode.U e = cc
locks-suit Mode.Z e = cc
locks-suit Mode.Nw e = cc

ix-suits : is_table_mode Ix ≡ true
unfolding is_table_mode
ix-suits = refl

-- ---- rows

stored-fits : (cs : List Column) (vs : List Value) → are_stored cs vs ≡ true → has_null cs vs ≡ false → all_fit cs vs ≡ true
stored-fits [] [] a n = refl
stored-fits [] (v ∷ vs) a n = cc
stored-fits (c ∷ cs) [] a n = cc
stored-fits (c ∷ cs) (v ∷ vs) a n =
    let p = and_parts _ _ a in
    go (fits_kind c.kind v) p.0 (c.required && is_null v) n (λ m. stored-fits cs vs p.1 m)
  where
    go : (k : Bool) → k ≡ true → (b : Bool) → (b || has_null cs vs) ≡ false → (has_null cs vs ≡ false → all_fit cs vs ≡ true)
        → ((k && not b) && all_fit cs vs) ≡ true
    go true e true h ih = cc
    go true e false h ih = ih h
    go false e b h ih = cc

there-some : {A : Type 0} (xs : List A) (k : ℕ) → k < length xs → slice_get xs k ≡ None → ⊥
there-some [] k lt e = omega (arith, lt)
there-some (x ∷ xs) zero lt e = cc
there-some (x ∷ xs) (suc k) lt e = there-some xs k (omega (arith, lt)) e

less : (a b : ℕ) → nat_lt a b ≡ true → a < b
less a b e = grind (arith, nat_tests)

row-stored : (head : Head) (t : TableId) (row : List Value) → is_table head t ≡ true → are_stored (columns_of head t) row ≡ true
    → has_null (columns_of head t) row ≡ false → row_fits head t row ≡ true
row-stored head t row is a n = go (slice_get head.tables t.0) refl a n
  where
    go : (o : Option TableDef) → slice_get head.tables t.0 ≡ o → are_stored (option_map_or (λ d. d.columns) o []) row ≡ true
        → has_null (option_map_or (λ d. d.columns) o []) row ≡ false → option_map_or (λ d. all_fit d.columns row) o false ≡ true
    go (Some d) e f g = stored-fits d.columns row f g
    go None e f g = absurd (there-some head.tables t.0 (less t.0 (length head.tables) is) e)

module _ (head : Head) where
  -- ---- paths

  abbrev PathOk : TableId → Path → Type 0
  PathOk t Path.Table = Unit {0}
  PathOk t (Path.Index i range) = table_of_index head i ≡ Some t

  path-by : (t : TableId) (i : IndexId) (o : Option Range) (after : Path) → table_of_index head i ≡ Some t → PathOk t after → PathOk t (path_by i o after)
  path-by t i None after h k = k
  path-by t i (Some range) after h k = h

  path-first : (t : TableId) (cond : Condition) (is : List IndexId) → ((i : IndexId) → Contains is i → table_of_index head i ≡ Some t)
      → PathOk t (first_path head cond is)
  path-first t cond [] h = tt
  path-first t cond (i ∷ is) h = path-by t i (bounds_in head cond i) (first_path head cond is) (h i (in-first i is))
      (path-first t cond is (λ j k. h j (in-rest i j is k)))

  path-plan : (t : TableId) (cond : Condition) → PathOk t (plan_of head t cond)
  path-plan t cond = path-first t cond (indexes_of head t) (λ i k. index-on-table head t i k)

  -- ---- scans, behind the lock of their table

  module _ (g : Locked) (t : TableId) (there : is_table head t ≡ true) where
    under : (m k : Mode) → at_least m k ≡ true → With g t m t k
    under m k e = inr (refl, e)

    steady-reads : (b : Bool) → Reads (With g t Is) t (if b then Want.Current else Want.Settled)
    steady-reads true = under Is Is is-is
    steady-reads false = under Is Is is-is

    select-needs : (b : Bool) (level : Isolation) (path : Path) → PathOk t path
        → Needs head (With g t (select_mode level path)) (scan head t (select_want b level) level path)
    select-needs b Ur Path.Table ok = (there, tt)
    select-needs b Cs Path.Table ok = (there, steady-reads b)
    select-needs b Rs Path.Table ok = (there, under Is Is is-is)
    select-needs b Rr Path.Table ok = (there, under S Is s-is)
    select-needs b Ur (Path.Index i range) ok = (there, ok, tt, λ e. absurd (cc))
    select-needs b Cs (Path.Index i range) ok = (there, ok, steady-reads b, λ e. absurd (cc))
    select-needs b Rs (Path.Index i range) ok = (there, ok, under Is Is is-is, λ e. absurd (cc))
    select-needs b Rr (Path.Index i range) ok = (there, ok, under Is Is is-is, λ e. under Is Is is-is)

    change-needs : (level : Isolation) (path : Path) → PathOk t path
        → Needs head (With g t (change_mode level path)) (scan head t (change_want level) level path)
    change-needs Ur Path.Table ok = (there, under Ix Ix ix-ix)
    change-needs Cs Path.Table ok = (there, under Ix Ix ix-ix)
    change-needs Rs Path.Table ok = (there, under Ix Ix ix-ix)
    change-needs Rr Path.Table ok = (there, under X Ix x-ix)
    change-needs Ur (Path.Index i range) ok = (there, ok, under Ix Ix ix-ix, λ e. absurd (cc))
    change-needs Cs (Path.Index i range) ok = (there, ok, under Ix Ix ix-ix, λ e. absurd (cc))
    change-needs Rs (Path.Index i range) ok = (there, ok, under Ix Ix ix-ix, λ e. absurd (cc))
    change-needs Rr (Path.Index i range) ok = (there, ok, under Ix Ix ix-ix, λ e. under Ix Is ix-is)

    new-needs : (row : List Value) → are_stored (columns_of head t) row ≡ true
        → AllNeed head (With g t Ix) (new_row head t row ∷ Part.Replies (pos 0) 1 ∷ [])
    new-needs row stored = go (has_null (columns_of head t) row) refl
      where
        go : (b : Bool) → has_null (columns_of head t) row ≡ b
            → AllNeed head (With g t Ix) ((if b then Refuses (minus 407) else NewRow t row) ∷ Part.Replies (pos 0) 1 ∷ [])
        go true e = (refl, (tt, tt))
        go false e = ((row-stored head t row there stored e, under Ix Ix ix-ix), (tt, tt))

    select-list : (level : Isolation) (path : Path) → PathOk t path → AllNeed head g (select_list head t level path)
    select-list level path ok = (
      (there, select-suits level path),
      over (scan head t (select_want head.config.cur_commit level) level path)
          (select-needs head.config.cur_commit level path ok),
    )
      where
        over : (x : Part) → Needs head (With g t (select_mode level path)) x → AllNeed head (With g t (select_mode level path)) (x ∷ Part.Answer ∷ [])
        over x n = (n, (tt, tt))

    change-list : (level : Isolation) (path : Path) → PathOk t path → AllNeed head g (change_list head t level path)
    change-list level path ok = ((there, change-suits level path), over (scan head t (change_want level) level path) (change-needs level path ok))
      where
        over : (x : Part) → Needs head (With g t (change_mode level path)) x
            → AllNeed head (With g t (change_mode level path)) (x ∷ Part.Changes t ∷ Part.Answer ∷ [])
        over x n = (n, (tt, (tt, tt)))

  -- a sound statement needs nothing that it does not lock
  pub begin-needs : (g : Locked) (c : Conn) (set : Setting) (s : Statement) → is_sound_statement head s ≡ true → AllNeed head g (listed head c set s)
  begin-needs g c set (st.Select t items cond level) sound =
      select-list g t ((and_parts _ _ sound).0) (level_in set level) (plan_of head t cond) (path-plan t cond)
  begin-needs g c set (st.Update t sets cond level) sound =
      change-list g t ((and_parts _ _ sound).0) (level_in set level) (plan_of head t cond) (path-plan t cond)
  begin-needs g c set (st.Delete t cond level) sound =
      change-list g t ((and_parts _ _ sound).0) (level_in set level) (plan_of head t cond) (path-plan t cond)
  begin-needs g c set (st.Insert t row) sound =
      let p = and_parts _ _ sound in ((p.0, ix-suits), new-needs g t p.0 row p.1)
  begin-needs g c set (st.LockTable t mode) sound = let p = and_parts _ _ sound in ((p.0, locks-suit mode p.1), (tt, tt))
  begin-needs g c set (st.Savepoint name) sound = (tt, (tt, tt))
  begin-needs g c set (st.RollbackTo name) sound = (tt, (tt, tt))
  begin-needs g c set st.Rollback sound = (tt, (tt, tt))
  begin-needs g c set st.Commit sound = (tt, tt)
  begin-needs g c set (st.SetIsolation level) sound = (tt, (tt, tt))
  begin-needs g c set (st.SetWait may_wait) sound = (tt, (tt, tt))
