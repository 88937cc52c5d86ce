-- At its start a statement needs no row, and what an UPDATE assigns to a row that fits its table fits it again.
use Rattle.std.proofs.Common.{◌≡◌, ◌+◌, ℕ, suc, Bool, true, false, List, [], ◌∷◌, refl, ap, sym, ◌∙◌, subst, arith, Option, Some, None, Ok, if◌then◌else◌}
use Rattle.std.proofs.lemmas.Bool.Decides.{nat_tests}
use Rattle.std.specs.List.{enumerate_from}
use Rattle.std.specs.Option.{option_map_or, option_or}
use Rattle.std.specs.Prelude.{◌==◌, map, slice_get, pos}
use Rattle.iso_conduct.specs.Parts.{Part, change_want, level_in, listed, scan, select_mode, select_want, change_mode}
use Rattle.iso_conduct.specs.Parts.Part.{Answer, Asks, Changes, NewRow, Refuses, Replies}
use Rattle.iso_conduct.specs.Points.{first_haul, updated_columns}
use Rattle.iso_conduct.specs.Points.Haul.{Found}
use Rattle.iso_history.specs.Guards.{is_lasting}
use Rattle.iso_history.specs.World.{Setting}
use Rattle.iso_history.specs.Writes.{minus}
use Rattle.iso_history.specs.declared.entry.Want.{Want}
use Rattle.iso_modes.specs.declared.Mode.{Mode}
use Rattle.iso_predicate.proofs.Fitting.{and_both, and_first, and_second, fits_without_fault}
use Rattle.iso_predicate.specs.Assigned.{Fault, assigned, evaluated, fault_in, fault_of, first_fault, has_null, new_value, replaced, unless}
use Rattle.iso_predicate.specs.Plan.{plan_of}
use Rattle.iso_predicate.specs.declared.plans.Path.{Path}
use Rattle.iso_sql.specs.Sound.{columns_of}
use Rattle.iso_sql.specs.declared.statement.Assignment.{Assignment}
use Rattle.iso_sql.specs.declared.statement.Condition.{Condition}
use Rattle.iso_sql.specs.declared.statement.Items2.{Items2}
use Rattle.iso_sql.specs.declared.statement.Items2.TheVariants.{All, Columns, Count}
use Rattle.iso_sql.specs.declared.statement.Statement.{Statement}
use Rattle.iso_sql.specs.declared.statement.Statement.TheVariants as st
use Rattle.iso_standing.proofs.KeptRows.{Seen, Such}
use Rattle.iso_standing.proofs.RowNeeds.{AllRows, Assigns, Written}
use Rattle.iso_types.specs.Head.{all_fit, fits_column, row_fits}
use Rattle.iso_types.specs.declared.head.Column.{Column}
use Rattle.iso_types.specs.declared.head.Head.{Head}
use Rattle.iso_types.specs.declared.head.Isolation.{Isolation}
use Rattle.iso_types.specs.declared.head.TableDef.{TableDef}
use Rattle.iso_types.specs.declared.value.Conn.{Conn}
use Rattle.iso_types.specs.declared.value.Name.TheVariants.{Table}
use Rattle.iso_types.specs.declared.value.TableId.{TableId}
use Rattle.iso_types.specs.declared.value.Value.{Value}

-- ---- assigned rows

neither : {A : Type 0} (a b : Option A) → option_or a b ≡ None → (a ≡ None) × (b ≡ None)
neither None b e = (refl, e)
neither (Some x) b e = cc

equal : (a b : ℕ) → (a == b) ≡ true → a ≡ b
equal a b e = grind (arith, nat_tests)

module _ (columns : List Column) (old : List Value) where
  fault-none : (a : Assignment) (c : Column) → slice_get columns a.column ≡ Some c → fault_of columns old a ≡ None → fault_in c (evaluated old a.expr) ≡ None
  fault-none a c is e = sym (ap (λ o. option_map_or (λ (d : Column). fault_in d (evaluated old a.expr)) o None) is) ∙ e

  -- the new value of a column fits it, where no assignment has a fault
  value-fits : (sets : List Assignment) (k : ℕ) (c : Column) (v : Value) → slice_get columns k ≡ Some c → first_fault columns old sets ≡ None
      → fits_column c v ≡ true → fits_column c (new_value old sets k v) ≡ true
  value-fits [] k c v is none fit = fit
  value-fits (a ∷ rest) k c v is none fit =
      let both = neither (fault_of columns old a) (first_fault columns old rest) none in
      value-fits rest k c _ is both.1 (go both.0 (a.column == k) refl)
    where
      go : fault_of columns old a ≡ None → (b : Bool) → (a.column == k) ≡ b → fits_column c (if b then evaluated old a.expr else v) ≡ true
      go f true e = fits_without_fault c (evaluated old a.expr) (fault-none a c (ap (slice_get columns) (equal a.column k e) ∙ is) f)
      go f false e = fit

  values-fit : (sets : List Assignment) (n : ℕ) (cs : List Column) (vs : List Value) → first_fault columns old sets ≡ None
      → ((k : ℕ) (c : Column) → slice_get cs k ≡ Some c → slice_get columns (n + k) ≡ Some c) → all_fit cs vs ≡ true
      → all_fit cs (map (λ p. new_value old sets p.0 p.1) (enumerate_from n vs)) ≡ true
  values-fit sets n [] [] none at fit = refl
  values-fit sets n [] (v ∷ vs) none at fit = absurd (cc)
  values-fit sets n (c ∷ cs) [] none at fit = absurd (cc)
  values-fit sets n (c ∷ cs) (v ∷ vs) none at fit =
      let same : n + 0 ≡ n = omega arith in
      let here : slice_get columns n ≡ Some c = subst (λ z. slice_get columns z ≡ Some c) same (at 0 c refl) in
      and_both (fits_column c (new_value old sets n v)) _
      (value-fits sets n c v here none (and_first (fits_column c v) (all_fit cs vs) fit))
      (values-fit sets (n + 1) cs vs none next (and_second (fits_column c v) (all_fit cs vs) fit))
    where
      next : (k : ℕ) (d : Column) → slice_get cs k ≡ Some d → slice_get columns (n + 1 + k) ≡ Some d
      next k d e = let same : n + suc k ≡ n + 1 + k = omega arith in subst (λ z. slice_get columns z ≡ Some d) same (at (suc k) d e)

  replaced-fits : (sets : List Assignment) (new : List Value) → all_fit columns old ≡ true → assigned columns sets old ≡ Ok new → all_fit columns new ≡ true
  replaced-fits sets new fit e = go (first_fault columns old sets) refl e
    where
      go : (o : Option Fault) → first_fault columns old sets ≡ o → unless o (replaced old sets old) ≡ Ok new → all_fit columns new ≡ true
      go (Some fault) none k = cc
      go None none k =
          let same : replaced old sets old ≡ new = cc in
          subst (λ z. all_fit columns z ≡ true) same (values-fit sets 0 columns old none (λ j c is. subst (λ z. slice_get columns z ≡ Some c) (from j) is) fit)
        where
          from : (j : ℕ) → j ≡ 0 + j
          from j = omega arith

-- what an UPDATE of a table assigns fits it
pub assigned-fits : (head : Head) (t : TableId) (sets : List Assignment) (row new : List Value) → row_fits head t row ≡ true
    → assigned (columns_of head t) sets row ≡ Ok new → row_fits head t new ≡ true
assigned-fits head t sets row new fit e = go (slice_get head.tables t.0) fit e
  where
    go : (o : Option TableDef) → option_map_or (λ d. all_fit d.columns row) o false ≡ true
        → assigned (option_map_or (λ d. d.columns) o []) sets row ≡ Ok new → option_map_or (λ d. all_fit d.columns new) o false ≡ true
    go None f k = cc
    go (Some d) f k = replaced-fits d.columns row sets new f k

-- ---- the start

change-lasts : (level : Isolation) → is_lasting (change_want level) ≡ true
change-lasts Isolation.Ur = refl
change-lasts Isolation.Cs = refl
change-lasts Isolation.Rs = refl
change-lasts Isolation.Rr = refl

module _ (head : Head) (see : Seen) (firm : Such) (g : Written) where
  abbrev Begins : Statement → List Part → Type 0
  Begins s ps = AllRows head s (updated_columns head s) see firm g (first_haul s) ps

  select-begins : (t : TableId) (items : Items2) (cond : Condition) (level : Option Isolation) (m : Mode) (want : Want) (l : Isolation) (path : Path)
      → Begins (st.Select t items cond level) (Asks (Table t) m ∷ scan head t want l path ∷ Answer ∷ [])
  select-begins t Count cond level m want l Path.Table = (tt, ((refl, tt), (tt, tt)))
  select-begins t All cond level m want l Path.Table = (tt, ((refl, tt), (tt, tt)))
  select-begins t (Columns ks) cond level m want l Path.Table = (tt, ((refl, tt), (tt, tt)))
  select-begins t Count cond level m want l (Path.Index i range) = (tt, ((refl, tt), (tt, tt)))
  select-begins t All cond level m want l (Path.Index i range) = (tt, ((refl, tt), (tt, tt)))
  select-begins t (Columns ks) cond level m want l (Path.Index i range) = (tt, ((refl, tt), (tt, tt)))

  change-begins : (s : Statement) (t : TableId) (m : Mode) (level : Isolation) (path : Path) → first_haul s ≡ Found []
      → Assigns head s (updated_columns head s) s t
      → Begins s (Asks (Table t) m ∷ scan head t (change_want level) level path ∷ Changes t ∷ Answer ∷ [])
  change-begins s t m level path none assigns =
      subst (λ k. AllRows head s (updated_columns head s) see firm g k (Asks (Table t) m ∷ scan head t (change_want level) level path ∷ Changes t ∷ Answer ∷ []))
      (sym none) (by path)
    where
      by : (x : Path) → AllRows head s (updated_columns head s) see firm g (Found [])
          (Asks (Table t) m ∷ scan head t (change_want level) level x ∷ Changes t ∷ Answer ∷ [])
      by Path.Table = (tt, (((refl, refl, assigns), (change-lasts level, tt, tt)), ((refl, assigns), (tt, tt))))
      by (Path.Index i range) = (tt, (((refl, refl, assigns), (change-lasts level, tt, λ p e. tt)), ((refl, assigns), (tt, tt))))

  -- a statement before its first own entry
  pub begin-rows : (c : Conn) (set : Setting) (s : Statement) → Begins s (listed head c set s)
  begin-rows c set (st.Select t items cond level) =
      select-begins t items cond level (select_mode (level_in set level) (plan_of head t cond)) (select_want head.config.cur_commit (level_in set level))
      (level_in set level) (plan_of head t cond)
  begin-rows c set (st.Update t sets cond level) =
      change-begins (st.Update t sets cond level) t (change_mode (level_in set level) (plan_of head t cond)) (level_in set level) (plan_of head t cond)
      refl (λ row new fit e. assigned-fits head t sets.list row new fit e)
  begin-rows c set (st.Delete t cond level) =
      change-begins (st.Delete t cond level) t (change_mode (level_in set level) (plan_of head t cond)) (level_in set level) (plan_of head t cond)
      refl tt
  begin-rows c set (st.Insert t row) = (tt, go (has_null (columns_of head t) row))
    where
      go : (b : Bool) → Begins (st.Insert t row) ((if b then Refuses (minus 407) else NewRow t row) ∷ Replies (pos 0) 1 ∷ [])
      go true = (tt, (tt, tt))
      go false = (refl, (tt, tt))
  begin-rows c set (st.LockTable t mode) = (tt, (tt, tt))
  begin-rows c set (st.Savepoint name) = (tt, (tt, tt))
  begin-rows c set (st.RollbackTo name) = (refl, (tt, tt))
  begin-rows c set st.Rollback = (refl, (tt, tt))
  begin-rows c set st.Commit = (tt, tt)
  begin-rows c set (st.SetIsolation level) = (tt, (tt, tt))
  begin-rows c set (st.SetWait may_wait) = (tt, (tt, tt))
