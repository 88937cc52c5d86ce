-- A row that fits its table has all the columns that a sound statement reads of it.
use Rattle.std.proofs.Common.{◌≡◌, ℕ, Bool, true, false, ◌&&◌, List, [], ◌∷◌, refl, sym, ap, ◌∙◌, subst, Option, Some, None, length, nat_lt, suc}
use Rattle.std.specs.List.{list_all}
use Rattle.std.specs.Option.{option_map_or}
use Rattle.std.specs.Prelude.{slice_get}
use Rattle.std.proofs.lemmas.Bool.{and_parts, lt-ltb}
use Rattle.std.proofs.lemmas.Option.{slice_get_within}
use Rattle.iso_conduct.specs.Courses.{fits_table, items_within, key_within, keyed_within, reads_within}
use Rattle.iso_conduct.specs.Parts.{Part}
use Rattle.iso_conduct.specs.Points.{updated_columns}
use Rattle.iso_predicate.specs.Truth.{is_within, within_at}
use Rattle.iso_sql.specs.Sound.{are_sound_items, are_sound_sets, columns_of, is_sound_condition, is_sound_statement, is_typed, of_kind, sound_at}
use Rattle.iso_sql.specs.declared.statement.Condition.{Condition, map-Condition, roll-Condition}
use Rattle.iso_sql.specs.declared.statement.Condition.TheFolds.{fold-roll-Condition, ind-Condition}
use Rattle.iso_sql.specs.declared.statement.Condition.TheOpen.{Condition-F}
use Rattle.iso_sql.specs.declared.statement.Items2.{Items2}
use Rattle.iso_sql.specs.declared.statement.Items2.TheVariants.{All, Columns, Count}
use Rattle.iso_sql.specs.declared.statement.Statement.{Statement}
use Rattle.iso_sql.specs.declared.statement.Statement.TheVariants as st
use Rattle.iso_types.specs.Head.{all_fit, fits_column, is_table, row_fits}
use Rattle.iso_types.specs.declared.head.Column.{Column}
use Rattle.iso_types.specs.declared.head.ColumnKind.{ColumnKind}
use Rattle.iso_types.specs.declared.head.Head.{Head}
use Rattle.iso_types.specs.declared.head.TableDef.{TableDef}
use Rattle.iso_types.specs.declared.value.TableId.{TableId}
use Rattle.iso_types.specs.declared.value.Value.{Value}

first_of : (a b : Bool) → (a && b) ≡ true → a ≡ true
first_of a b e = (and_parts a b e).0

second_of : (a b : Bool) → (a && b) ≡ true → b ≡ true
second_of a b e = (and_parts a b e).1

-- a row that fits has as many values as columns
fit-long : (cs : List Column) (vs : List Value) → all_fit cs vs ≡ true → length vs ≡ length cs
fit-long [] [] h = refl
fit-long (c ∷ cs) (v ∷ vs) h = ap (λ n. suc n) (fit-long cs vs (second_of (fits_column c v) (all_fit cs vs) h))
fit-long [] (v ∷ vs) h = absurd (cc)
fit-long (c ∷ cs) [] h = absurd (cc)

pub row-long : (head : Head) (t : TableId) (row : List Value) → row_fits head t row ≡ true → length row ≡ length (columns_of head t)
row-long head t row h = go (slice_get head.tables t.0) h
  where
    go : (o : Option TableDef) → option_map_or (λ d. all_fit d.columns row) o false ≡ true → length row ≡ length (option_map_or (λ d. d.columns) o [])
    go (Some d) k = fit-long d.columns row k
    go None k = absurd (cc)

-- a column of some kind is there
kind-within : (cs : List Column) (at : ℕ) (p : ColumnKind → Bool) → of_kind cs at p ≡ true → nat_lt at (length cs) ≡ true
kind-within cs at p h = go (slice_get cs at) refl h
  where
    go : (o : Option Column) → slice_get cs at ≡ o → option_map_or (λ c. p c.kind) o false ≡ true → nat_lt at (length cs) ≡ true
    go (Some c) is q = lt-ltb at (length cs) (slice_get_within cs at c is)
    go None is q = absurd (cc)

-- a typed condition names columns that are there
abbrev Goes : List Column → Condition → Type 0
Goes cs c = is_typed cs c ≡ true → is_within (length cs) c ≡ true

both-hold : (a b : Bool) → a ≡ true → b ≡ true → (a && b) ≡ true
both-hold a b p q = rw (p, q) refl

-- one level, its parts having been judged
goes-at : (cs : List Column) (y : Condition-F ((c : Condition) × Goes cs c))
    → Goes cs (roll-Condition (map-Condition ((c : Condition) × Goes cs c) Condition (λ e. e.0) y))
goes-at cs Condition-F.Always h = fold-roll-Condition Bool (within_at (length cs)) Condition-F.Always
goes-at cs (Condition-F.Compare at op v) h =
    fold-roll-Condition Bool (within_at (length cs)) (Condition-F.Compare at op v)
    ∙ kind-within cs at _ (sym (fold-roll-Condition Bool (sound_at cs) (Condition-F.Compare at op v)) ∙ h)
goes-at cs (Condition-F.Between at low high) h =
    fold-roll-Condition Bool (within_at (length cs)) (Condition-F.Between at low high)
    ∙ kind-within cs at _ (first_of _ _ (sym (fold-roll-Condition Bool (sound_at cs) (Condition-F.Between at low high)) ∙ h))
goes-at cs (Condition-F.IsNull at) h =
    fold-roll-Condition Bool (within_at (length cs)) (Condition-F.IsNull at)
    ∙ (sym (fold-roll-Condition Bool (sound_at cs) (Condition-F.IsNull at)) ∙ h)
goes-at cs (Condition-F.Not a) h =
    fold-roll-Condition Bool (within_at (length cs)) (Condition-F.Not a.0)
    ∙ a.1 (sym (fold-roll-Condition Bool (sound_at cs) (Condition-F.Not a.0)) ∙ h)
goes-at cs (Condition-F.And a b) h =
    let t : (is_typed cs a.0 && is_typed cs b.0) ≡ true = sym (fold-roll-Condition Bool (sound_at cs) (Condition-F.And a.0 b.0)) ∙ h in
    fold-roll-Condition Bool (within_at (length cs)) (Condition-F.And a.0 b.0)
    ∙ both-hold _ _ (a.1 (first_of (is_typed cs a.0) (is_typed cs b.0) t)) (b.1 (second_of (is_typed cs a.0) (is_typed cs b.0) t))
goes-at cs (Condition-F.Or a b) h =
    let t : (is_typed cs a.0 && is_typed cs b.0) ≡ true = sym (fold-roll-Condition Bool (sound_at cs) (Condition-F.Or a.0 b.0)) ∙ h in
    fold-roll-Condition Bool (within_at (length cs)) (Condition-F.Or a.0 b.0)
    ∙ both-hold _ _ (a.1 (first_of (is_typed cs a.0) (is_typed cs b.0) t)) (b.1 (second_of (is_typed cs a.0) (is_typed cs b.0) t))

typed-within : (cs : List Column) (c : Condition) → Goes cs c
typed-within cs = ind-Condition (Goes cs) (λ x y is. subst (λ z. Goes cs (roll-Condition z)) is (goes-at cs y))

-- the columns of a typed condition are in each row that fits
pub row-within : (head : Head) (t : TableId) (row : List Value) (c : Condition) → row_fits head t row ≡ true
    → is_typed (columns_of head t) c ≡ true → is_within (length row) c ≡ true
row-within head t row c fits typed =
    subst (λ n. is_within n c ≡ true) (sym (row-long head t row fits)) (typed-within (columns_of head t) c typed)

-- so are those of sound items
items-fit : (head : Head) (t : TableId) (row : List Value) (items : Items2) → row_fits head t row ≡ true
    → are_sound_items (columns_of head t) items ≡ true → items_within (length row) items ≡ true
items-fit head t row All fits sound = refl
items-fit head t row Count fits sound = refl
items-fit head t row (Columns []) fits sound = cc
items-fit head t row (Columns (k ∷ ks)) fits sound =
    subst (λ n. list_all (λ j. nat_lt j n) (k ∷ ks) ≡ true) (sym (row-long head t row fits)) (first_of _ _ sound)

-- the row fits the columns of its table
columns-fit : (head : Head) (t : TableId) (row : List Value) → row_fits head t row ≡ true → all_fit (columns_of head t) row ≡ true
columns-fit head t row fits = go (slice_get head.tables t.0) fits
  where
    go : (o : Option TableDef) → option_map_or (λ d. all_fit d.columns row) o false ≡ true → all_fit (option_map_or (λ d. d.columns) o []) row ≡ true
    go None e = cc
    go (Some d) e = e

-- a row of the statement's table has what the statement reads
pub reads-fit : (head : Head) (s : Statement) (row : List Value) → is_sound_statement head s ≡ true → fits_table head s row ≡ true
    → reads_within s (updated_columns head s) row ≡ true
reads-fit head (st.Select t items cond level) row sound fits =
    let parts = and_parts (is_table head t) (are_sound_items (columns_of head t) items && is_sound_condition (columns_of head t) cond) sound in
    let rest = and_parts (are_sound_items (columns_of head t) items) (is_sound_condition (columns_of head t) cond) parts.1 in
    both-hold _ _ (row-within head t row cond fits (first_of _ _ rest.1)) (items-fit head t row items fits rest.0)
reads-fit head (st.Update t sets cond level) row sound fits =
    let parts = and_parts (is_table head t) (are_sound_sets (columns_of head t) sets.list && is_sound_condition (columns_of head t) cond) sound in
    let rest = and_parts (are_sound_sets (columns_of head t) sets.list) (is_sound_condition (columns_of head t) cond) parts.1 in
    both-hold _ _ (row-within head t row cond fits (first_of _ _ rest.1)) (columns-fit head t row fits)
reads-fit head (st.Delete t cond level) row sound fits =
    let parts = and_parts (is_table head t) (is_sound_condition (columns_of head t) cond) sound in
    row-within head t row cond fits (first_of _ _ parts.1)
reads-fit head _ row sound fits = refl

-- and its key, where the index is on a column of the table
pub key-fits : (head : Head) (t : TableId) (row : List Value) (ps : List Part) → row_fits head t row ≡ true
    → keyed_within (length (columns_of head t)) ps ≡ true → key_within ps row ≡ true
key-fits head t row ps fits there = subst (λ n. keyed_within n ps ≡ true) (sym (row-long head t row fits)) there
