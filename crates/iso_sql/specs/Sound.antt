-- Which statements a head allows: their tables and columns are there, and what stands in them has the type of its column.
-- // Db2 LUW, 'Assignments and comparisons'; the limits are this project's own
use Rattle.std.specs.List.{list_all, list_any}
use Rattle.std.specs.Option.{option_map_or}
use Rattle.std.specs.Prelude.{ℕ, ◌+◌, Bool, true, false, not, ◌&&◌, ◌||◌, ◌==◌, nat_lt, nat_le, List, [], ◌∷◌, length, map, slice_get}
use Rattle.iso_modes.specs.declared.Mode.TheVariants.{S, X}
use Rattle.iso_modes.specs.Modes.{mode_eq}
use Rattle.iso_types.specs.Head.{fits_kind, is_table}
use Rattle.iso_types.specs.declared.head.Column.{Column}
use Rattle.iso_types.specs.declared.head.ColumnKind.{ColumnKind}
use Rattle.iso_types.specs.declared.head.ColumnKind.TheVariants.{Bigint, Integer, Varchar}
use Rattle.iso_types.specs.declared.head.Head.{Head}
use Rattle.iso_types.specs.declared.value.TableId.{TableId}
use Rattle.iso_types.specs.declared.value.Value.{Value}
use Rattle.iso_types.specs.declared.value.Value.TheVariants.{Int, Text}
use Rattle.iso_sql.specs.declared.statement.Assignment.{Assignment}
use Rattle.iso_sql.specs.declared.statement.Condition.{Condition, fold-Condition}
use Rattle.iso_sql.specs.declared.statement.Condition.TheOpen.{Condition-F}
use Rattle.iso_sql.specs.declared.statement.Expr.{Expr}
use Rattle.iso_sql.specs.declared.statement.Items2.{Items2}
use Rattle.iso_sql.specs.declared.statement.Items2.TheVariants.{All, Columns, Count}
use Rattle.iso_sql.specs.declared.statement.Statement.{Statement}
use Rattle.iso_sql.specs.declared.statement.Statement.TheVariants as statement

-- the columns of a table
abbrev pub columns_of : Head → TableId → List Column
columns_of head t = option_map_or (λ d. d.columns) (slice_get head.tables t.0) []

-- it holds of the kind of the column in this place, which is there
abbrev pub of_kind : List Column → ℕ → (ColumnKind → Bool) → Bool
of_kind columns at p = option_map_or (λ c. p c.kind) (slice_get columns at) false

-- a literal that may be compared with a column of this kind
abbrev pub is_comparable : Value → ColumnKind → Bool
is_comparable (Int z) Integer = true
is_comparable (Int z) Bigint = true
is_comparable (Text s) (Varchar n) = true
is_comparable _ _ = false

-- one level of a condition, its parts having been judged
abbrev pub sound_at : List Column → Condition-F Bool → Bool
sound_at columns Condition-F.Always = true
sound_at columns (Condition-F.Compare at op v) = of_kind columns at (is_comparable v)
sound_at columns (Condition-F.Between at low high) = of_kind columns at (is_comparable low) && of_kind columns at (is_comparable high)
sound_at columns (Condition-F.IsNull at) = nat_lt at (length columns)
sound_at columns (Condition-F.Not a) = a
sound_at columns (Condition-F.And a b) = a && b
sound_at columns (Condition-F.Or a b) = a && b

-- each column is there, and each literal has its kind
abbrev pub is_typed : List Column → Condition → Bool
is_typed columns = fold-Condition Bool (sound_at columns)

abbrev pub comparisons_at : Condition-F ℕ → ℕ
comparisons_at Condition-F.Always = 0
comparisons_at (Condition-F.Compare at op v) = 1
comparisons_at (Condition-F.Between at low high) = 1
comparisons_at (Condition-F.IsNull at) = 1
comparisons_at (Condition-F.Not a) = a
comparisons_at (Condition-F.And a b) = a + b
comparisons_at (Condition-F.Or a b) = a + b

-- how many comparisons a condition has
abbrev pub comparisons : Condition → ℕ
comparisons = fold-Condition ℕ comparisons_at

-- a condition over these columns
abbrev pub is_sound_condition : List Column → Condition → Bool
is_sound_condition columns c = is_typed columns c && nat_le (comparisons c) 64

-- no place stands twice
abbrev pub are_apart : List ℕ → Bool
are_apart [] = true
are_apart (k ∷ ks) = not (list_any (λ j. k == j) ks) && are_apart ks

-- what a SELECT gives, over these columns
abbrev pub are_sound_items : List Column → Items2 → Bool
are_sound_items columns All = true
are_sound_items columns Count = true
are_sound_items columns (Columns []) = false
are_sound_items columns (Columns (k ∷ ks)) = list_all (λ j. nat_lt j (length columns)) (k ∷ ks) && are_apart (k ∷ ks)

-- as many values as columns, each of its column's kind; NULL may stand in each. // a NOT NULL column is judged when it runs
abbrev pub are_stored : List Column → List Value → Bool
are_stored [] [] = true
are_stored (c ∷ cs) (v ∷ vs) = fits_kind c.kind v && are_stored cs vs
are_stored _ _ = false

-- a column of the second kind may be set from one of the first
abbrev pub is_assignable : ColumnKind → ColumnKind → Bool
is_assignable (Varchar m) (Varchar n) = nat_le m n
is_assignable (Varchar m) _ = false
is_assignable _ (Varchar n) = false
is_assignable _ _ = true

abbrev pub is_number : ColumnKind → Bool
is_number (Varchar n) = false
is_number _ = true

-- what a column of this kind may be set to
abbrev pub is_sound_expr : List Column → Expr → ColumnKind → Bool
is_sound_expr columns (Expr.Literal v) k = fits_kind k v
is_sound_expr columns (Expr.Column at) k = of_kind columns at (λ j. is_assignable j k)
is_sound_expr columns (Expr.Sum at n) k = of_kind columns at (λ j. is_number j && is_number k)

abbrev pub is_sound_assignment : List Column → Assignment → Bool
is_sound_assignment columns a = of_kind columns a.column (is_sound_expr columns a.expr)

-- at least one assignment, each column set once
abbrev pub are_sound_sets : List Column → List Assignment → Bool
are_sound_sets columns [] = false
are_sound_sets columns (a ∷ as') = list_all (is_sound_assignment columns) (a ∷ as') && are_apart (map (λ (x : Assignment). x.column) (a ∷ as'))

-- a name has at most 32 bytes
abbrev pub is_short : List ℕ → Bool
is_short name = nat_le (length name) 32

-- the head allows the statement
abbrev pub is_sound_statement : Head → Statement → Bool
is_sound_statement head (statement.Select t items cond level) =
    is_table head t && (are_sound_items (columns_of head t) items && is_sound_condition (columns_of head t) cond)
is_sound_statement head (statement.Insert t row) = is_table head t && are_stored (columns_of head t) row
is_sound_statement head (statement.Update t sets cond level) =
    is_table head t && (are_sound_sets (columns_of head t) sets.list && is_sound_condition (columns_of head t) cond)
is_sound_statement head (statement.Delete t cond level) = is_table head t && is_sound_condition (columns_of head t) cond
is_sound_statement head (statement.RollbackTo name) = is_short name
is_sound_statement head (statement.Savepoint name) = is_short name
is_sound_statement head (statement.LockTable t mode) = is_table head t && (mode_eq mode S || mode_eq mode X)
is_sound_statement head _ = true
