-- What the names of a line may mean. // this project's own: a name that is not declared is refused before the script runs
use Rattle.std.specs.Option.{option_map_or}
use Rattle.std.specs.Prelude.{ℕ, Bool, false, List, [], ◌∷◌, find, slice_get, Option, Some, None, is_some}
use Rattle.iso_types.specs.Ids.{text_eq}
use Rattle.iso_types.specs.declared.head.Column.{Column}
use Rattle.iso_types.specs.declared.head.Head.{Head}
use Rattle.iso_types.specs.declared.value.TableId.{TableId}
use Rattle.iso_grammar.specs.declared.fault.Cause.TheVariants.{Unknown}
use Rattle.iso_grammar.specs.declared.fault.Fault.{Fault}
use Rattle.iso_grammar.specs.declared.token.Token.{Token}
use Rattle.iso_grammar.specs.Faults.{unless}
use Rattle.iso_grammar.specs.Values.{name, text_of}
use Rattle.iso_sql.specs.declared.scope.Scope as scope

-- the name that a token gives, in capital letters; none where it has more than 32 bytes
abbrev pub name_of : List ℕ → Token → Option (List ℕ)
name_of line t = name (text_of line t)

-- the token gives this name
unfoldable pub gives : List ℕ → Token → List ℕ → Bool
gives line t n = option_map_or (λ m. text_eq m n) (name_of line t) false

-- the line, the columns of the table that it names, and whether that table is declared; where it is not, no column is
pub record Names : Type 0 where
  pub line : List ℕ
  pub columns : List Column
  pub known : Bool

abbrev pub names_of : scope.Scope → Names
names_of s = record { line = s.line.now; columns = s.columns.now; known = s.known }

-- ---- tables

-- where a table may stand: a head has at most 16
abbrev pub table_places : List ℕ
table_places = 0 ∷ 1 ∷ 2 ∷ 3 ∷ 4 ∷ 5 ∷ 6 ∷ 7 ∷ 8 ∷ 9 ∷ 10 ∷ 11 ∷ 12 ∷ 13 ∷ 14 ∷ 15 ∷ []

-- a table of this name stands in this place
abbrev pub is_table_at : Head → List ℕ → Token → ℕ → Bool
is_table_at head line t place = option_map_or (λ d. gives line t d.name) (slice_get head.tables place) false

-- the place of the table that the token names
unfoldable pub table_place : Head → List ℕ → Token → Option ℕ
table_place head line t = find (is_table_at head line t) table_places

abbrev pub table_in : Option ℕ → TableId
table_in None = record { 0 = 0 }
table_in (Some place) = record { 0 = place }

-- the table that the token names; the first where it names none, which is a fault
unfoldable pub table_of : Head → List ℕ → Token → TableId
table_of head line t = table_in (table_place head line t)

abbrev pub columns_in : Head → Option ℕ → List Column
columns_in head None = []
columns_in head (Some place) = option_map_or (λ d. d.columns) (slice_get head.tables place) []

-- the names of a statement over the table that the token names
unfoldable pub table_names : Head → List ℕ → Token → Names
table_names head line t = record { line = line; columns = columns_in head (table_place head line t); known = is_some (table_place head line t) }

-- the table is declared
unfoldable pub table_fault : Names → Token → Option Fault
table_fault names t = unless names.known t Unknown

-- ---- columns

-- where a column may stand: a table has at most 8
abbrev pub column_places : List ℕ
column_places = 0 ∷ 1 ∷ 2 ∷ 3 ∷ 4 ∷ 5 ∷ 6 ∷ 7 ∷ []

-- a column of this name stands in this place
abbrev pub is_column_at : Names → Token → ℕ → Bool
is_column_at names t place = option_map_or (λ d. gives names.line t d.name) (slice_get names.columns place) false

-- the place of the column that the token names
unfoldable pub column_place : Names → Token → Option ℕ
column_place names t = find (is_column_at names t) column_places

abbrev pub column_in : Names → Option ℕ → Option Column
column_in names None = None
column_in names (Some place) = slice_get names.columns place

-- the column that the token names
unfoldable pub column_of : Names → Token → Option Column
column_of names t = column_in names (column_place names t)

abbrev pub place_in : Option ℕ → ℕ
place_in None = 0
place_in (Some place) = place

-- the column is declared
unfoldable pub name_fault : Names → Token → Option Fault
name_fault names t = unless (is_some (column_place names t)) t Unknown
