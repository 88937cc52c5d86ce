-- All that is wrong with the parts of a statement, and which of it is told. // this project's own: a line is refused at the least place at which anything is wrong with it
use Rattle.std.specs.List.{All, Contains, list_any}
use Rattle.std.specs.Option.{option_map_or}
use Rattle.std.specs.Prelude.{◌≡◌, ◌<◌, ◌⊎◌, ℕ, ℤ, Bool, false, not, ◌==◌, ◌&&◌, List, [], ◌∷◌, ◌++◌, Option, Some, None, is_some}
use Rattle.iso_types.specs.declared.head.Column.{Column}
use Rattle.iso_types.specs.declared.head.ColumnKind.{ColumnKind}
use Rattle.iso_grammar.specs.declared.fault.Cause.TheVariants.{Unknown, TypeFault, Duplicate, Limit}
use Rattle.iso_types.specs.declared.head.Head.{Head}
use Rattle.iso_grammar.specs.declared.fault.Checked.{Checked}
use Rattle.iso_grammar.specs.declared.fault.Fault.{Fault}
use Rattle.iso_grammar.specs.declared.token.Token.{Token}
use Rattle.iso_grammar.specs.Faults.{at, is_sooner, unless}
use Rattle.iso_sql.specs.declared.assignment.Right.{Right}
use Rattle.iso_sql.specs.declared.assignment.Right.TheVariants as side
use Rattle.iso_sql.specs.declared.assignment.Target.{Target}
use Rattle.iso_sql.specs.declared.list.Chosen.{Chosen}
use Rattle.iso_sql.specs.declared.list.Chosen.TheVariants as chosen
use Rattle.iso_sql.specs.declared.statement.Statement.{Statement}
use Rattle.iso_sql.specs.Actions.{added, deleted, inserted, literal_right, selected, taken, updated}
use Rattle.iso_sql.specs.Names.{Names, column_of, column_place, table_fault, table_names}
use Rattle.iso_sql.specs.Rows.{stores}
use Rattle.iso_sql.specs.Sound.{is_assignable, is_number}
use Rattle.iso_grammar.specs.declared.token.Kind.TheVariants as k
use Rattle.iso_grammar.specs.Grammar.{Lang, pure, ◌>>=◌, ◌>>◌, ◌<|>◌, token, optional}
use Rattle.iso_sql.specs.declared.list.Listed.TheVariants as listed
use Rattle.iso_sql.specs.Statements.{assignments, column_list, filter, items, level, separated, short_statement}

-- the fault, where there is one
abbrev pub each : Option Fault → List Fault
each None = []
each (Some f) = f ∷ []

-- The fault that is told is one of these, and none of them is sooner; none is told exactly where there is none.
abbrev pub IsLeastOf : Option Fault → List Fault → Type 0
IsLeastOf None fs = fs ≡ []
IsLeastOf (Some f) fs = Contains fs f × All (λ g. is_sooner g f ≡ false) fs

-- ---- places

-- each token starts behind the start of the one before it, the first behind this place
abbrev pub Rise : ℕ → List Token → Type 0
Rise n [] = Unit {0}
Rise n (t ∷ ts) = (n < t.start) × Rise t.start ts

-- the first tokens stand among the second, in the same order
abbrev pub StandIn : List Token → List Token → Type 0
StandIn [] all = Unit {0}
StandIn (t ∷ ts) [] = ⊥
StandIn (t ∷ ts) (a ∷ all) = ((t ≡ a) × StandIn ts all) ⊎ StandIn (t ∷ ts) all

-- ---- lists

-- each literal that its column can't store; what closes the list where there are too few, and the first that has no column
abbrev pub every_stored : Bool → List ℕ → List Column → List Token → Token → List Fault
every_stored strict line [] [] close = []
every_stored strict line [] (t ∷ ts) close = each (at t TypeFault)
every_stored strict line (c ∷ cs) [] close = each (at close TypeFault)
every_stored strict line (c ∷ cs) (t ∷ ts) close = each (unless (stores strict line c t) t TypeFault) ++ every_stored strict line cs ts close

-- one of the tokens names the column in this place
abbrev pub is_named : Names → List Token → ℕ → Bool
is_named names ts place = list_any (λ t. option_map_or (λ p. p == place) (column_place names t) false) ts

-- the token names a column, and none of those before it names the same
abbrev pub column_fault : Names → List Token → Token → Option Fault
column_fault names before t = option_map_or (λ p. unless (not (is_named names before p)) t Duplicate) (column_place names t) (at t Unknown)

-- each token, behind those before the list, that names no column, and each whose column one before it has named
abbrev pub every_listed : Names → List Token → List Token → List Fault
every_listed names before [] = []
every_listed names before (t ∷ ts) = each (column_fault names before t) ++ every_listed names (before ++ t ∷ []) ts

-- ---- assignments

-- both columns are declared, and their kinds do not go together
abbrev pub clash : (ColumnKind → ColumnKind → Bool) → Option Column → Option Column → Token → Option Fault
clash go_together (Some source) (Some target) t = unless (go_together source.kind target.kind) t TypeFault
clash go_together _ _ t = None

-- the token names a column
abbrev pub source_fault : Names → Token → Option Fault
source_fault names t = unless (is_some (column_of names t)) t Unknown

abbrev pub are_numbers : ColumnKind → ColumnKind → Bool
are_numbers source target = is_number source && is_number target

-- a sum of the column that the first token names with this number, whose integer is the second
abbrev pub every_summed : Names → Option Column → Token → Token → Option ℤ → List Fault
every_summed names target t n number = each (source_fault names t) ++ (each (clash are_numbers (column_of names t) target t) ++ each (unless (is_some number) n Limit))

-- all that is wrong with a right side; with the kind of its value only where the target is declared
abbrev pub every_right : Names → Option Column → Right → List Fault
every_right names target (side.Literal t) = each (literal_right names.line target t)
every_right names target (side.Column t) = each (source_fault names t) ++ each (clash is_assignable (column_of names t) target t)
every_right names target (side.Plus t n) = every_summed names target t n (added names.line n)
every_right names target (side.Minus t n) = every_summed names target t n (taken names.line n)

-- all that is wrong with assignments, behind those to the columns that the first tokens name
abbrev pub every_assigned : Names → List Token → List Target → List Fault
every_assigned names before [] = []
every_assigned names before (a ∷ as') = (each (column_fault names before a.column) ++ every_right names (column_of names a.column) a.right) ++ every_assigned names (before ++ a.column ∷ []) as'

-- the tokens of a right side at which something may be wrong
abbrev pub right_tokens : Right → List Token
right_tokens (side.Literal t) = t ∷ []
right_tokens (side.Column t) = t ∷ []
right_tokens (side.Plus t n) = t ∷ n ∷ []
right_tokens (side.Minus t n) = t ∷ n ∷ []

-- and those of assignments
abbrev pub assigned_tokens : List Target → List Token
assigned_tokens [] = []
assigned_tokens (a ∷ as') = a.column ∷ right_tokens a.right ++ assigned_tokens as'

-- ---- statements

-- each literal that the column which the token in the same place names can't store; one for a column that is not declared may be any
abbrev pub every_placed : Names → List Token → List Token → Token → List Fault
every_placed names [] [] close = []
every_placed names [] (v ∷ vs) close = each (at v TypeFault)
every_placed names (t ∷ ts) [] close = each (at close TypeFault)
every_placed names (t ∷ ts) (v ∷ vs) close = each (literal_right names.line (column_of names t) v) ++ every_placed names ts vs close

-- all that is wrong with a row of literals for all columns, or for those that are listed
abbrev pub every_row : Names → Option (List Token) → List Token → Token → List Fault
every_row names None vs close = every_stored false names.line names.columns vs close
every_row names (Some ts) vs close = every_listed names [] ts ++ every_placed names ts vs close

abbrev pub every_item : Names → Chosen → List Fault
every_item names (chosen.Columns ts) = every_listed names [] ts
every_item names _ = []

-- all that is wrong with a SELECT, an INSERT, an UPDATE; of a condition its least fault
abbrev pub every_selected : Names → Chosen → Token → Option Fault → List Fault
every_selected names items t cond = every_item names items ++ (each (table_fault names t) ++ each cond)

abbrev pub every_inserted : Names → Token → Option (List Token) → List Token → Token → List Fault
every_inserted names t columns vs close = each (table_fault names t) ++ every_row names columns vs close

abbrev pub every_updated : Names → Token → List Target → Option Fault → List Fault
every_updated names t targets cond = each (table_fault names t) ++ (every_assigned names [] targets ++ each cond)

-- the tokens of a SELECT's columns, and those of an INSERT's columns and literals
abbrev pub item_tokens : Chosen → List Token
item_tokens (chosen.Columns ts) = ts
item_tokens _ = []

abbrev pub row_tokens : Option (List Token) → List Token → Token → List Token
row_tokens None vs close = vs ++ close ∷ []
row_tokens (Some ts) vs close = ts ++ (vs ++ close ∷ [])

-- ---- whole statements, each with all that is wrong with it

abbrev pub select : Head → List ℕ → Lang (Checked Statement × List Fault)
select head line = do
  token k.Select
  is ← items
  token k.From
  t ← token k.Name
  cond ← filter (table_names head line t)
  at ← level
  pure (selected head line is t cond at, every_selected (table_names head line t) is t cond.fault)

abbrev pub insert : Head → List ℕ → Lang (Checked Statement × List Fault)
insert head line = do
  token k.Insert
  token k.Into
  t ← token k.Name
  cs ← optional column_list
  token k.Values
  token k.Open
  vs ← separated listed.Literal
  close ← token k.Close
  pure (inserted head line t cs vs close, every_inserted (table_names head line t) t cs vs close)

abbrev pub update : Head → List ℕ → Lang (Checked Statement × List Fault)
update head line = do
  token k.Update
  t ← token k.Name
  token k.Set
  targets ← assignments
  cond ← filter (table_names head line t)
  at ← level
  pure (updated head line t targets cond at, every_updated (table_names head line t) t targets cond.fault)

abbrev pub delete : Head → List ℕ → Lang (Checked Statement × List Fault)
delete head line = do
  token k.Delete
  token k.From
  t ← token k.Name
  cond ← filter (table_names head line t)
  at ← level
  pure (deleted head line t cond at, each (table_fault (table_names head line t) t) ++ each cond.fault)

-- with any other statement one thing can be wrong at most
abbrev pub short : Head → List ℕ → Lang (Checked Statement × List Fault)
short head line = short_statement head line >>= λ x. pure (x, each x.fault)

-- the statements, each with all that is wrong with it; each statement has one such list
abbrev pub faulty : Head → List ℕ → Lang (Checked Statement × List Fault)
faulty head line = select head line <|> (insert head line <|> (update head line <|> (delete head line <|> short head line)))
