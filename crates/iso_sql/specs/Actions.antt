-- What the parts of a statement stand for, with their least fault; a value with a fault says nothing.
use Rattle.std.specs.List.{list_any}
use Rattle.std.specs.Option.{option_map, option_map_or}
use Rattle.std.specs.Prelude.{ℕ, Bool, false, not, if◌then◌else◌, ◌==◌, ◌&&◌, nat_le, nat_lt, List, [], ◌∷◌, ◌++◌, length, slice_get, ℤ, pos, neg_ℤ, Option, Some, None, is_some}
use Rattle.iso_types.specs.declared.head.Column.{Column}
use Rattle.iso_types.specs.declared.head.ColumnKind.{ColumnKind}
use Rattle.iso_types.specs.declared.head.ColumnKind.TheVariants.{Bigint, Integer, Varchar}
use Rattle.iso_types.specs.declared.head.Head.{Head}
use Rattle.iso_types.specs.declared.head.Isolation.{Isolation}
use Rattle.iso_types.specs.declared.value.Value.{Value}
use Rattle.iso_modes.specs.declared.Mode.{Mode}
use Rattle.iso_grammar.specs.declared.fault.Cause.TheVariants.{Unknown, TypeFault, Duplicate, Limit}
use Rattle.iso_grammar.specs.declared.fault.Checked.{Checked}
use Rattle.iso_grammar.specs.declared.fault.Fault.{Fault}
use Rattle.iso_grammar.specs.declared.token.Kind.TheVariants as k
use Rattle.iso_grammar.specs.declared.token.Token.{Token}
use Rattle.iso_grammar.specs.Faults.{at, checked, least, unless}
use Rattle.iso_grammar.specs.Kinds.{same_kind}
use Rattle.iso_grammar.specs.Values.{fitted, integer, text_of, value_of}
use Rattle.iso_sql.specs.declared.assignment.Right.{Right}
use Rattle.iso_sql.specs.declared.assignment.Right.TheVariants as side
use Rattle.iso_sql.specs.declared.assignment.Target.{Target}
use Rattle.iso_sql.specs.declared.found.Found.{Found}
use Rattle.iso_sql.specs.declared.list.Chosen.{Chosen}
use Rattle.iso_sql.specs.declared.list.Chosen.TheVariants as chosen
use Rattle.iso_sql.specs.declared.statement.Assignment.{Assignment}
use Rattle.iso_sql.specs.declared.statement.Condition.{Condition}
use Rattle.iso_sql.specs.declared.statement.Condition.TheVariants as c
use Rattle.iso_sql.specs.declared.statement.Expr.{Expr}
use Rattle.iso_sql.specs.declared.statement.Expr.TheVariants as e
use Rattle.iso_sql.specs.declared.statement.Items2.{Items2}
use Rattle.iso_sql.specs.declared.statement.Items2.TheVariants as i
use Rattle.iso_sql.specs.declared.statement.Op.{Op}
use Rattle.iso_sql.specs.declared.statement.Statement.{Statement}
use Rattle.iso_sql.specs.declared.statement.Statement.TheVariants as s
use Rattle.iso_sql.specs.Sound.{is_assignable, is_number}
use Rattle.iso_sql.specs.Names.{Names, column_of, column_place, name_fault, name_of, place_in, table_fault, table_names, table_of}
use Rattle.iso_sql.specs.Rows.{placed_row, stored_fault, stored_row, stored_value, stores}

-- ---- conditions

-- one comparison; it is counted at its column
abbrev pub found : Token → Condition → Option Fault → Found
found column x f = record { value = x; fault = f; places = column.start ∷ [] }

-- the literal is of the column's kind
abbrev pub has_kind : ColumnKind → Token → Bool
has_kind (Varchar n) t = same_kind k.Text t.kind
has_kind Integer t = not (same_kind k.Text t.kind)
has_kind Bigint t = not (same_kind k.Text t.kind)

abbrev pub is_value : List ℕ → Token → Bool
is_value line t = is_some (value_of line t)

abbrev pub kind_fault : Option Column → List ℕ → Token → Option Fault
kind_fault None line t = None
kind_fault (Some column) line t = if has_kind column.kind t then unless (is_value line t) t Limit else at t TypeFault

-- what is wrong with a literal that the column is compared with
unfoldable pub literal_fault : Names → Token → Token → Option Fault
literal_fault names column t = kind_fault (column_of names column) names.line t

unfoldable pub compared : Names → Token → Op → Token → Found
compared names column op t =
    found column (c.Compare (place_in (column_place names column)) op (stored_value names.line t)) (least (name_fault names column) (literal_fault names column t))

unfoldable pub between : Names → Token → Token → Token → Found
between names column low high =
    found column (c.Between (place_in (column_place names column)) (stored_value names.line low) (stored_value names.line high))
    (least (name_fault names column) (least (literal_fault names column low) (literal_fault names column high)))

unfoldable pub is_null : Names → Token → Found
is_null names column = found column (c.IsNull (place_in (column_place names column))) (name_fault names column)

-- behind a NOT
abbrev pub negated : Option Token → Found → Found
negated None x = x
negated (Some t) x = record { value = c.Not x.value; fault = x.fault; places = x.places }

-- the comparisons that a condition may have
abbrev pub most_comparisons : ℕ
most_comparisons = 64

-- a condition of more comparisons than are allowed says nothing
abbrev pub limited_value : List ℕ → Condition → Condition
limited_value places x = if nat_le (length places) most_comparisons then x else c.Always

abbrev pub joined : Condition → Found → Found → Found
joined x a b = record { value = limited_value (a.places ++ b.places) x; fault = least a.fault b.fault; places = a.places ++ b.places }

unfoldable pub both : Found → Found → Found
both a b = joined (c.And a.value b.value) a b

unfoldable pub any : Found → Found → Found
any a b = joined (c.Or a.value b.value) a b

-- the parentheses that may stand in one another
abbrev pub max_depth : ℕ
max_depth = 32

-- a parenthesis that is nested too deep hides what is in it: that comes later, so it has no lesser fault
abbrev pub hidden : Token → Found
hidden t = record { value = c.Always; fault = at t Limit; places = [] }

abbrev pub nested : ℕ → Token → Found → Found
nested depth t x = if nat_lt depth max_depth then x else hidden t

-- the first comparison past those that are allowed
abbrev pub count_fault : List ℕ → Option Fault
count_fault places = option_map (λ place. record { place = place; cause = Limit }) (slice_get places most_comparisons)

-- a whole condition
unfoldable pub limited : Found → Checked Condition
limited x = checked x.value (least x.fault (count_fault x.places))

-- a statement without WHERE
abbrev pub unfiltered : Checked Condition
unfiltered = checked c.Always None

-- ---- lists of columns

abbrev pub has_place : List ℕ → ℕ → Bool
has_place places place = list_any (λ p. p == place) places

-- the places of columns behind those that are listed already, up to the first that is not declared or stands a second time
abbrev pub listed : Names → List ℕ → List Token → Checked (List ℕ)
listed names places [] = checked places None
listed names places (t ∷ ts) =
    option_map_or (λ p. if has_place places p then checked places (at t Duplicate) else listed names (places ++ p ∷ []) ts) (column_place names t) (checked places (at t Unknown))

abbrev pub and_column : Option Column → List Column → List Column
and_column None columns = columns
and_column (Some column) columns = column ∷ columns

-- the columns in these places
abbrev pub columns_at : Names → List ℕ → List Column
columns_at names [] = []
columns_at names (p ∷ ps) = and_column (slice_get names.columns p) (columns_at names ps)

abbrev pub as_items : Checked (List ℕ) → Checked Items2
as_items x = checked (i.Columns x.value) x.fault

-- the items of a SELECT
abbrev pub items_of : Names → Chosen → Checked Items2
items_of names chosen.All = checked i.All None
items_of names chosen.Count = checked i.Count None
items_of names (chosen.Columns ts) = as_items (listed names [] ts)

-- ---- assignments

-- the integer behind a minus, negated, where both fit 64 bits
abbrev pub negative : Option ℤ → Option ℤ
negative None = None
negative (Some z) = fitted (neg_ℤ z)

-- the number that a sum adds
unfoldable pub added : List ℕ → Token → Option ℤ
added line t = integer (text_of line t)

-- and the one that a difference adds
unfoldable pub taken : List ℕ → Token → Option ℤ
taken line t = negative (integer (text_of line t))

abbrev pub or_zero : Option ℤ → ℤ
or_zero None = pos 0
or_zero (Some z) = z

-- a literal that is to be stored in the target
abbrev pub literal_right : List ℕ → Option Column → Token → Option Fault
literal_right line None t = None
literal_right line (Some target) t = unless (stores false line target t) t TypeFault

-- a column, at this token, that the target is to be set from
abbrev pub column_right : Option Column → Option Column → Token → Option Fault
column_right target None t = at t Unknown
column_right None (Some source) t = None
column_right (Some target) (Some source) t = unless (is_assignable source.kind target.kind) t TypeFault

-- a sum with the integer at the second token, which is there where it fits
abbrev pub sum_right : Option Column → Option Column → Token → Token → Option ℤ → Option Fault
sum_right target None t n number = at t Unknown
sum_right None (Some source) t n number = None
sum_right (Some target) (Some source) t n number = if is_number source.kind && is_number target.kind then unless (is_some number) n Limit else at t TypeFault

-- a column, at the first token, with this number, whose integer is the second
abbrev pub summed : Names → Option Column → Token → Token → Option ℤ → Checked Expr
summed names target t n number = checked (e.Sum (place_in (column_place names t)) (or_zero number)) (sum_right target (column_of names t) t n number)

-- what the target is set to; where nothing else is said, its fault is at the expression's first token
unfoldable pub right_of : Names → Option Column → Right → Checked Expr
right_of names target (side.Literal t) = checked (e.Literal (stored_value names.line t)) (literal_right names.line target t)
right_of names target (side.Column t) = checked (e.Column (place_in (column_place names t))) (column_right target (column_of names t) t)
right_of names target (side.Plus t n) = summed names target t n (added names.line n)
right_of names target (side.Minus t n) = summed names target t n (taken names.line n)

-- the column in this place is set already
abbrev pub is_set : List Assignment → ℕ → Bool
is_set made place = list_any (λ (a : Assignment). a.column == place) made

-- the column, which stands in this place, is declared and not set already
abbrev pub target_fault : List Assignment → Token → Option ℕ → Option Fault
target_fault made t None = at t Unknown
target_fault made t (Some place) = if is_set made place then at t Duplicate else None

-- one assignment behind those that are made already
unfoldable pub assignment_of : Names → List Assignment → Target → Checked Assignment
assignment_of names made a =
    checked (record { column = place_in (column_place names a.column); expr = (right_of names (column_of names a.column) a.right).value })
    (least (target_fault made a.column (column_place names a.column)) (right_of names (column_of names a.column) a.right).fault)

abbrev pub go_on : List Assignment → Option Fault → Checked (List Assignment) → Checked (List Assignment)
go_on made None more = more
go_on made (Some f) more = checked made (Some f)

-- assignments behind those that are made already, up to the first with a fault
abbrev pub assigned : Names → List Assignment → List Target → Checked (List Assignment)
assigned names made [] = checked made None
assigned names made (a ∷ as') = go_on made (assignment_of names made a).fault (assigned names (made ++ (assignment_of names made a).value ∷ []) as')

-- ---- statements

unfoldable pub selected : Head → List ℕ → Chosen → Token → Checked Condition → Option Isolation → Checked Statement
selected head line items t cond level =
    checked (s.Select (table_of head line t) (items_of (table_names head line t) items).value cond.value level)
    (least (items_of (table_names head line t) items).fault (least (table_fault (table_names head line t) t) cond.fault))

-- the row of literals for all columns
abbrev pub all_row : Names → List Token → Token → Checked (List Value)
all_row names literals close = checked (stored_row names.line literals) (stored_fault false names.line names.columns literals close)

-- the row of literals for the listed columns
abbrev pub listed_row : Names → List Token → List Token → Token → Checked (List Value)
listed_row names columns literals close =
    checked (placed_row (length names.columns) names.line (listed names [] columns).value literals)
    (least (listed names [] columns).fault (stored_fault false names.line (columns_at names (listed names [] columns).value) literals close))

abbrev pub row_of : Names → Option (List Token) → List Token → Token → Checked (List Value)
row_of names None literals close = all_row names literals close
row_of names (Some columns) literals close = listed_row names columns literals close

unfoldable pub inserted : Head → List ℕ → Token → Option (List Token) → List Token → Token → Checked Statement
inserted head line t columns literals close =
    checked (s.Insert (table_of head line t) (row_of (table_names head line t) columns literals close).value)
    (least (table_fault (table_names head line t) t) (row_of (table_names head line t) columns literals close).fault)

unfoldable pub updated : Head → List ℕ → Token → List Target → Checked Condition → Option Isolation → Checked Statement
updated head line t targets cond level =
    checked (s.Update (table_of head line t) (record { list = (assigned (table_names head line t) [] targets).value }) cond.value level)
    (least (table_fault (table_names head line t) t) (least (assigned (table_names head line t) [] targets).fault cond.fault))

unfoldable pub deleted : Head → List ℕ → Token → Checked Condition → Option Isolation → Checked Statement
deleted head line t cond level =
    checked (s.Delete (table_of head line t) cond.value level) (least (table_fault (table_names head line t) t) cond.fault)

-- a name of more than 32 bytes
abbrev pub too_long : Token → Checked Statement
too_long t = checked s.Commit (at t Limit)

abbrev pub saved_as : Token → Option (List ℕ) → Checked Statement
saved_as t None = too_long t
saved_as t (Some name) = checked (s.Savepoint name) None

unfoldable pub saved : List ℕ → Token → Checked Statement
saved line t = saved_as t (name_of line t)

abbrev pub rolled_back_as : Token → Option (List ℕ) → Checked Statement
rolled_back_as t None = too_long t
rolled_back_as t (Some name) = checked (s.RollbackTo name) None

unfoldable pub rolled_back_to : List ℕ → Token → Checked Statement
rolled_back_to line t = rolled_back_as t (name_of line t)

abbrev pub rolled_back : List ℕ → Option Token → Checked Statement
rolled_back line None = checked s.Rollback None
rolled_back line (Some t) = rolled_back_to line t

unfoldable pub locked : Head → List ℕ → Token → Mode → Checked Statement
locked head line t mode = checked (s.LockTable (table_of head line t) mode) (table_fault (table_names head line t) t)

-- a statement that can't have a fault
abbrev pub plain : Statement → Checked Statement
plain x = checked x None
