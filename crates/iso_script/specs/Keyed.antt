-- What the lines ROW and INDEX stand for, and what is wrong with them: rows, keys and the indexes on them.
-- // Db2 LUW, 'Assignments and comparisons', 'Unique indexes'; the limits are this project's own
use Rattle.std.specs.List.{list_any}
use Rattle.std.specs.Option.{option_map_or}
use Rattle.std.specs.Prelude.{ℕ, Bool, true, false, not, ◌&&◌, ◌||◌, if◌then◌else◌, List, [], ◌∷◌, length, filter, nat_le, slice_index_or, is_some, Option, Some, None}
use Rattle.iso_types.specs.Head.{is_null}
use Rattle.iso_types.specs.Ids.{table_eq}
use Rattle.iso_types.specs.Value.{value_eq}
use Rattle.iso_types.specs.declared.head.Column.{Column}
use Rattle.iso_types.specs.declared.head.FirstRow.{FirstRow}
use Rattle.iso_types.specs.declared.head.Head.{Head}
use Rattle.iso_types.specs.declared.head.IndexDef.{IndexDef}
use Rattle.iso_types.specs.declared.value.TableId.{TableId}
use Rattle.iso_types.specs.declared.value.Value.{Value}
use Rattle.iso_types.specs.declared.value.Value.TheVariants.{Null}
use Rattle.iso_grammar.specs.declared.fault.Cause.TheVariants.{Duplicate, Limit, TypeFault, Unknown}
use Rattle.iso_grammar.specs.declared.fault.Checked.{Checked}
use Rattle.iso_grammar.specs.declared.fault.Fault.{Fault}
use Rattle.iso_grammar.specs.declared.token.Token.{Token}
use Rattle.iso_grammar.specs.Faults.{at, checked, least, unless}
use Rattle.iso_sql.specs.Names.{Names, table_names, table_of, column_place, column_of, place_in}
use Rattle.iso_sql.specs.Rows.{stored_fault, stored_row}
use Rattle.iso_script.specs.declared.event.Event.{Event}
use Rattle.iso_script.specs.declared.event.Event.TheVariants as event
use Rattle.iso_script.specs.declared.words.IndexWords.{IndexWords}
use Rattle.iso_script.specs.Events.{whole_line}
use Rattle.iso_script.specs.Naming.{named, declared_fault, has_index}

-- ---- ROW

-- the row's value in the column; NULL where the row is too short
abbrev pub key_at : ℕ → List Value → Value
key_at column row = slice_index_or row column Null

-- a key; NULL is none
abbrev pub is_same_key : Value → Value → Bool
is_same_key v w = not (is_null v) && value_eq v w

-- a row of this table has the same key in this column
abbrev pub has_this : TableId → ℕ → Value → FirstRow → Bool
has_this t column v f = table_eq f.table t && is_same_key v (key_at column f.row)

abbrev pub has_key : TableId → ℕ → Value → List FirstRow → Bool
has_key t column v rows = list_any (has_this t column v) rows

-- a unique index of the table has the row's key already
abbrev pub repeats_key : List FirstRow → TableId → List Value → IndexDef → Bool
repeats_key rows t row d = d.unique && (table_eq d.table t && has_key t d.column (key_at d.column row) rows)

unfoldable pub repeats_keys : Head → TableId → List Value → Bool
repeats_keys head t row = list_any (repeats_key head.rows t row) head.indexes

-- the rows of a table
abbrev pub own_rows : TableId → List FirstRow → List FirstRow
own_rows t rows = filter (λ f. table_eq f.table t) rows

-- at most 65,536 rows of a table
unfoldable pub full_fault : Head → TableId → Option Fault
full_fault head t = if nat_le 65536 (length (own_rows t head.rows)) then whole_line Limit else None

-- A row of a table that is declared: no key that a unique index has, at most so many rows, and values that fit the columns.
abbrev pub values_fault : Head → List ℕ → Token → TableId → List Column → List Token → Token → Option Fault
values_fault head line first t columns vs close =
    least (unless (not (repeats_keys head t (stored_row line vs))) first Duplicate) (least (full_fault head t) (stored_fault true line columns vs close))

abbrev pub row_fault : Head → Names → Token → Token → TableId → List Token → Token → Option Fault
row_fault head names first table t vs close = if names.known then values_fault head names.line first t names.columns vs close else at table Unknown

-- ROW, by its first token, its table, its values, and the parenthesis that closes them
unfoldable pub rowed : Head → List ℕ → Token → Token → List Token → Token → Checked Event
rowed head line first t vs close =
    checked (event.Row (record { table = table_of head line t; row = stored_row line vs })) (row_fault head (table_names head line t) first t (table_of head line t) vs close)

-- ---- INDEX

-- the words of an INDEX line, which begins with UNIQUE or with INDEX
abbrev pub index_words : Option Token → Token → Token → Token → Token → IndexWords
index_words unique word i t c = record { first = option_map_or (λ u. u) unique word; unique = is_some unique; name = i; table = t; column = c }

-- a key of these rows stands twice
abbrev pub has_twice : TableId → ℕ → List FirstRow → Bool
has_twice t column [] = false
has_twice t column (f ∷ fs) = (table_eq f.table t && has_key t column (key_at column f.row) fs) || has_twice t column fs

abbrev pub own_indexes : TableId → List IndexDef → List IndexDef
own_indexes t indexes = filter (λ d. table_eq d.table t) indexes

-- at most 32 indexes, 4 of a table
unfoldable pub crowd_fault : Head → TableId → Option Fault
crowd_fault head t = if nat_le 32 (length head.indexes) || nat_le 4 (length (own_indexes t head.indexes)) then whole_line Limit else None

-- a column that may not be NULL
abbrev pub required_fault : Option Column → Token → Option Fault
required_fault None c = at c Unknown
required_fault (Some d) c = unless d.required c TypeFault

-- rows whose keys differ, where the index is unique and its column there
abbrev pub keys_fault : Head → IndexWords → TableId → Option ℕ → Option Fault
keys_fault head w t None = None
keys_fault head w t (Some column) = unless (not (w.unique && has_twice t column head.rows)) w.first Duplicate

-- an index on a column of a table that is declared
abbrev pub on_fault : Head → IndexWords → TableId → Names → Option Fault
on_fault head w t names = least (keys_fault head w t (column_place names w.column)) (least (crowd_fault head t) (required_fault (column_of names w.column) w.column))

-- an index on a table that is not declared
abbrev pub unknown_fault : Head → Token → Option Fault
unknown_fault head table = least (if nat_le 32 (length head.indexes) then whole_line Limit else None) (at table Unknown)

abbrev pub place_fault : Head → IndexWords → TableId → Names → Option Fault
place_fault head w t names = if names.known then on_fault head w t names else unknown_fault head w.table

-- [UNIQUE] INDEX
unfoldable pub indexed : Head → List ℕ → IndexWords → Checked Event
indexed head line w =
    checked
    (event.Index (record { name = named line w.name; table = table_of head line w.table; column = place_in (column_place (table_names head line w.table) w.column); unique = w.unique }))
    (least (declared_fault (has_index head line w.name) line w.name) (place_fault head w (table_of head line w.table) (table_names head line w.table)))
