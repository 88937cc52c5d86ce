-- What a head says.
use Rattle.std.specs.List.{range_with_len}
use Rattle.std.specs.Option.{option_map, option_map_or}
use Rattle.std.specs.Prelude.{ℕ, ◌*◌, ◌/◌, Bool, true, false, not, ◌&&◌, List, [], ◌∷◌, map, length, pos, negsuc, nat_lt, nat_le, slice_get, slice_index_or, int_le, Some, None, filter, Option}
use Rattle.iso_types.specs.Ids.{table_eq}
use Rattle.iso_types.specs.declared.head.Column.{Column}
use Rattle.iso_types.specs.declared.head.ColumnKind.{ColumnKind}
use Rattle.iso_types.specs.declared.head.ColumnKind.TheVariants.{Bigint, Integer, Varchar}
use Rattle.iso_types.specs.declared.head.Config.{Config}
use Rattle.iso_types.specs.declared.head.Head.{Head}
use Rattle.iso_types.specs.declared.value.Conn.{Conn}
use Rattle.iso_types.specs.declared.value.IndexId.{IndexId}
use Rattle.iso_types.specs.declared.value.Name.{Name}
use Rattle.iso_types.specs.declared.value.Name.TheVariants.{End, Key, Row, Table}
use Rattle.iso_types.specs.declared.value.TableId.{TableId}
use Rattle.iso_types.specs.declared.value.Value.{Value}
use Rattle.iso_types.specs.declared.value.Value.TheVariants.{Int, Null, Text}

-- the connections of the head, in order
abbrev pub conns : Head → List Conn
conns head = map (λ k. record { 0 = k }) (range_with_len 0 (length head.conns))

-- the tables of the head, in order
abbrev pub tables : Head → List TableId
tables head = map (λ k. record { 0 = k }) (range_with_len 0 (length head.tables))

-- the indexes of the head, in order
abbrev pub indexes : Head → List IndexId
indexes head = map (λ k. record { 0 = k }) (range_with_len 0 (length head.indexes))

-- the connection is the head's
abbrev pub is_conn : Head → Conn → Bool
is_conn head c = nat_lt c.0 (length head.conns)

-- the table is the head's
abbrev pub is_table : Head → TableId → Bool
is_table head t = nat_lt t.0 (length head.tables)

-- the index is the head's
abbrev pub is_index : Head → IndexId → Bool
is_index head i = nat_lt i.0 (length head.indexes)

-- the table of an index
abbrev pub table_of_index : Head → IndexId → Option TableId
table_of_index head i = option_map (λ d. d.table) (slice_get head.indexes i.0)

-- the index is unique
abbrev pub is_unique : Head → IndexId → Bool
is_unique head i = option_map_or (λ d. d.unique) (slice_get head.indexes i.0) false

-- the indexes of a table, in order of declaration
abbrev pub indexes_of : Head → TableId → List IndexId
indexes_of head t = filter (λ i. option_map_or (λ u. table_eq u t) (table_of_index head i) false) (indexes head)

-- the row's key in an index
abbrev pub key_in : Head → IndexId → List Value → Value
key_in head i row = option_map_or (λ d. slice_index_or row d.column Null) (slice_get head.indexes i.0) Null

-- the table of a row name or key name
abbrev pub table_of : Head → Name → Option TableId
table_of head (Table t) = None
table_of head (Row t r) = Some t
table_of head (Key i v) = table_of_index head i
table_of head (End i) = table_of_index head i

-- a row name or key name on this table
abbrev pub is_on : Head → TableId → Name → Bool
is_on head t n = option_map_or (λ u. table_eq u t) (table_of head n) false

-- the rows that the head gives a table, in order
abbrev pub rows_of : Head → TableId → List (List Value)
rows_of head t = map (λ f. f.row) (filter (λ f. table_eq f.table t) head.rows)

-- the value may stand in the column
abbrev pub fits_kind : ColumnKind → Value → Bool
fits_kind k Null = true
fits_kind Integer (Int z) = int_le (negsuc 2147483647) z && int_le z (pos 2147483647)
fits_kind Bigint (Int z) = int_le (negsuc 9223372036854775807) z && int_le z (pos 9223372036854775807)
fits_kind (Varchar n) (Text s) = nat_le (length s) n
fits_kind _ _ = false

-- the value is NULL
abbrev pub is_null : Value → Bool
is_null Null = true
is_null _ = false

-- it fits the kind, and is no NULL where one is required
abbrev pub fits_column : Column → Value → Bool
fits_column column v = fits_kind column.kind v && not (column.required && is_null v)

-- as many values as columns, each fits its own
abbrev pub all_fit : List Column → List Value → Bool
all_fit [] [] = true
all_fit (c ∷ cs) (v ∷ vs) = fits_column c v && all_fit cs vs
all_fit _ _ = false

-- the row fits its table, with no null in a NOT NULL column
abbrev pub row_fits : Head → TableId → List Value → Bool
row_fits head t row = option_map_or (λ d. all_fit d.columns row) (slice_get head.tables t.0) false

-- the slots of the lock list
abbrev pub lock_slots : Config → ℕ
lock_slots config = 32 * config.locklist

-- the share of one connection
abbrev pub lock_share : Config → ℕ
lock_share config = lock_slots config * config.maxlocks / 100

-- the number of the table's columns
abbrev pub width_of : Head → TableId → ℕ
width_of head t = option_map_or (λ d. length d.columns) (slice_get head.tables t.0) 0
