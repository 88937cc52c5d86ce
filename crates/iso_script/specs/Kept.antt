-- What the reader keeps beside a script so far, so that a line need not look through the rows before it. // this project's own
use Rattle.std.specs.List.{list_any}
use Rattle.std.specs.Prelude.{◌≡◌, ◌<◌, ◌+◌, ◌&&◌, ℕ, Bool, List, [], ◌∷◌, ◌++◌, Option, Some, None, if◌then◌else◌, length, nat_eq, nat_le, slice_index_or, slice_set}
use Rattle.iso_types.specs.Ids.{table_eq}
use Rattle.iso_types.specs.Value.{value_eq}
use Rattle.iso_types.specs.declared.head.FirstRow.{FirstRow}
use Rattle.iso_types.specs.declared.head.IndexDef.{IndexDef}
use Rattle.iso_types.specs.declared.value.TableId.{TableId}
use Rattle.iso_types.specs.declared.value.Value.{Value}
use Rattle.iso_script.specs.declared.event.Event.{Event}
use Rattle.iso_script.specs.declared.event.Event.TheVariants as event
use Rattle.iso_script.specs.declared.progress.Progress.{Progress}
use Rattle.iso_script.specs.Keyed.{has_key, is_same_key, key_at, own_rows}

-- a number of rows, counted to 65,536
unfoldable pub counted : ℕ → ℕ
counted n = if nat_le 65536 n then 65536 else n

-- the count of each table is the number of its rows, counted to 65,536
unfoldable pub IsCounted : List ℕ → List FirstRow → Type 0
IsCounted counts rows = (length counts ≡ 256) × ((t : TableId) → t.0 < 256 → slice_index_or counts t.0 0 ≡ counted (length (own_rows t rows)))

-- the table that an event gives a row
abbrev pub own_table : Event → Option TableId
own_table (event.Row f) = Some f.table
own_table _ = None

-- the counts with one row more of the table, if there is one
abbrev pub with_row : List ℕ → Option TableId → List ℕ
with_row counts None = counts
with_row counts (Some t) = slice_set counts t.0 (counted (slice_index_or counts t.0 0 + 1))

-- both are the same value in the same column of the same table
abbrev pub is_same_entry : ℕ × ℕ × Value → ℕ × ℕ × Value → Bool
is_same_entry a b = (nat_eq a.0 b.0 && nat_eq a.1 b.1) && value_eq a.2 b.2

-- the set has this value in this column of this table
abbrev pub has_value : List (ℕ × ℕ × Value) → TableId → ℕ → Value → Bool
has_value keys t column v = list_any (is_same_entry (t.0, column, v)) keys

-- this value, in this place of this table, is the key v in the column of t
abbrev pub is_that : TableId → ℕ → Value → TableId → ℕ → Value → Bool
is_that table place value t column v = table_eq table t && (nat_eq place column && is_same_key v value)

-- the set has the row's key in the column of a unique index of the table
abbrev pub finds_key : List (ℕ × ℕ × Value) → TableId → List Value → IndexDef → Bool
finds_key keys t row d = d.unique && (table_eq d.table t && has_value keys t d.column (key_at d.column row))

-- the index is unique, and stands on this column of this table
abbrev pub is_on : TableId → ℕ → IndexDef → Bool
is_on t column d = d.unique && (table_eq d.table t && nat_eq d.column column)

-- a unique index stands on this column of this table
abbrev pub is_keyed : List IndexDef → TableId → ℕ → Bool
is_keyed indexes t column = list_any (is_on t column) indexes

-- the set has the keys that these rows have in columns under a unique index, and no others
unfoldable pub HoldsKeys : List (ℕ × ℕ × Value) → List IndexDef → List FirstRow → Type 0
HoldsKeys keys indexes rows = (t : TableId) (column : ℕ) (v : Value) → has_value keys t column v ≡ (is_keyed indexes t column && has_key t column v rows)

-- what is kept is right
abbrev pub IsKept : Progress → Type 0
IsKept p = IsCounted p.counts p.reader.script.head.rows × HoldsKeys p.keys.keys p.reader.script.head.indexes p.reader.script.head.rows

-- the rows with that of an event, if it gives one
abbrev pub rows_with : Event → List FirstRow → List FirstRow
rows_with (event.Row f) rows = rows ++ f ∷ []
rows_with _ rows = rows

-- the indexes with that of an event, if it gives one
abbrev pub indexes_with : Event → List IndexDef → List IndexDef
indexes_with (event.Index d) indexes = indexes ++ d ∷ []
indexes_with _ indexes = indexes
