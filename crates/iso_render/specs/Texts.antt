-- How values, rows, modes and names are printed. // this project's own
use Rattle.std.specs.Fmt.{decimal, signed_decimal}
use Rattle.std.specs.Option.{option_map_or}
use Rattle.std.specs.Prelude.{ℕ, List, [], ◌∷◌, ◌++◌, ◌==◌, codes, if◌then◌else◌, slice_get}
use Rattle.iso_modes.specs.declared.LockState.{LockState}
use Rattle.iso_modes.specs.declared.LockState.TheVariants.{Converting, Granted, Waiting}
use Rattle.iso_modes.specs.declared.Mode.{Mode}
use Rattle.iso_modes.specs.declared.Mode.TheVariants.{In, Is, Ix, Ns, Nw, S, Six, U, X, Z}
use Rattle.iso_types.specs.declared.head.Head.{Head}
use Rattle.iso_types.specs.declared.value.Conn.{Conn}
use Rattle.iso_types.specs.declared.value.IndexId.{IndexId}
use Rattle.iso_types.specs.declared.value.Name.{Name}
use Rattle.iso_types.specs.declared.value.Name.TheVariants.{End, Key, Row, Table}
use Rattle.iso_types.specs.declared.value.TableId.{TableId}
use Rattle.iso_types.specs.declared.value.Value.{Value}
use Rattle.iso_types.specs.declared.value.Value.TheVariants.{Int, Null, Text}

-- each quote is doubled
abbrev pub doubled : List ℕ → List ℕ
doubled [] = []
doubled (b ∷ bytes) = (if b == 39 then 39 ∷ 39 ∷ [] else b ∷ []) ++ doubled bytes

-- NULL, an integer in decimal, or a text in quotes
abbrev pub value_text : Value → List ℕ
value_text Null = codes "NULL"
value_text (Int n) = signed_decimal n
value_text (Text bytes) = codes "'" ++ doubled bytes ++ codes "'"

-- each of these values stands behind a comma and a blank
abbrev pub later_values : List Value → List ℕ
later_values [] = []
later_values (v ∷ values) = codes ", " ++ value_text v ++ later_values values

-- the values of a row with commas between them
abbrev pub row_text : List Value → List ℕ
row_text [] = []
row_text (v ∷ values) = value_text v ++ later_values values

-- a mode as Db2 names it
abbrev pub mode_word : Mode → List ℕ
mode_word In = codes "IN"
mode_word Is = codes "IS"
mode_word Ns = codes "NS"
mode_word S = codes "S"
mode_word Ix = codes "IX"
mode_word Six = codes "SIX"
mode_word U = codes "U"
mode_word X = codes "X"
mode_word Nw = codes "NW"
mode_word Z = codes "Z"

-- the state of a lock in a snapshot
abbrev pub state_word : LockState → List ℕ
state_word Granted = codes "GRANTED"
state_word Converting = codes "CONVERTING"
state_word Waiting = codes "WAITING"

-- the name of a connection
abbrev pub conn_name : Head → Conn → List ℕ
conn_name head c = option_map_or (λ d. d.name) (slice_get head.conns c.0) []

-- the name of a table
abbrev pub table_name : Head → TableId → List ℕ
table_name head t = option_map_or (λ d. d.name) (slice_get head.tables t.0) []

-- the name of an index
abbrev pub index_name : Head → IndexId → List ℕ
index_name head i = option_map_or (λ d. d.name) (slice_get head.indexes i.0) []

-- a lock name
abbrev pub name_text : Head → Name → List ℕ
name_text head (Table t) = codes "TABLE " ++ table_name head t
name_text head (Row t r) = codes "ROW " ++ table_name head t ++ codes " " ++ decimal r.0
name_text head (Key i v) = codes "KEY " ++ index_name head i ++ codes " " ++ value_text v
name_text head (End i) = codes "END " ++ index_name head i
