-- What a script that is read may be relied on for: its names differ, its settings lie in their bounds, its rows fit their tables,
-- its indexes stand on required columns, and its body lines name what the head declares.
-- // Db2 LUW, 'Assignments and comparisons', 'Unique indexes'; the limits are this project's own
use Rattle.std.specs.List.{list_all, list_any}
use Rattle.std.specs.Option.{option_map_or}
use Rattle.std.specs.Prelude.{◌≡◌, ◌≤◌, ℕ, Bool, true, false, not, ◌&&◌, List, [], ◌∷◌, ◌++◌, map, length, nat_le, slice_get, Option, Some, None}
use Rattle.iso_types.specs.Head.{is_conn, row_fits}
use Rattle.iso_types.specs.Ids.{text_eq}
use Rattle.iso_types.specs.declared.head.Column.{Column}
use Rattle.iso_types.specs.declared.head.ColumnKind.{ColumnKind}
use Rattle.iso_types.specs.declared.head.ColumnKind.TheVariants.{Varchar}
use Rattle.iso_types.specs.declared.head.Config.{Config}
use Rattle.iso_types.specs.declared.head.ConnDef.{ConnDef}
use Rattle.iso_types.specs.declared.head.FirstRow.{FirstRow}
use Rattle.iso_types.specs.declared.head.Head.{Head}
use Rattle.iso_types.specs.declared.head.IndexDef.{IndexDef}
use Rattle.iso_types.specs.declared.head.TableDef.{TableDef}
use Rattle.iso_types.specs.declared.value.Conn.{Conn}
use Rattle.iso_types.specs.declared.value.TableId.{TableId}
use Rattle.iso_sql.specs.Sound.{columns_of, is_short, is_sound_statement}
use Rattle.iso_script.specs.declared.script.Line.{Line}
use Rattle.iso_script.specs.declared.script.Script.{Script}
use Rattle.iso_script.specs.declared.script.What.{What}
use Rattle.iso_script.specs.declared.script.What.TheVariants as what
use Rattle.iso_script.specs.Events.{snapshots}
use Rattle.iso_script.specs.Keyed.{has_twice, own_indexes, own_rows}
use Rattle.iso_script.specs.Numbered.{rises_above}

-- each name is none of those before it
abbrev pub are_new : List (List ℕ) → List (List ℕ) → Bool
are_new before [] = true
are_new before (n ∷ ns) = not (list_any (text_eq n) before) && are_new (before ++ n ∷ []) ns

-- ---- the head

-- a text column has 1 to 32 bytes
abbrev pub is_sound_kind : ColumnKind → Bool
is_sound_kind (Varchar n) = nat_le 1 n && nat_le n 32
is_sound_kind _ = true

abbrev pub is_sound_column : Column → Bool
is_sound_column c = is_short c.name && is_sound_kind c.kind

-- 1 to 8 columns of different names
abbrev pub is_sound_table : TableDef → Bool
is_sound_table d =
    is_short d.name && (nat_le 1 (length d.columns) && (nat_le (length d.columns) 8 && (are_new [] (map (λ (c : Column). c.name) d.columns) && list_all is_sound_column d.columns)))

-- an index on a required column of a table of the head; a unique one has no key twice
abbrev pub is_sound_index : Head → IndexDef → Bool
is_sound_index head d =
    is_short d.name && (option_map_or (λ (c : Column). c.required) (slice_get (columns_of head d.table) d.column) false && not (d.unique && has_twice d.table d.column head.rows))

abbrev pub is_sound_connection : ConnDef → Bool
is_sound_connection d = is_short d.name

-- each setting lies within its bounds
abbrev pub is_sound_config : Config → Bool
is_sound_config c =
    (nat_le 4 c.locklist && nat_le c.locklist 4096)
    && ((nat_le 1 c.maxlocks && nat_le c.maxlocks 100) && ((nat_le 2 c.logmax && nat_le c.logmax 1000000) && (nat_le 1 c.window && nat_le c.window 1000000)))

-- the row fits its table
abbrev pub is_fitting : Head → FirstRow → Bool
is_fitting head f = row_fits head f.table f.row

pub record IsSoundHead (head : Head) : Type 0 where
  pub config : is_sound_config head.config ≡ true
  pub some_tables : length head.tables ≤ 16
  pub table_names : are_new [] (map (λ (d : TableDef). d.name) head.tables) ≡ true
  pub tables : list_all is_sound_table head.tables ≡ true
  pub some_indexes : length head.indexes ≤ 32
  pub few_indexes : (t : TableId) → length (own_indexes t head.indexes) ≤ 4
  pub index_names : are_new [] (map (λ (d : IndexDef). d.name) head.indexes) ≡ true
  pub indexes : list_all (is_sound_index head) head.indexes ≡ true
  pub some_rows : (t : TableId) → length (own_rows t head.rows) ≤ 65536
  -- each row fits its table, which is there
  pub rows : list_all (is_fitting head) head.rows ≡ true
  pub some_conns : length head.conns ≤ 32
  pub conn_names : are_new [] (map (λ (d : ConnDef). d.name) head.conns) ≡ true
  pub conns : list_all is_sound_connection head.conns ≡ true

-- ---- the body

-- a statement that the head allows, behind `&` or not, or an EXPIRE, by a connection of the head; or a SNAPSHOT without one
abbrev pub is_sound_what : Head → Option Conn → What → Bool → Bool
is_sound_what head (Some c) (what.Statement x) free = is_conn head c && is_sound_statement head x
is_sound_what head (Some c) what.Expire false = is_conn head c
is_sound_what head None what.Snapshot false = true
is_sound_what head _ _ _ = false

abbrev pub is_sound_line : Head → Line → Bool
is_sound_line head l = is_sound_what head l.conn l.what l.free

pub record IsSound (s : Script) : Type 0 where
  pub head : IsSoundHead s.head
  pub lines : list_all (is_sound_line s.head) s.lines ≡ true
  pub pictures : length (snapshots s.lines) ≤ 32
  pub numbers : rises_above 0 s.lines ≡ true
