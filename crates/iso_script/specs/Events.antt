-- What the lines of a script stand for, and what is wrong with them.
-- // this project's own, but for the column types and the isolation levels (Db2 LUW, 'Isolation levels')
use Rattle.std.specs.List.{list_any}
use Rattle.std.specs.Prelude.{ℕ, Bool, true, false, not, ◌||◌, if◌then◌else◌, List, [], ◌∷◌, ◌++◌, map, length, filter, nat_lt, nat_le, is_some, Option, Some, None}
use Rattle.iso_types.specs.declared.head.Column.{Column}
use Rattle.iso_types.specs.declared.head.ColumnKind.{ColumnKind}
use Rattle.iso_types.specs.declared.head.ColumnKind.TheVariants as kind
use Rattle.iso_types.specs.declared.head.Head.{Head}
use Rattle.iso_types.specs.declared.head.Isolation.{Isolation}
use Rattle.iso_sql.specs.declared.statement.Statement.{Statement}
use Rattle.iso_grammar.specs.declared.fault.Cause.{Cause}
use Rattle.iso_grammar.specs.declared.fault.Cause.TheVariants.{Duplicate, Limit}
use Rattle.iso_grammar.specs.declared.fault.Checked.{Checked}
use Rattle.iso_grammar.specs.declared.fault.Fault.{Fault}
use Rattle.iso_grammar.specs.declared.token.Kind.TheVariants as k
use Rattle.iso_grammar.specs.declared.token.Token.{Token}
use Rattle.iso_grammar.specs.Faults.{checked, least, unless}
use Rattle.iso_grammar.specs.Kinds.{same_kind}
use Rattle.iso_script.specs.declared.script.Line.{Line}
use Rattle.iso_script.specs.declared.script.What.{What}
use Rattle.iso_script.specs.declared.script.What.TheVariants as what
use Rattle.iso_script.specs.declared.event.Event.{Event}
use Rattle.iso_script.specs.declared.event.Event.TheVariants as event
use Rattle.iso_script.specs.declared.event.Setting.{Setting}
use Rattle.iso_script.specs.declared.event.Setting.TheVariants as setting
use Rattle.iso_script.specs.declared.event.Settings.{Settings}
use Rattle.iso_script.specs.declared.words.ColumnWords.{ColumnWords}
use Rattle.iso_script.specs.declared.words.SettingName.{SettingName}
use Rattle.iso_script.specs.declared.words.SettingName.TheVariants as name
use Rattle.iso_script.specs.declared.words.SettingWords.{SettingWords}
use Rattle.iso_script.specs.declared.words.TypeWords.{TypeWords}
use Rattle.iso_script.specs.declared.words.TypeWords.TheVariants as ty
use Rattle.iso_sql.specs.Names.{gives}
use Rattle.iso_script.specs.Naming.{named, declared_fault, has_table, has_connection, connection_of, connection_fault, ranged, ranged_or_low}

-- what passes a limit of the whole line stands at place 1
abbrev pub whole_line : Cause → Option Fault
whole_line cause = Some (record { place = 1; cause = cause })

-- ---- CONFIG

-- the least and the greatest number of a setting; CUR_COMMIT has none
abbrev pub bounds_of : SettingName → ℕ × ℕ
bounds_of name.CurCommit = (0, 0)
bounds_of name.Locklist = (4, 4096)
bounds_of name.Maxlocks = (1, 100)
bounds_of name.Logmax = (2, 1000000)
bounds_of name.Window = (1, 1000000)

-- the setting with its number
abbrev pub setting_of : SettingName → Bool → ℕ → Setting
setting_of name.CurCommit on n = setting.CurCommit on
setting_of name.Locklist on n = setting.Locklist n
setting_of name.Maxlocks on n = setting.Maxlocks n
setting_of name.Logmax on n = setting.Logmax n
setting_of name.Window on n = setting.Window n

-- the setting was declared
abbrev pub is_set : Settings → SettingName → Bool
is_set set name.CurCommit = set.cur_commit
is_set set name.Locklist = set.locklist
is_set set name.Maxlocks = set.maxlocks
is_set set name.Logmax = set.logmax
is_set set name.Window = set.window

abbrev pub number_fault : List ℕ → SettingName → Token → Option Fault
number_fault line n value = unless (is_some (ranged line value (bounds_of n).0 (bounds_of n).1)) value Limit

-- ON or DISABLED, or else a number within the setting's bounds
abbrev pub setting_value_fault : List ℕ → SettingName → Token → Option Fault
setting_value_fault line name.CurCommit value = None
setting_value_fault line n value = number_fault line n value

-- CONFIG: a setting once, its number within its bounds
unfoldable pub configured : Settings → List ℕ → SettingWords → Checked Event
configured set line w =
    checked (event.Config (setting_of w.name (same_kind k.On w.value.kind) (ranged_or_low line w.value (bounds_of w.name).0 (bounds_of w.name).1)))
    (least (unless (not (is_set set w.name)) w.word Duplicate) (setting_value_fault line w.name w.value))

-- ---- TABLE

abbrev pub kind_of : List ℕ → TypeWords → ColumnKind
kind_of line ty.Integer = kind.Integer
kind_of line ty.Bigint = kind.Bigint
kind_of line (ty.Varchar n) = kind.Varchar (ranged_or_low line n 1 32)

-- a text has 1 to 32 bytes
abbrev pub kind_fault : List ℕ → TypeWords → Option Fault
kind_fault line ty.Integer = None
kind_fault line ty.Bigint = None
kind_fault line (ty.Varchar n) = unless (is_some (ranged line n 1 32)) n Limit

unfoldable pub column_of : List ℕ → ColumnWords → Column
column_of line c = record { name = named line c.name; kind = kind_of line c.kind; required = c.required }

-- a column behind these: a name that none of them has, and a type
unfoldable pub column_fault : List ℕ → List Column → ColumnWords → Option Fault
column_fault line before c = least (declared_fault (list_any (λ d. gives line c.name d.name) before) line c.name) (kind_fault line c.kind)

-- the least fault so far and of these columns, which stand behind those before
abbrev pub columns_fault : List ℕ → Option Fault → List Column → List ColumnWords → Option Fault
columns_fault line so_far before [] = so_far
columns_fault line so_far before (c ∷ cs) = columns_fault line (least so_far (column_fault line before c)) (before ++ column_of line c ∷ []) cs

-- TABLE: at most 16 tables and 8 columns. A limit of the whole line stands before every other fault of it.
abbrev pub table_fault : Head → List ℕ → Token → List ColumnWords → Option Fault
table_fault head line t cs =
    if nat_lt 8 (length cs) || nat_le 16 (length head.tables) then whole_line Limit
    else least (declared_fault (has_table head line t) line t) (columns_fault line None [] cs)

unfoldable pub declared : Head → List ℕ → Token → List ColumnWords → Checked Event
declared head line t cs = checked (event.Table (record { name = named line t; columns = map (column_of line) cs })) (table_fault head line t cs)

-- ---- CONNECT

-- at most 32 connections
abbrev pub connect_fault : Head → List ℕ → Token → Option Fault
connect_fault head line a = if nat_le 32 (length head.conns) then whole_line Limit else declared_fault (has_connection head line a) line a

unfoldable pub connected : Head → List ℕ → Token → Isolation → Checked Event
connected head line a level = checked (event.Connect (record { name = named line a; isolation = level })) (connect_fault head line a)

-- ---- body lines

-- a statement of a connection, behind `&` or not
unfoldable pub stated : Head → List ℕ → Bool → Token → Checked Statement → Checked Event
stated head line free a x = checked (event.Asked (Some (connection_of head line a)) free (what.Statement x.value)) (least (connection_fault head line a) x.fault)

-- EXPIRE
unfoldable pub expired : Head → List ℕ → Token → Checked Event
expired head line a = checked (event.Asked (Some (connection_of head line a)) false what.Expire) (connection_fault head line a)

abbrev pub is_snapshot : What → Bool
is_snapshot what.Snapshot = true
is_snapshot _ = false

-- the SNAPSHOT lines of a script
abbrev pub snapshots : List Line → List Line
snapshots lines = filter (λ l. is_snapshot l.what) lines

-- SNAPSHOT: at most 32 of them
unfoldable pub pictured : List Line → Checked Event
pictured lines = checked (event.Asked None false what.Snapshot) (if nat_le 32 (length (snapshots lines)) then whole_line Limit else None)

-- BEGIN, END and the first line have no fault
abbrev pub plain : Event → Checked Event
plain e = checked e None
