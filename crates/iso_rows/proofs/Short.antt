-- Short words for literal heads and entries.
use Rattle.std.proofs.Common.{◌≡◌, ℕ, Bool, true, false, List, [], ◌∷◌, Option, ◌&&◌}
use Rattle.iso_sql.specs.declared.statement.Expr.{Expr}
use Rattle.iso_sql.specs.declared.statement.Assignment.{Assignment}
use Rattle.iso_sql.specs.declared.statement.Sets.{Sets}
use Rattle.iso_script.specs.declared.script.Line.{Line}
use Rattle.iso_script.specs.declared.script.What.{What}
use Rattle.iso_types.specs.declared.value.Conn.{Conn}
use Rattle.iso_types.specs.declared.value.TableId.{TableId}
use Rattle.iso_types.specs.declared.value.IndexId.{IndexId}
use Rattle.iso_types.specs.declared.value.Rid.{Rid}
use Rattle.iso_types.specs.declared.value.Value.{Value}
use Rattle.iso_types.specs.declared.value.Name.{Name}
use Rattle.iso_types.specs.declared.head.Head.{Head}
use Rattle.iso_types.specs.declared.head.Config.{Config}
use Rattle.iso_types.specs.declared.head.Column.{Column}
use Rattle.iso_types.specs.declared.head.ColumnKind.{ColumnKind}
use Rattle.iso_types.specs.declared.head.TableDef.{TableDef}
use Rattle.iso_types.specs.declared.head.IndexDef.{IndexDef}
use Rattle.iso_types.specs.declared.head.ConnDef.{ConnDef}
use Rattle.iso_types.specs.declared.head.FirstRow.{FirstRow}
use Rattle.iso_types.specs.declared.head.Isolation.{Isolation}
use Rattle.iso_types.specs.declared.head.Edge.{Edge}
use Rattle.iso_types.specs.declared.head.Range.{Range}
use Rattle.iso_modes.specs.declared.Mode.{Mode}
use Rattle.iso_modes.specs.declared.LockState.{LockState}
use Rattle.iso_queue.specs.declared.LockLine.{LockLine}
use Rattle.iso_history.specs.declared.entry.Act.{Act}
use Rattle.iso_history.specs.declared.entry.Entry.{Entry}
use Rattle.iso_history.specs.declared.entry.Who.TheVariants.{Dispatcher, Agent}

abbrev pub conn : ℕ → Conn
conn k = record { 0 = k }

abbrev pub table : ℕ → TableId
table k = record { 0 = k }

abbrev pub index : ℕ → IndexId
index k = record { 0 = k }

abbrev pub rid : ℕ → Rid
rid k = record { 0 = k }

abbrev pub dispatcher : Act → Entry
dispatcher a = record { who = Dispatcher; act = a }

abbrev pub agent : ℕ → Act → Entry
agent k a = record { who = Agent (conn k); act = a }

abbrev pub bound : Value → Bool → Edge
bound v b = record { value = v; inclusive = b }

abbrev pub range : Option Edge → Option Edge → Range
range low high = record { low = low; high = high }

abbrev pub lock_line : Name → Conn → Mode → LockState → LockLine
lock_line n c m s = record { name = n; conn = c; mode = m; state = s }

abbrev pub column : ColumnKind → Bool → Column
column k b = record { name = []; kind = k; required = b }

abbrev pub table_def : List Column → TableDef
table_def cs = record { name = []; columns = cs }

abbrev pub index_def : TableId → ℕ → Bool → IndexDef
index_def t k b = record { name = []; table = t; column = k; unique = b }

abbrev pub conn_def : Isolation → ConnDef
conn_def level = record { name = []; isolation = level }

abbrev pub first_row : TableId → List Value → FirstRow
first_row t row = record { table = t; row = row }

abbrev pub config : Bool → ℕ → ℕ → ℕ → ℕ → Config
config b l m n k = record { cur_commit = b; locklist = l; maxlocks = m; logmax = n; window = k }

abbrev pub heading : Config → List TableDef → List IndexDef → List FirstRow → List ConnDef → Head
heading c ts is rs cs = record { config = c; tables = ts; indexes = is; rows = rs; conns = cs }

abbrev pub line : ℕ → Option Conn → Bool → What → Line
line n c free what = record { number = n; conn = c; free = free; what = what }

abbrev pub assign : ℕ → Expr → Assignment
assign k e = record { column = k; expr = e }

abbrev pub sets_of : List Assignment → Sets
sets_of xs = record { list = xs }

-- an entry of another asks nothing
pub not_own : {A : Type 0} → false ≡ true → A
not_own h = absurd (cc)

-- an entry that is no stop for memory
pub no_stop : {A : Type 0} → false ≡ true → A
no_stop h = absurd (cc)
