-- What is done to a connection's part in the lines of names, name by name.
use Rattle.std.specs.Option.{option_map_or}
use Rattle.std.specs.Prelude.{Bool, false, if◌then◌else◌, List, Option, None, Some, slice_get}
use Rattle.iso_lines.specs.Locks.{is_at_hand}
use Rattle.iso_lines.specs.Named.{changed}
use Rattle.iso_lines.specs.declared.lines.Change.{Change}
use Rattle.iso_lines.specs.declared.tasks.Task.{Task}
use Rattle.iso_lines.specs.declared.tasks.Task.TheVariants.{Cancel, Claim, Collapse, Release, Settle}
use Rattle.iso_queue.specs.Lines.{Line, is_touched, is_waiter}
use Rattle.iso_types.specs.Ids.{name_eq, table_eq}
use Rattle.iso_types.specs.declared.value.Conn.{Conn}
use Rattle.iso_types.specs.declared.value.Name.{Name}
use Rattle.iso_types.specs.declared.value.Name.TheVariants.{End, Key, Row, Table}
use Rattle.iso_types.specs.declared.value.TableId.{TableId}

-- the name is the one that is spared
abbrev pub is_spared : Option Name → Name → Bool
is_spared spare n = option_map_or (name_eq n) spare false

-- the name is the one that was placed just now
abbrev pub is_placed : Option Name → Name → Bool
is_placed placed n = option_map_or (λ m. name_eq m n) placed false

-- the table of a row name or key name
abbrev pub table_in : List TableId → Name → Option TableId
table_in tables (Table t) = None
table_in tables (Row t r) = Some t
table_in tables (Key i v) = slice_get tables i.0
table_in tables (End i) = slice_get tables i.0

-- the name is that of a row or key of the table
abbrev pub is_within : List TableId → TableId → Name → Bool
is_within tables t n = option_map_or (λ u. table_eq u t) (table_in tables n) false

-- what is done in the name's line
abbrev pub change_on : List TableId → Task → Name → Option Change
change_on tables Release n = Some Change.Release
change_on tables (Collapse t) n = if is_within tables t n then Some Change.Release else None
change_on tables (Settle spare placed) n = if is_placed placed n then None else Some (Change.Settle (is_spared spare n))
change_on tables Cancel n = Some Change.Cancel
change_on tables Claim n = Some Change.Claim

-- the line after it
abbrev pub done_by : Option Change → Conn → Line → Line
done_by change c q = option_map_or (λ x. changed x c q) change q

-- the name's line after the task
abbrev pub worked : List TableId → Task → Conn → Name → Line → Line
worked tables task c n q = done_by (change_on tables task n) c q

-- the task may change the line
abbrev pub concerns : Task → Conn → Line → Bool
concerns Release c q = is_touched q c
concerns (Collapse t) c q = is_touched q c
concerns (Settle spare placed) c q = is_at_hand c q
concerns Cancel c q = is_waiter q.waiters c
concerns Claim c q = is_waiter q.waiters c
