-- What a Snapshot lists, in its order. The states are those of Db2 LUW, 'MON_GET_LOCKS'; the order is this project's own.
use Rattle.std.specs.Option.{option_map_or}
use Rattle.std.specs.Prelude.{ℕ, Bool, true, false, ◌&&◌, ◌||◌, List, [], ◌∷◌, ◌++◌, map, if◌then◌else◌, nat_lt, nat_le, ◌==◌, flat_map, filter_map}
use Rattle.iso_modes.specs.declared.LockState.{LockState}
use Rattle.iso_modes.specs.declared.LockState.TheVariants.{Converting}
use Rattle.iso_queue.specs.Locks.{Hold, hold_on, is_held}
use Rattle.iso_queue.specs.Queues.{Wait, queue}
use Rattle.iso_queue.specs.declared.LockLine.{LockLine}
use Rattle.iso_types.specs.Head.{conns, table_of}
use Rattle.iso_types.specs.Ids.{index_eq, name_eq}
use Rattle.iso_types.specs.Value.{value_lt}
use Rattle.iso_types.specs.declared.head.Head.{Head}
use Rattle.iso_types.specs.declared.value.Name.{Name}
use Rattle.iso_types.specs.declared.value.Name.TheVariants.{End, Key, Row, Table}

-- the table of a name
abbrev pub table_number : Head → Name → ℕ
table_number head (Table t) = t.0
table_number head n = option_map_or (λ t. t.0) (table_of head n) 0

-- the order of the names of one table: the table, its rows by rid, for each index its keys in order and END
unfoldable pub stands_before : Name → Name → Bool
stands_before (Table t) (Table u) = false
stands_before (Table t) n = true
stands_before (Row t r) (Table u) = false
stands_before (Row t r) (Row u s) = nat_lt r.0 s.0
stands_before (Row t r) n = true
stands_before (Key i v) (Key j w) = nat_lt i.0 j.0 || (index_eq i j && value_lt v w)
stands_before (Key i v) (End j) = nat_le i.0 j.0
stands_before (End i) (Key j v) = nat_lt i.0 j.0
stands_before (End i) (End j) = nat_lt i.0 j.0
stands_before n m = false

-- by table, then by the order in it
abbrev pub name_lt : Head → Name → Name → Bool
name_lt head n m =
    nat_lt (table_number head n) (table_number head m) || ((table_number head n == table_number head m) && stands_before n m)

-- the name in its place, once
abbrev pub with_name : Head → Name → List Name → List Name
with_name head n [] = n ∷ []
with_name head n (m ∷ ms) =
    if name_lt head n m then n ∷ m ∷ ms else if name_eq n m then m ∷ ms else m ∷ with_name head n ms

-- the names in order, each once
abbrev pub ordered : Head → List Name → List Name
ordered head [] = []
ordered head (n ∷ ns) = with_name head n (ordered head ns)

-- the names that somebody holds or awaits, in order
abbrev pub names_in_use : Head → List Hold → List Wait → List Name
names_in_use head holds waits = ordered head (map (λ h. h.name) holds ++ map (λ x. x.name) waits)

-- a hold's line
abbrev pub line_of_hold : Hold → LockLine
line_of_hold h = record { name = h.name; conn = h.conn; mode = h.mode; state = LockState.Granted }

-- a wait's line: Converting where its connection holds the name
abbrev pub line_of_wait : List Hold → Wait → LockLine
line_of_wait holds x =
    record { name = x.name; conn = x.conn; mode = x.target; state = if is_held holds x.conn x.name then Converting else LockState.Waiting }

-- at a name the holders stand by connection, then the waiters in queue order
abbrev pub lines_at : Head → List Hold → List Wait → Name → List LockLine
lines_at head holds waits n =
    map line_of_hold (filter_map (λ c. hold_on holds c n) (conns head)) ++ map (line_of_wait holds) (queue waits n)

-- the lines of all names in use
abbrev pub snapshot : Head → List Hold → List Wait → List LockLine
snapshot head holds waits = flat_map (lines_at head holds waits) (names_in_use head holds waits)
