-- Queues and edges: this project's own. Db2 LUW documents that a request waits for incompatible holders ('Lock waits and timeouts').
use Rattle.std.specs.List.{list_any}
use Rattle.std.specs.Option.{option_map_or}
use Rattle.std.specs.Prelude.{Bool, true, false, not, ◌&&◌, ◌||◌, List, [], ◌∷◌, ◌++◌, map, is_some, if◌then◌else◌, filter, take_while, find, Option}
use Rattle.iso_modes.specs.Modes.{compatible}
use Rattle.iso_modes.specs.declared.Mode.{Mode}
use Rattle.iso_modes.specs.declared.Term.{Term}
use Rattle.iso_queue.specs.Locks.{Hold, is_held}
use Rattle.iso_types.specs.Ids.{conn_eq, name_eq}
use Rattle.iso_types.specs.declared.value.Conn.{Conn}
use Rattle.iso_types.specs.declared.value.Name.{Name}

-- a wait: a name, its connection, the target and the term
pub record Wait : Type 0 where
  pub name : Name
  pub conn : Conn
  pub target : Mode
  pub term : Term

-- the waits of all names stand in one list; the queue of a name
abbrev pub queue : List Wait → Name → List Wait
queue waits n = filter (λ x. name_eq x.name n) waits

-- the wait of the connection
abbrev pub wait_of : List Wait → Conn → Option Wait
wait_of waits c = find (λ x. conn_eq x.conn c) waits

-- the second wait is a new request on the name of the first
abbrev pub is_new_beside : List Hold → Wait → Wait → Bool
is_new_beside holds x y = name_eq y.name x.name && not (is_held holds y.conn y.name)

-- a wait is added before the waiting new requests where its connection holds the name, else last
abbrev pub queued : List Hold → Wait → List Wait → List Wait
queued holds x [] = x ∷ []
queued holds x (y ∷ ys) =
    if is_held holds x.conn x.name && is_new_beside holds x y then x ∷ y ∷ ys else y ∷ queued holds x ys

-- the wait of the connection goes
abbrev pub unqueued : Conn → List Wait → List Wait
unqueued c waits = filter (λ x. not (conn_eq x.conn c)) waits

-- another connection holds the name in a mode that does not go with the target
unfoldable pub opposes : Wait → Hold → Bool
opposes x h = not (conn_eq h.conn x.conn) && (name_eq h.name x.name && not (compatible h.mode x.target))

-- the earlier waiters of the name
abbrev pub ahead : List Wait → Wait → List Wait
ahead waits x = queue (take_while (λ y. not (conn_eq y.conn x.conn)) waits) x.name

-- the connections to which a wait has an edge
abbrev pub blockers : List Hold → List Wait → Wait → List Conn
blockers holds waits x = map (λ h. h.conn) (filter (opposes x) holds) ++ map (λ y. y.conn) (ahead waits x)

-- the wait has an edge
abbrev pub has_edge : List Hold → List Wait → Wait → Bool
has_edge holds waits x = list_any (opposes x) holds || list_any (λ y. true) (ahead waits x)

-- a request not yet made is judged as if it stood last, a conversion as if last of the conversions
abbrev pub would_wait : List Hold → List Wait → Wait → Bool
would_wait holds waits x = has_edge holds (queued holds x waits) x

-- the connection waits
abbrev pub is_waiting : List Wait → Conn → Bool
is_waiting waits c = is_some (wait_of waits c)

-- the connection waits with an edge; it waits and has none
abbrev pub is_stuck : List Hold → List Wait → Conn → Bool
is_stuck holds waits c = option_map_or (has_edge holds waits) (wait_of waits c) false

-- its wait has no edge
abbrev pub is_grantable : List Hold → List Wait → Conn → Bool
is_grantable holds waits c = option_map_or (λ x. not (has_edge holds waits x)) (wait_of waits c) false

-- the edges of a connection, in order of connections
abbrev pub edges : List Conn → List Hold → List Wait → Conn → List Conn
edges all holds waits c =
    option_map_or (λ x. filter (λ d. list_any (conn_eq d) (blockers holds waits x)) all) (wait_of waits c) []
