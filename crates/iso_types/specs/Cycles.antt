-- The cycles of edges between connections, and the one that is chosen (this project's own).
use Rattle.std.specs.List.{list_any}
use Rattle.std.specs.Prelude.{◌≡◌, ℕ, zero, suc, ◌<◌, ◌≤◌, Bool, true, false, not, List, [], ◌∷◌, map, reverse, length, is_some, Some, None, filter, find, flat_map, Option, ◌⊎◌}
use Rattle.iso_types.specs.Ids.{conn_eq}
use Rattle.iso_types.specs.declared.value.Conn.{Conn}

-- Edges are a test of two connections: the first has an edge to the second.

-- the connection is one of these
abbrev pub is_among : Conn → List Conn → Bool
is_among c cs = list_any (conn_eq c) cs

-- the connections are different
abbrev pub AreDifferent : List Conn → Type 0
AreDifferent [] = Unit {0}
AreDifferent (c ∷ cs) = (is_among c cs ≡ false) × AreDifferent cs

-- the connection has an edge to the first of the list, each of the list to the next, and the last to the end
abbrev pub Leads : (Conn → Conn → Bool) → Conn → List Conn → Conn → Type 0
Leads edge c [] end = edge c end ≡ true
Leads edge c (d ∷ ds) end = (edge c d ≡ true) × Leads edge d ds end

-- a cycle: different connections, each with an edge to the next and the last to the first
abbrev pub IsCycle : (Conn → Conn → Bool) → List Conn → Type 0
IsCycle edge [] = ⊥
IsCycle edge (c ∷ cs) = AreDifferent (c ∷ cs) × Leads edge c cs c

-- the first list does not come after the second: at the first place where they differ it has the lesser connection
abbrev pub IsUpTo : List Conn → List Conn → Type 0
IsUpTo [] _ = Unit {0}
IsUpTo (c ∷ cs) [] = ⊥
IsUpTo (c ∷ cs) (d ∷ ds) = (c.0 < d.0) ⊎ ((c ≡ d) × IsUpTo cs ds)

-- a cycle through the connection, shortest among these, and its list least among the shortest
pub record IsShortestThrough (edge : Conn → Conn → Bool) (c : Conn) (p : List Conn) : Type 0 where
  pub cycle : IsCycle edge p
  pub through : is_among c p ≡ true
  pub shortest : (q : List Conn) → IsCycle edge q → is_among c q ≡ true → length p ≤ length q
  pub least : (q : List Conn) → IsCycle edge q → is_among c q ≡ true → length q ≡ length p → IsUpTo p q

-- the connection is the least that lies on a cycle
pub record IsLeastOnCycle (edge : Conn → Conn → Bool) (c : Conn) : Type 0 where
  pub on : (q : List Conn) × IsCycle edge q × (is_among c q ≡ true)
  pub least : (q : List Conn) (d : Conn) → IsCycle edge q → is_among d q ≡ true → c.0 ≤ d.0

-- the chosen cycle
abbrev pub IsChosen : (Conn → Conn → Bool) → List Conn → Type 0
IsChosen edge p = (c : Conn) × IsLeastOnCycle edge c × IsShortestThrough edge c p

-- there is no cycle
abbrev pub HasNoCycle : (Conn → Conn → Bool) → Type 0
HasNoCycle edge = (q : List Conn) → IsCycle edge q → ⊥

-- The same by trying paths in order, over the connections and their edges as lists, as a history is judged by it.

-- A path of different connections, each with an edge to the next, stands last connection first.
-- the paths that are one longer, in order
abbrev pub longer : (Conn → List Conn) → List Conn → List (List Conn)
longer edges [] = []
longer edges (d ∷ ds) = map (λ e. e ∷ d ∷ ds) (filter (λ e. not (is_among e (d ∷ ds))) (edges d))

-- the last has an edge to the first
abbrev pub closes : (Conn → List Conn) → Conn → List Conn → Bool
closes edges c [] = false
closes edges c (d ∷ ds) = is_among c (edges d)

-- the first path that closes, among the shortest that do
abbrev pub shortest : (Conn → List Conn) → Conn → ℕ → List (List Conn) → Option (List Conn)
shortest edges c zero paths = None
shortest edges c (suc k) paths =
    elim (find (closes edges c) paths) [ None ↦ shortest edges c k (flat_map (longer edges) paths) | Some p ↦ Some (reverse p) ]

-- the shortest cycle through a connection, and among these the one whose list is least
abbrev pub cycle_through : (Conn → List Conn) → List Conn → Conn → Option (List Conn)
cycle_through edges all c = shortest edges c (length all) ((c ∷ []) ∷ [])

-- the cycle through the least connection that lies on one
abbrev pub first_cycle : (Conn → List Conn) → List Conn → List Conn → Option (List Conn)
first_cycle edges all [] = None
first_cycle edges all (c ∷ cs) = elim (cycle_through edges all c) [ None ↦ first_cycle edges all cs | Some p ↦ Some p ]

-- the chosen cycle, or none where there is no cycle
abbrev pub chosen_cycle : (Conn → List Conn) → List Conn → Option (List Conn)
chosen_cycle edges all = first_cycle edges all all

-- the connection lies on a cycle
abbrev pub is_on_cycle : (Conn → List Conn) → List Conn → Conn → Bool
is_on_cycle edges all c = is_some (cycle_through edges all c)
