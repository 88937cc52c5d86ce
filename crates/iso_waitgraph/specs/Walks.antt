-- Walks along edges to a connection, and how far away from it the others are.
use Rattle.std.specs.Prelude.{◌≡◌, ℕ, zero, suc, ◌<◌, ◌↔◌, Bool, true, List, [], ◌∷◌, length, slice_index_or}
use Rattle.iso_types.specs.Cycles.{IsUpTo, Leads}
use Rattle.iso_types.specs.Edges.{has_edge, leads}
use Rattle.iso_types.specs.declared.edges.Edges.{Edges}
use Rattle.iso_types.specs.declared.value.Conn.{Conn}

-- a walk of so many edges leads from the connection to the end
abbrev pub Walk : (Conn → Conn → Bool) → Conn → ℕ → Conn → Type 0
Walk edge end zero v = v ≡ end
Walk edge end (suc k) v = (w : Conn) × (edge v w ≡ true) × Walk edge end k w

-- the shortest walk from the connection to the end has so many edges
pub record IsAway (edge : Conn → Conn → Bool) (end : Conn) (k : ℕ) (v : Conn) : Type 0 where
  pub walk : Walk edge end k v
  pub no_less : (j : ℕ) → j < k → Walk edge end j v → ⊥

-- each connection to which there is an edge is at least so far away
abbrev pub IsNoNearer : (Conn → Conn → Bool) → Conn → ℕ → Conn → Type 0
IsNoNearer edge end k v = (w : Conn) (j : ℕ) → edge v w ≡ true → j < k → Walk edge end j w → ⊥

-- the first of the list is so far away, and each next one is nearer by an edge, down to one edge
abbrev pub Falls : (Conn → Conn → Bool) → Conn → ℕ → List Conn → Type 0
Falls edge end zero [] = Unit {0}
Falls edge end zero (d ∷ ds) = ⊥
Falls edge end (suc k) [] = ⊥
Falls edge end (suc k) (d ∷ ds) = IsAway edge end (suc k) d × Falls edge end k ds

-- the least way on from a connection to the end, over k others
pub record IsLeastWay (edge : Conn → Conn → Bool) (end at : Conn) (k : ℕ) (ds : List Conn) : Type 0 where
  pub falls : Falls edge end k ds
  pub way : Leads edge at ds end
  pub least : (es : List Conn) → Leads edge at es end → length es ≡ k → IsUpTo ds es

-- the set at this place of a list of sets
abbrev pub set_at : List Edges → ℕ → Edges
set_at sets k = slice_index_or sets k (record { 0 = 0 })

-- the connection has an edge into the set
abbrev pub LeadsInto : List Edges → Edges → Conn → Type 0
LeadsInto sets set v = (w : Conn) × (leads sets v w ≡ true) × (has_edge set w ≡ true)

-- the sets are those of the connections that are 0, 1, 2 .. edges away
abbrev pub AreLevels : List Edges → Conn → List Edges → ℕ → Type 0
AreLevels sets end levels n = (k : ℕ) (v : Conn) → k < n → (has_edge (set_at levels k) v ≡ true) ↔ IsAway (leads sets) end k v
