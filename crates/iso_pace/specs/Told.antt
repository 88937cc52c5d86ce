-- How far the sets of edges are told, and how far a victim is found.
use Rattle.std.specs.Prelude.{◌≡◌, ◌<◌, ◌≤◌, ℕ, false, length, List, Some}
use Rattle.iso_history.specs.Phases.{victim}
use Rattle.iso_history.specs.Quiet.{edges_in}
use Rattle.iso_history.specs.World.{World}
use Rattle.iso_types.specs.Cycles.{is_among}
use Rattle.iso_types.specs.Edges.{leads}
use Rattle.iso_types.specs.declared.edges.Edges.{Edges}
use Rattle.iso_types.specs.declared.head.Head.{Head}
use Rattle.iso_types.specs.declared.value.Conn.{Conn}

-- the sets of the first k connections are their edges, and those of the others are empty
pub record AreToldTo (head : Head) (w : World) (k : ℕ) (sets : List Edges) : Type 0 where
  pub done : (c d : Conn) → c.0 < k → leads sets c d ≡ is_among d (edges_in head w c)
  pub rest : (c d : Conn) → k ≤ c.0 → leads sets c d ≡ false

-- of these members the connection is the one that a deadlock would end, and it is the head's
pub record IsYoungestOf (head : Head) (w : World) (members : List Conn) (c : Conn) : Type 0 where
  pub youngest : victim w members ≡ Some c
  pub there : c.0 < length head.conns
