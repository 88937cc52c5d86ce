use Rattle.std.proofs.Common.{◌≡◌, ◌<◌, ◌-◌, ◌↔◌, true, ℕ, length}
use Rattle.iso_types.specs.Edges.{has_edge, leads}
use Rattle.iso_types.specs.declared.value.Conn.{Conn}
use Rattle.iso_waitgraph.specs.Walks.{AreLevels, IsAway, Walk}
use Rattle.iso_waitgraph.proofs.search.levels.Given as goal

abbrev pub invariant-loop-k : goal.invariant-loop-k
invariant-loop-k l = record {
  full : length l.levels ≡ 32;
  known : AreLevels l.edges l.fn.end l.levels l.k;
  level : (v : Conn) → (has_edge l.level v ≡ true) ↔ IsAway (leads l.edges) l.fn.end (l.k - 1) v;
  seen : (v : Conn) → (has_edge l.seen v ≡ true) ↔ ((j : ℕ) × (j < l.k) × Walk (leads l.edges) l.fn.end j v);
}
