use Rattle.std.proofs.Common.{◌≡◌, ◌<◌, true, ℕ}
use Rattle.iso_types.specs.Edges.{has_edge}
use Rattle.iso_types.specs.declared.value.Conn.{Conn}
use Rattle.iso_waitgraph.specs.Walks.{set_at}
use Rattle.iso_waitgraph.proofs.search.nearest.Given as goal

abbrev pub invariant-loop-k : goal.invariant-loop-k
invariant-loop-k l =
    (j : ℕ) (w : Conn) → j < l.k → has_edge l.targets w ≡ true → has_edge (set_at l.levels j) w ≡ true → ⊥
