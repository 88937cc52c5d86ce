use Rattle.std.proofs.Common.{◌≡◌, ◌<◌, ◌↔◌, true}
use Rattle.iso_types.specs.Edges.{has_edge}
use Rattle.iso_types.specs.declared.value.Conn.{Conn}
use Rattle.iso_waitgraph.specs.Walks.{LeadsInto}
use Rattle.iso_pace.proofs.cores.leading_into.Given as goal

abbrev pub invariant-loop-place : goal.invariant-loop-place
invariant-loop-place l = (v : Conn) → (has_edge l.found v ≡ true) ↔ ((v.0 < l.place) × LeadsInto l.edges l.set v)
