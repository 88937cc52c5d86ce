use Rattle.std.proofs.Common.{◌≡◌, ◌≤◌, true, List}
use Rattle.iso_types.specs.Cycles.{IsCycle, is_among}
use Rattle.iso_types.specs.Edges.{leads}
use Rattle.iso_types.specs.declared.value.Conn.{Conn}
use Rattle.iso_waitgraph.proofs.search.cycle.Given as goal

abbrev pub invariant-loop-start : goal.invariant-loop-start
invariant-loop-start l =
    (q : List Conn) (d : Conn) → IsCycle (leads l.edges) q → is_among d q ≡ true → l.start ≤ d.0
