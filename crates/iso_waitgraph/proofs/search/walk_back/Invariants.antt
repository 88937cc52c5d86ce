use Rattle.std.proofs.Common.{◌≡◌, ◌+◌, ◌<◌, ◌≤◌, true, length}
use Rattle.iso_types.specs.Edges.{leads}
use Rattle.iso_types.specs.declared.value.Conn.{Conn}
use Rattle.iso_waitgraph.specs.Walks.{IsAway, IsNoNearer}
use Rattle.iso_waitgraph.proofs.Ways.{Completes}
use Rattle.iso_waitgraph.proofs.search.walk_back.Given as goal

abbrev pub invariant-loop-left : goal.invariant-loop-left
invariant-loop-left l = record {
  within : l.at.0 < 32;
  short : l.left ≤ l.last;
  room : length l.cycle + l.left ≡ l.last + 1;
  on : (w : Conn) × (leads l.edges l.at w ≡ true) × IsAway (leads l.edges) l.fn.start l.left w;
  nearest : IsNoNearer (leads l.edges) l.fn.start l.left l.at;
  ways : Completes (leads l.edges) l.fn.start l.last l.at l.left l.cycle;
}

abbrev pub decreases-loop-left : goal.decreases-loop-left
decreases-loop-left l = l.left
