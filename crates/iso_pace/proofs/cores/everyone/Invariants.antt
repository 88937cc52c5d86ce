use Rattle.std.proofs.Common.{◌≡◌, ◌<◌, true}
use Rattle.iso_types.specs.Edges.{has_edge}
use Rattle.iso_types.specs.declared.value.Conn.{Conn}
use Rattle.iso_pace.proofs.cores.everyone.Given as goal

abbrev pub invariant-loop-place : goal.invariant-loop-place
invariant-loop-place l = (v : Conn) → v.0 < l.place → has_edge l.all v ≡ true
