use Rattle.std.proofs.Common.{◌≡◌, ◌++◌, drop}
use Rattle.std.specs.Prelude.{map}
use Rattle.iso_render.specs.Fields.{spaced}
use Rattle.iso_render.specs.Texts.{conn_name}
use Rattle.iso_render.proofs.acts.put_cycle.Given as goal

abbrev pub invariant-loop-at : goal.invariant-loop-at
invariant-loop-at l =
    l.out.items ++ spaced (map (conn_name l.head) (drop l.at l.cycle)) ≡ l.fn.out.items ++ spaced (map (conn_name l.head) l.cycle)
