use Rattle.std.proofs.Common.{◌≡◌, take}
use Rattle.std.specs.Prelude.{map}
use Rattle.iso_types.specs.declared.head.IndexDef.{IndexDef}
use Rattle.iso_locklist.proofs.covering.index_tables.Given as goal

abbrev pub invariant-loop-index : goal.invariant-loop-index
invariant-loop-index l = l.tables ≡ map (λ (d : IndexDef). d.table) (take l.index-index l.indexes)
