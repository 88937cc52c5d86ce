use Rattle.std.proofs.Common.{◌≡◌, take, Bor}
use Rattle.std.specs.List.{flat_map}
use Rattle.iso_lines.specs.Named.{line_of}
use Rattle.iso_locklist.specs.Places.{place}
use Rattle.iso_locklist.specs.Snapshots.{lines_of}
use Rattle.iso_types.specs.declared.value.Name.{Name}
use Rattle.iso_locklist.proofs.snapshot.list_lines.Given as goal

abbrev pub invariant-loop-name : goal.invariant-loop-name
invariant-loop-name l = l.lines ≡ flat_map (λ (n : Bor Name). lines_of l.head (place n.now (line_of l.register.lines n.now))) (take l.name-index l.names)
