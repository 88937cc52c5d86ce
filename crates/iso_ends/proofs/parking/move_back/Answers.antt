use Rattle.std.proofs.Common.{refl}
use Rattle.iso_ends.proofs.DoubtSets.{known-moved}
use Rattle.iso_ends.specs.Doubts.{Known, known_of}
use Rattle.iso_key.specs.Pages.{entries}
use Rattle.iso_ends.proofs.parking.move_back.Goals as goal

pub returns : goal.returns
returns c head w i k =
    let d = c.args.doubt.now in
    let y : Known = record { pairs = entries c.add.new.pairs; keys = d.keys; parked = entries c.remove.new.self; by = d.by } in
    known-moved head w i (known_of d) y c.args.pair.now c.requires c.in_ok-add.ensures refl c.remove.ensures.entries refl k
