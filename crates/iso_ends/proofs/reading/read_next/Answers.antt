use Rattle.iso_ends.specs.Doubts.{known_of}
use Rattle.iso_ends.proofs.reading.read_next.Goals as goal

pub returns : goal.returns
returns c = (known_of c.free.new.doubt, c.in_ok-free.ensures, c.in_ok-read_entry.ensures)
