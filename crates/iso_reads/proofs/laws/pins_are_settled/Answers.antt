use Rattle.iso_reads.proofs.Settling.{settled-by}
use Rattle.iso_reads.proofs.laws.pins_are_settled.Goals as goal

pub returns : goal.returns
returns c p conn t r want past stands table may answer = settled-by p stands conn t r want past table may answer
