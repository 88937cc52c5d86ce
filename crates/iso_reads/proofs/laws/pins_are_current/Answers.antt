use Rattle.iso_reads.proofs.Current.{only-current}
use Rattle.iso_reads.proofs.laws.pins_are_current.Goals as goal

pub returns : goal.returns
returns c head w conn t r want sound table may granted beside = only-current head w conn t r want sound table may granted beside
