use Rattle.iso_serial.proofs.Alone.{one-seeded}
use Rattle.iso_serial.proofs.laws.one_history_is_seeded.Goals as goal

pub returns : goal.returns
returns c = one-seeded
