use Rattle.iso_serial.proofs.Alone.{one-run}
use Rattle.iso_serial.proofs.laws.one_history_is_scheduled.Goals as goal

pub returns : goal.returns
returns c = one-run
