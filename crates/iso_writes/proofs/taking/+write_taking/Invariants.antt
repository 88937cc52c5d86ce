use Rattle.std.proofs.Common.{◌-◌, length}
use Rattle.iso_writes.proofs.taking.+write_taking.Given as goal

abbrev pub decreases-write_taking : goal.decreases-write_taking
decreases-write_taking l = length l.asks.now - l.at
