use Rattle.std.proofs.Common.{◌-◌, length}
use Rattle.iso_writes.proofs.keying.+write_from.Given as goal

abbrev pub decreases-write_from : goal.decreases-write_from
decreases-write_from l = length l.parts.now.head.indexes - l.at
