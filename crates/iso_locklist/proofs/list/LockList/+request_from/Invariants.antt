use Rattle.std.proofs.Common.{◌-◌, length}
use Rattle.iso_locklist.proofs.list.LockList.+request_from.Given as goal

abbrev pub decreases-request_from : goal.decreases-request_from
decreases-request_from l = length l.requests.now - l.at
