use Rattle.std.proofs.Common.{◌≡◌, drop}
use Rattle.iso_uow.specs.Book.{lesser, oldest_of}
use Rattle.iso_uow.proofs.units.oldest_in.Given as goal

abbrev pub invariant-loop-work : goal.invariant-loop-work
invariant-loop-work l = lesser l.oldest (oldest_of (drop l.work-index l.works)) ≡ oldest_of l.works
