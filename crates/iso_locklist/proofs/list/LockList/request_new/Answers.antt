use Rattle.std.proofs.Common.{subst, sym}
use Rattle.iso_locklist.specs.Holding.{LocksAre}
use Rattle.iso_locklist.specs.Places.{Ledger}
use Rattle.iso_locklist.proofs.Undone.{fault_weaker}
use Rattle.iso_locklist.proofs.list.LockList.request_new.Goals as goal

pub returns-clause-err : goal.returns-clause-err
returns-clause-err c = λ hs xs are idle new.
    fault_weaker c.request_from.result (λ e. subst (λ (l : Ledger). LocksAre hs xs l) (sym e) are) (c.request_from.ensures.err hs xs are idle new)
