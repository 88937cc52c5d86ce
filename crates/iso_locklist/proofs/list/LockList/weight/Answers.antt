use Rattle.std.proofs.Common.{◌≡◌, ◌∙◌, true, subst}
use Rattle.iso_locklist.specs.Places.{Ledger, are_apart, names}
use Rattle.iso_locklist.proofs.Weighed.{weight_shown}
use Rattle.iso_locklist.proofs.list.LockList.weight.Goals as goal

pub returns : goal.returns
returns c = λ head hs xs tables are single.
    c.weight_at.ensures
    ∙ weight_shown head c.args.self.now.index_tables tables c.args.conn c.args.table c.args.self.now.places
    (subst (λ (l : Ledger). are_apart (names l.places) ≡ true) c.self.view_is c.self.invariant.apart) hs xs are single
