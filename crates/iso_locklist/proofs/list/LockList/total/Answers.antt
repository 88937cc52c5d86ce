use Rattle.std.proofs.Common.{◌≡◌, ◌∙◌, true, subst}
use Rattle.iso_locklist.specs.Places.{Ledger, are_apart, names}
use Rattle.iso_locklist.proofs.Holding.{total_shown}
use Rattle.iso_locklist.proofs.list.LockList.total.Goals as goal

pub returns : goal.returns
returns c = λ head hs xs are of_head.
    c.total_at.ensures ∙ total_shown c.args.self.now.places (subst (λ (l : Ledger). are_apart (names l.places) ≡ true) c.self.view_is c.self.invariant.apart) hs xs are head of_head
