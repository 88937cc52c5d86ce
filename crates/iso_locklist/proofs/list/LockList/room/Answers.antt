use Rattle.std.proofs.Common.{◌≡◌, ◌∙◌, true, subst, ap, ℕ}
use Rattle.iso_locklist.specs.Places.{Ledger, are_apart, names, room_by}
use Rattle.iso_locklist.proofs.Holding.{taken_shown, total_shown}
use Rattle.iso_locklist.specs.Places.{all_taken}
use Rattle.iso_queue.specs.Limits as limits
use Rattle.iso_locklist.proofs.list.LockList.room.Goals as goal

pub returns : goal.returns
returns c = λ head hs xs are of_head.
    c.room_at.ensures
    ∙ ap (λ (n : ℕ). room_by n (all_taken c.args.self.now.places) c.args.self.now.share c.args.self.now.slots c.args.more) (taken_shown c.args.self.now.places (subst (λ (l : Ledger). are_apart (names l.places) ≡ true) c.self.view_is c.self.invariant.apart) hs xs are c.args.conn (of_head.single c.args.conn))
    ∙ ap (λ (n : ℕ). room_by (limits.taken hs xs c.args.conn) n c.args.self.now.share c.args.self.now.slots c.args.more) (total_shown c.args.self.now.places (subst (λ (l : Ledger). are_apart (names l.places) ≡ true) c.self.view_is c.self.invariant.apart) hs xs are head of_head)
