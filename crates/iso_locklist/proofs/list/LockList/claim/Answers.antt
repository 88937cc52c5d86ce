use Rattle.std.proofs.Common.{◌≡◌, ◌∙◌, List, Bool, false, ap, subst, sym}
use Rattle.std.specs.Prelude.{if◌then◌else◌}
use Rattle.iso_locklist.specs.Holding.{LocksAre}
use Rattle.iso_locklist.specs.Lists.{claimed_waits}
use Rattle.iso_locklist.specs.Places.{line_at}
use Rattle.iso_locklist.proofs.Placings.{claimed_are}
use Rattle.iso_locklist.proofs.Registered.{claimed_stuck, grantable_nowhere, stuck_holds, stuck_waits}
use Rattle.iso_queue.specs.Locks.{Hold}
use Rattle.iso_queue.specs.Queues.{Wait, is_grantable}
use Rattle.iso_queue.specs.declared.types.Claimed.{Claimed}
use Rattle.iso_locklist.proofs.list.LockList.claim.Goals as goal

pub returns-then-can_claim_at-clause-lists : goal.returns-then-can_claim_at-clause-lists
returns-then-can_claim_at-clause-lists c = λ hs xs are single.
    claimed_are hs xs (line_at c.args.self.now.places) (line_at c.work.new.self.places) are c.args.conn single
    (sym (c.can_claim_at.ensures.told hs xs are single) ∙ c.if-can_claim_at.true) c.work.ensures.lines

pub returns-then-can_claim_at-clause-told : goal.returns-then-can_claim_at-clause-told
returns-then-can_claim_at-clause-told c = λ hs xs are single.
    ap (λ (b : Bool). if b then Claimed.Granted else Claimed.NotYet) (sym c.if-can_claim_at.true ∙ c.can_claim_at.ensures.told hs xs are single)

pub returns-else-can_claim_at-clause-lines : goal.returns-else-can_claim_at-clause-lines
returns-else-can_claim_at-clause-lines c = λ n.
    let none : c.can_claim_at.result ≡ false = c.if-can_claim_at.false in
    sym (claimed_stuck (line_at c.args.self.now.places n) c.args.conn (grantable_nowhere c.args.self.now.places c.args.conn (sym c.can_claim_at.ensures.answer ∙ none) n))

pub returns-else-can_claim_at-clause-lists : goal.returns-else-can_claim_at-clause-lists
returns-else-can_claim_at-clause-lists c = λ hs xs are single.
    let stuck : is_grantable hs xs c.args.conn ≡ false = sym (c.can_claim_at.ensures.told hs xs are single) ∙ c.if-can_claim_at.false in
    subst (λ (gs : List Hold). LocksAre gs (claimed_waits hs xs c.args.conn) c.args.self.now) (sym (stuck_holds hs xs c.args.conn stuck))
    (subst (λ (ys : List Wait). LocksAre hs ys c.args.self.now) (sym (stuck_waits hs xs c.args.conn stuck)) are)

pub returns-else-can_claim_at-clause-told : goal.returns-else-can_claim_at-clause-told
returns-else-can_claim_at-clause-told c = λ hs xs are single.
    ap (λ (b : Bool). if b then Claimed.Granted else Claimed.NotYet) (sym c.if-can_claim_at.false ∙ c.can_claim_at.ensures.told hs xs are single)
