use Rattle.std.proofs.Common.{◌∙◌, ap}
use Rattle.iso_locklist.specs.Places.{Ledger, is_grantable_in}
use Rattle.iso_locklist.proofs.Edges.{told_claim}
use Rattle.iso_locklist.proofs.Registered.{are_lines, told_grantable}
use Rattle.iso_lines.specs.Named.{line_of}
use Rattle.iso_locklist.proofs.list.LockList.can_claim_at.Goals as goal

pub returns-clause-answer : goal.returns-clause-answer
returns-clause-answer c =
    c.is_some.ensures ∙ told_grantable c.self.inside.register.lines c.self.invariant.apart c.args.conn c.claimable.result c.claimable.ensures.some c.claimable.ensures.none
    ∙ ap (λ (l : Ledger). is_grantable_in l.places c.args.conn) c.self.view_is

pub returns-clause-told : goal.returns-clause-told
returns-clause-told c = λ hs xs are single.
    let lines = c.self.inside.register.lines in
    c.is_some.ensures
    ∙ told_claim hs xs (line_of lines) (are_lines hs xs lines c.args.self.now.places (ap (λ (l : Ledger). l.places) c.self.view_is) are) c.args.conn single
    c.claimable.result c.claimable.ensures.some c.claimable.ensures.none
