use Rattle.std.proofs.Common.{◌∙◌}
use Rattle.iso_locklist.specs.Places.{line_at}
use Rattle.iso_locklist.proofs.Holding.{guard_shown}
use Rattle.iso_locklist.proofs.list.LockList.others_hold.Goals as goal

pub returns : goal.returns
returns c = λ hs xs are.
    c.is_guarded_at.ensures ∙ guard_shown hs xs (line_at c.args.self.now.places) are c.args.conn c.args.name
