use Rattle.std.proofs.Common.{◌∙◌}
use Rattle.iso_locklist.specs.Places.{line_at}
use Rattle.iso_locklist.proofs.Placings.{grants_shown}
use Rattle.iso_locklist.proofs.list.LockList.would_grant.Goals as goal

pub returns : goal.returns
returns c = λ hs xs are idle. c.grants_at.ensures ∙ grants_shown hs xs (line_at c.args.self.now.places) are c.args.conn c.args.name c.args.mode idle
