use Rattle.std.proofs.Common.{◌∙◌}
use Rattle.iso_locklist.specs.Places.{line_at}
use Rattle.iso_locklist.proofs.Holding.{hold_shown}
use Rattle.iso_locklist.proofs.Lists.{covered_shown}
use Rattle.iso_locklist.proofs.list.LockList.covered.Goals as goal

pub returns : goal.returns
returns c = λ head hs xs tables are.
    c.is_covered_at.ensures
    ∙ covered_shown c.args.self.now head hs c.args.conn c.args.name c.args.mode (λ k. hold_shown hs xs (line_at c.args.self.now.places) are c.args.conn k) tables
