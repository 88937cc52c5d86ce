use Rattle.iso_locklist.specs.Places.{line_at}
use Rattle.iso_locklist.proofs.Holding.{lines_cancelled}
use Rattle.iso_locklist.proofs.list.LockList.cancel.Goals as goal

pub returns-clause-lists : goal.returns-clause-lists
returns-clause-lists c = λ hs xs are.
    lines_cancelled hs xs (λ n. line_at c.args.self.now.places n) (λ n. line_at c.work.new.self.places n) are c.args.conn c.work.ensures.lines
