use Rattle.std.proofs.Common.{◌∙◌}
use Rattle.iso_lines.specs.Tasks.{is_within}
use Rattle.iso_lines.specs.declared.lines.Change.{Change}
use Rattle.iso_locklist.specs.Places.{line_at}
use Rattle.iso_locklist.proofs.Holding.{lines_collapsed}
use Rattle.iso_locklist.proofs.Registered.{done_if}
use Rattle.iso_locklist.proofs.list.LockList.collapse.Goals as goal

pub returns-clause-lists : goal.returns-clause-lists
returns-clause-lists c = λ head hs xs tables are.
    let ts = c.args.self.now.index_tables in
    lines_collapsed hs xs (λ n. line_at c.args.self.now.places n) (λ n. line_at c.work.new.self.places n) are c.args.conn head ts tables c.args.table
    (λ n. c.work.ensures.lines n ∙ done_if (is_within ts c.args.table n) Change.Release c.args.conn (line_at c.args.self.now.places n))
