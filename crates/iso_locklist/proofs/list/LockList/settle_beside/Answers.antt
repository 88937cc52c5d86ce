use Rattle.std.proofs.Common.{◌∙◌}
use Rattle.iso_lines.specs.Tasks.{is_spared}
use Rattle.iso_lines.specs.declared.lines.Change.{Change}
use Rattle.iso_locklist.specs.Places.{line_at}
use Rattle.iso_locklist.proofs.Holding.{lines_beside}
use Rattle.iso_locklist.proofs.Registered.{done_else}
use Rattle.iso_types.specs.Ids.{name_eq}
use Rattle.iso_locklist.proofs.list.LockList.settle_beside.Goals as goal

pub returns-clause-lists : goal.returns-clause-lists
returns-clause-lists c = λ hs xs are.
    lines_beside hs xs (λ n. line_at c.args.self.now.places n) (λ n. line_at c.work.new.self.places n) are c.args.conn c.args.spare c.args.placed
    (λ n. c.work.ensures.lines n ∙ done_else (name_eq c.args.placed n) (Change.Settle (is_spared c.args.spare n)) c.args.conn (line_at c.args.self.now.places n))
