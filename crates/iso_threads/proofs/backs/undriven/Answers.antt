use Rattle.std.proofs.Common.{refl}
use Rattle.iso_threads.proofs.Firsts.{new-back}
use Rattle.iso_threads.proofs.backs.undriven.Goals as goal

pub returns-clause-back : goal.returns-clause-back
returns-clause-back c =
    let e = c.new.ensures in
    new-back c.args.latch.now.table.shared.table_id c.args.script.now _ c.new.result refl c.requires.pass c.requires.within c.requires.fresh
    e.conn e.task e.kept
