use Rattle.iso_history.proofs.facts.Shares.{shares-world}
use Rattle.iso_state.specs.Stands.{world_of}
use Rattle.iso_writes.proofs.Judged.{delete-judged}
use Rattle.iso_writes.proofs.judging.is_delete_past.Goals as goal

pub returns : goal.returns
returns c =
    let p = c.args.parts.now in
    delete-judged p.head (world_of p) c.args.conn (shares-world p.head p.history.items c.requires.stands.stands.ground) c.is_log_full.result c.is_log_full.ensures
