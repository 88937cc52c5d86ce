use Rattle.std.proofs.Common.{◌∙◌, sym}
use Rattle.iso_state.specs.Stands.{world_of}
use Rattle.iso_director.proofs.Endings.{ended-all}
use Rattle.iso_director.proofs.director.end.Goals as goal

pub returns-in-Finished-clause-ended : goal.returns-in-Finished-clause-ended
returns-in-Finished-clause-ended c =
    let p = c.args.parts.now in
    ended-all p.head (world_of p) p.history.items c.close_next.new.parts.history.items (sym c.close_next.ensures.answer ∙ c.in-Finished.is)
    c.close_next.ensures.ok
