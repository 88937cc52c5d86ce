use Rattle.iso_state.specs.Stands.{world_of}
use Rattle.iso_state.proofs.locks.covered.Goals as goal

pub returns : goal.returns
returns c =
    let p = c.args.parts.now in
    c.covered.ensures p.head (world_of p).holds (world_of p).waits c.requires.stands.limits.index_tables c.requires.stands.parts.locks
