use Rattle.iso_state.specs.Stands.{world_of}
use Rattle.iso_state.proofs.locks.grants.Goals as goal

pub returns : goal.returns
returns c =
    let p = c.args.parts.now in
    c.would_grant.ensures (world_of p).holds (world_of p).waits c.requires.stands.parts.locks c.requires.idle
