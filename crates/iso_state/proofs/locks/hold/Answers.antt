use Rattle.iso_state.specs.Stands.{world_of}
use Rattle.iso_state.proofs.locks.hold.Goals as goal

pub returns : goal.returns
returns c =
    let p = c.args.parts.now in
    c.held.ensures (world_of p).holds (world_of p).waits c.requires.stands.parts.locks
