use Rattle.iso_state.proofs.FactsAlong.{facts-of}
use Rattle.iso_state.proofs.LockReads.{one-wait}
use Rattle.iso_state.specs.Stands.{world_of}
use Rattle.iso_state.proofs.locks.can_claim.Goals as goal

pub returns : goal.returns
returns c =
    let p = c.args.parts.now in
    c.can_claim.ensures (world_of p).holds (world_of p).waits c.requires.stands.parts.locks (one-wait p.head (world_of p) (facts-of c.requires.stands.stands) c.args.conn)
