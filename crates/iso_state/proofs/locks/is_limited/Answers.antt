use Rattle.iso_state.specs.Stands.{world_of}
use Rattle.iso_state.proofs.FactsAlong.{facts-of}
use Rattle.iso_state.proofs.LockReads.{of-head, room-is}
use Rattle.iso_state.proofs.locks.is_limited.Goals as goal

pub returns-in-Free : goal.returns-in-Free
returns-in-Free c =
    let p = c.args.parts.now in
    (room-is p.head (world_of p) p.locks c.args.conn c.args.more c.room.result c.requires.stands.limits
    (c.room.ensures p.head (world_of p).holds (world_of p).waits c.requires.stands.parts.locks
    (of-head p.head (world_of p) (facts-of c.requires.stands.stands) c.requires.stands.fits.conns))).free c.in-Free.is

pub returns-in-AtShare : goal.returns-in-AtShare
returns-in-AtShare c =
    let p = c.args.parts.now in
    (room-is p.head (world_of p) p.locks c.args.conn c.args.more c.room.result c.requires.stands.limits
    (c.room.ensures p.head (world_of p).holds (world_of p).waits c.requires.stands.parts.locks
    (of-head p.head (world_of p) (facts-of c.requires.stands.stands) c.requires.stands.fits.conns))).share c.in-AtShare.is

pub returns-in-AtCapacity : goal.returns-in-AtCapacity
returns-in-AtCapacity c =
    let p = c.args.parts.now in
    (room-is p.head (world_of p) p.locks c.args.conn c.args.more c.room.result c.requires.stands.limits
    (c.room.ensures p.head (world_of p).holds (world_of p).waits c.requires.stands.parts.locks
    (of-head p.head (world_of p) (facts-of c.requires.stands.stands) c.requires.stands.fits.conns))).capacity c.in-AtCapacity.is
