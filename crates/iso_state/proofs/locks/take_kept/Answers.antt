use Rattle.iso_locklist.specs.Lists.{asked_for}
use Rattle.iso_modes.specs.declared.Term.TheVariants.{Kept}
use Rattle.iso_queue.specs.Locks.{placed}
use Rattle.iso_state.specs.Stands.{world_of}
use Rattle.iso_state.proofs.locks.take_kept.Goals as goal

pub returns-clause-ok : goal.returns-clause-ok
returns-clause-ok c =
    let p = c.args.parts.now in
    c.settle.ensures.lists (placed p.head (world_of p).holds c.args.conn (asked_for c.args.name.now c.args.mode Kept)) (world_of p).waits c.in_ok-place.ensures.ok
