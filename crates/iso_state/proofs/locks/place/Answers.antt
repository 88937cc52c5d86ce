use Rattle.std.proofs.Common.{◌∙◌, sym}
use Rattle.iso_state.proofs.LockWrites.{placed-are}
use Rattle.iso_state.specs.Stands.{world_of}
use Rattle.iso_state.proofs.locks.place.Goals as goal

pub returns-in-Ok-clause-ok : goal.returns-in-Ok-clause-ok
returns-in-Ok-clause-ok c =
    let p = c.args.parts.now in
    placed-are p.head (world_of p) c.args.conn c.args.name.now c.args.mode c.args.term c.request.new.self
    (c.in-Ok.ensures.lists (world_of p).holds (world_of p).waits c.requires.stands.parts.locks c.requires.idle)
    (sym c.covered.ensures ∙ c.if-covered.false) c.requires.granted
