use Rattle.std.proofs.lemmas.Bool.{ltb-true}
use Rattle.iso_director.proofs.Tries.{expire-tried}
use Rattle.iso_state.specs.Stands.{world_of}
use Rattle.iso_director.proofs.taking.take_expire.Goals as goal

pub expire-requires-clause-conn : goal.expire-requires-clause-conn
expire-requires-clause-conn c = ltb-true _ _ (c.requires.line.conn c.args.conn c.requires.conn)

pub returns-clause-tried : goal.returns-clause-tried
returns-clause-tried c =
    let p = c.args.parts.now in
    expire-tried p.head (world_of p) p.history.items c.expire.new.parts.history.items c.expire.result c.args.line.now c.args.conn
    c.requires.line c.requires.going c.requires.asks c.requires.conn c.expire.ensures.answer c.expire.ensures.full c.expire.ensures.ok c.expire.ensures.due
