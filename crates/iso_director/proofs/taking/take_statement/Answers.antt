use Rattle.iso_state.specs.Stands.{world_of}
use Rattle.iso_director.proofs.Tries.{statement-tried}
use Rattle.std.proofs.lemmas.Bool.{ltb-true}
use Rattle.iso_director.proofs.taking.take_statement.Goals as goal

pub returns-clause-tried : goal.returns-clause-tried
returns-clause-tried c =
    let p = c.args.parts.now in
    statement-tried p.head (world_of p) p.history.items c.dispatch.new.parts.history.items c.dispatch.result c.args.line.now c.args.conn
    c.requires.going c.requires.asks c.requires.conn c.dispatch.ensures.answer c.dispatch.ensures.full c.dispatch.ensures.ok c.dispatch.ensures.due

pub dispatch-requires-clause-conn : goal.dispatch-requires-clause-conn
dispatch-requires-clause-conn c = ltb-true _ _ (c.requires.line.conn c.args.conn c.requires.conn)
