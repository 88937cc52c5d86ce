use Rattle.std.proofs.lemmas.Bool.{ltb-true}
use Rattle.iso_director.proofs.able.has_own_step.Goals as goal

pub takes_statement-requires-clause-conn : goal.takes_statement-requires-clause-conn
takes_statement-requires-clause-conn c = ltb-true _ _ (c.requires.line.conn c.args.conn c.requires.conn)
