use Rattle.iso_state.specs.Stands.{world_of}
use Rattle.iso_trials.proofs.OwnsAlong.{due-if}
use Rattle.iso_trials.proofs.guards.due_table.Goals as goal

pub returns : goal.returns
returns c = due-if c.own_of.result.due ((world_of c.args.parts.now).due c.args.conn) c.table_of.result c.own_of.ensures.due c.table_of.ensures
