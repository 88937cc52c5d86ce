use Rattle.iso_state.specs.Stands.{world_of}
use Rattle.iso_trials.proofs.OwnsAlong.{looked-if}
use Rattle.iso_trials.proofs.guards.looked_at.Goals as goal

pub returns : goal.returns
returns c = looked-if ((world_of c.args.parts.now).last c.args.conn) c.own_of.result.looked c.own_of.ensures.looked
