use Rattle.iso_state.specs.Stands.{world_of}
use Rattle.iso_trials.proofs.Known.{runs-stops}
use Rattle.iso_trials.proofs.lines.stops_running.Goals as goal

pub returns : goal.returns
returns c = λ held.
    let p = c.args.parts.now in
    runs-stops p.head (world_of p) c.args.conn (c.is_in.ensures.conn held) (c.is_in.ensures.phase held)
