use Rattle.std.proofs.Common.{◌∙◌, sym}
use Rattle.iso_state.specs.Stands.{world_of}
use Rattle.iso_trials.proofs.Known.{waits-stops}
use Rattle.iso_trials.proofs.lines.stops_waiting.Goals as goal

pub returns-then-is_in : goal.returns-then-is_in
returns-then-is_in c = λ held.
    let p = c.args.parts.now in
    waits-stops p.head (world_of p) c.args.conn (c.is_in.ensures.conn c.if-is_in.true) (c.is_in.ensures.phase c.if-is_in.true)
    (sym c.can_claim.ensures ∙ held)
