use Rattle.std.proofs.Common.{◌∙◌, sym}
use Rattle.iso_state.specs.Stands.{world_of}
use Rattle.iso_pace.proofs.Waits.{acting-unquiet}
use Rattle.iso_pace.proofs.resting.quiet.Goals as goal

pub returns-then-not-none_acts : goal.returns-then-not-none_acts
returns-then-not-none_acts c =
    let p = c.args.parts.now in
    sym (acting-unquiet p.head (world_of p) (sym c.none_acts.ensures ∙ c.if-not-none_acts.true))
