use Rattle.std.proofs.Common.{◌∙◌, sym}
use Rattle.iso_state.specs.Stands.{world_of}
use Rattle.iso_pace.proofs.Waits.{few-none, none-on}
use Rattle.iso_pace.proofs.cycles.lies_on_cycle.Goals as goal

pub returns-else-two_wait : goal.returns-else-two_wait
returns-else-two_wait c =
    let p = c.args.parts.now in
    sym (none-on p.head (world_of p) (few-none p c.requires.stands (sym c.two_wait.ensures ∙ c.if-two_wait.false)) c.args.conn)
