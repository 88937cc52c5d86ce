use Rattle.std.proofs.Common.{◌∙◌, sym}
use Rattle.iso_state.specs.Stands.{world_of}
use Rattle.iso_pace.proofs.Victims.{victim-there, victim-waits}
use Rattle.iso_pace.proofs.deadlocks.detect.Goals as goal

pub end_deadlock-requires-clause-conn : goal.end_deadlock-requires-clause-conn
end_deadlock-requires-clause-conn c =
    let p = c.args.parts.now in
    victim-there p.head (world_of p) c.in-Some.cycle c.youngest-conn.result (sym c.chosen.ensures ∙ c.in-Some.is) c.youngest-conn.ensures

pub end_deadlock-requires-clause-waits : goal.end_deadlock-requires-clause-waits
end_deadlock-requires-clause-waits c =
    victim-waits c.args.parts.now c.in-Some.cycle c.youngest-conn.result c.requires.stands (sym c.chosen.ensures ∙ c.in-Some.is) c.youngest-conn.ensures
