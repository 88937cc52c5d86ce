use Rattle.std.proofs.Common.{sym}
use Rattle.iso_state.specs.Stands.{world_of}
use Rattle.iso_pace.proofs.Victims.{first-one, member-there, members-some, one-more}
use Rattle.iso_pace.proofs.deadlocks.youngest.Goals as goal

pub member-youngest-requires : goal.member-youngest-requires
member-youngest-requires c = let p = c.args.parts.now in members-some p.head (world_of p) c.args.cycle.now c.requires.chosen

pub loop-at-init : goal.loop-at-init
loop-at-init c =
    let p = c.args.parts.now in
    first-one p.head (world_of p) c.args.cycle.now c.member-youngest.result c.requires.chosen (sym c.member-youngest.ensures)

pub younger-youngest-requires-clause-second : goal.younger-youngest-requires-clause-second
younger-youngest-requires-clause-second c =
    let p = c.args.parts.now in
    member-there p.head (world_of p) c.args.cycle.now c.loop-at.at c.member.result c.requires.chosen (sym c.member.ensures)

pub loop-at-preserved : goal.loop-at-preserved
loop-at-preserved c =
    let p = c.args.parts.now in
    one-more p.head (world_of p) c.args.cycle.now c.loop-at.at c.loop-at.youngest c.member.result c.younger-youngest.result c.requires.chosen
    (sym c.member.ensures) c.loop-at.invariant c.younger-youngest.ensures
