use Rattle.iso_history.specs.Entries.{entries_of}
use Rattle.iso_state.specs.Stands.{world_of}
use Rattle.iso_ends.proofs.PurgeSteps.{keys-are}
use Rattle.iso_ends.proofs.PurgeWalks.{none-without}
use Rattle.iso_ends.proofs.doubts.least_of.Goals as goal

pub least_in-requires-clause-keys : goal.least_in-requires-clause-keys
least_in-requires-clause-keys c = keys-are c.args.parts.now c.requires.stands c.args.index c.in-Some-get.keys.now c.in-Some-get.ensures.value

pub returns-in-None-clause-least : goal.returns-in-None-clause-least
returns-in-None-clause-least c =
    let p = c.args.parts.now in
    none-without p.head (world_of p) c.args.index (entries_of (world_of p) c.args.index) c.in-None.ensures.value
