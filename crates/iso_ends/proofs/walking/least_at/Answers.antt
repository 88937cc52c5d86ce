use Rattle.iso_history.specs.Entries.{entries_of}
use Rattle.iso_state.specs.Stands.{world_of}
use Rattle.iso_ends.proofs.PurgeSteps.{keys-are}
use Rattle.iso_ends.proofs.PurgeWalks.{none-without}
use Rattle.iso_ends.proofs.walking.least_at.Goals as goal

pub least_in_all-requires-clause-keys : goal.least_in_all-requires-clause-keys
least_in_all-requires-clause-keys c = keys-are c.args.parts.now c.requires.stands c.args.index c.in-Some-get.keys.now c.in-Some-get.ensures.value

pub returns-in-None : goal.returns-in-None
returns-in-None c =
    let p = c.args.parts.now in
    none-without p.head (world_of p) c.args.index (entries_of (world_of p) c.args.index) c.in-None.ensures.value
