use Rattle.std.proofs.Common.{ap, is_some, sym}
use Rattle.iso_history.specs.Entries.{entries_of}
use Rattle.iso_state.specs.Stands.{world_of}
use Rattle.iso_ends.proofs.PurgeSteps.{keys-are}
use Rattle.iso_ends.proofs.StaleWalks.{none-stale}
use Rattle.iso_ends.proofs.doubts.may_be_stale_of.Goals as goal

pub may_be_stale_in-requires-clause-keys : goal.may_be_stale_in-requires-clause-keys
may_be_stale_in-requires-clause-keys c = keys-are c.args.parts.now c.requires.stands c.args.index c.in-Some-get.keys.now c.in-Some-get.ensures.value

pub returns-in-None-clause-fresh : goal.returns-in-None-clause-fresh
returns-in-None-clause-fresh c e =
    let p = c.args.parts.now in
    sym (ap is_some (none-stale p.head (world_of p) c.args.index (entries_of (world_of p) c.args.index) c.in-None.ensures.value))
