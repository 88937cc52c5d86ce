use Rattle.iso_pace.proofs.Peels.{none-judged}
use Rattle.iso_types.specs.Edges.{leads}
use Rattle.iso_pace.proofs.cores.cycle_of.Goals as goal

pub returns-else-may_be_cyclic : goal.returns-else-may_be_cyclic
returns-else-may_be_cyclic c targets all h =
    none-judged (leads c.args.edges.now) targets all h (c.may_be_cyclic.ensures c.if-may_be_cyclic.false)
