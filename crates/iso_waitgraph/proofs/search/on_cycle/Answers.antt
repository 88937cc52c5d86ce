use Rattle.iso_types.specs.Cycles.{is_on_cycle}
use Rattle.iso_types.specs.Edges.{leads}
use Rattle.iso_waitgraph.proofs.Agree.{on-cycle}
use Rattle.iso_waitgraph.proofs.Chosen.{tells-cycle, same-tests}
use Rattle.iso_waitgraph.proofs.search.on_cycle.Goals as goal

pub returns-clause-on : goal.returns-clause-on
returns-clause-on c =
    tells-cycle c.args.edges.now c.args.conn c.levels.result c.nearest.result c.is_some.result c.told-edges c.levels.ensures c.nearest.ensures c.is_some.ensures

pub returns-clause-judged : goal.returns-clause-judged
returns-clause-judged c = λ targets all h.
    same-tests c.is_some.result (is_on_cycle targets all c.args.conn)
    (tells-cycle c.args.edges.now c.args.conn c.levels.result c.nearest.result c.is_some.result c.told-edges c.levels.ensures c.nearest.ensures c.is_some.ensures)
    (on-cycle (leads c.args.edges.now) targets all h c.args.conn)
