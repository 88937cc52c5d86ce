use Rattle.std.proofs.Common.{◌∙◌, ap, sym, is_some}
use Rattle.iso_director.proofs.Leads.{none-cycle}
use Rattle.iso_director.proofs.UntiedAlong.{untied-now}
use Rattle.iso_state.specs.Stands.{world_of}
use Rattle.iso_director.proofs.director.Director.is_cyclic.Goals as goal

pub returns-clause-acyclic : goal.returns-clause-acyclic
returns-clause-acyclic c =
    let p = c.args.parts.now in
    untied-now p.head p.history.items c.len.result c.len.ensures
    (none-cycle p.head (world_of p) p.history.items p.history.items (sym c.cyclic.ensures ∙ c.if-cyclic.false))

pub returns-then-knows_acyclic-clause-answer : goal.returns-then-knows_acyclic-clause-answer
returns-then-knows_acyclic-clause-answer c = sym (ap is_some (c.knows_acyclic.ensures.none c.if-knows_acyclic.true))
