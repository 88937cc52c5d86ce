use Rattle.std.proofs.Common.{drop, subst, sym}
use Rattle.iso_director.proofs.Taken.{made-taken}
use Rattle.iso_director.specs.Turns.{HasMade}
use Rattle.iso_director.specs.Untied.{WasAcyclic}
use Rattle.iso_ends.specs.Doubts.{AreKept}
use Rattle.iso_history.specs.After.{world}
use Rattle.iso_types.specs.declared.head.Head.{Head}
use Rattle.iso_director.proofs.director.Director.make.Goals as goal

pub returns-clause-taken : goal.returns-clause-taken
returns-clause-taken c =
    let p = c.args.parts.now in
    let s = c.args.script.now in
    let d = c.args.self.now in
    let g = c.lead.new.self in
    let old = p.history.items in
    let new = c.lead.new.parts.history.items in
    made-taken s old new d g c.lead.result c.requires.taken
    (subst (λ (h : Head). HasMade s.head (world h old) (drop d.taken s.lines) (drop g.taken s.lines) old new c.lead.result)
    c.requires.head c.lead.ensures.made)
    (subst (λ (h : Head). AreKept h old g.doubts) c.requires.head c.lead.ensures.kept)
    (subst (λ (h : Head). WasAcyclic h old g.acyclic) c.requires.head c.lead.ensures.acyclic)

pub lead-requires-clause-kept : goal.lead-requires-clause-kept
lead-requires-clause-kept c =
    subst (λ (h : Head). AreKept h c.args.parts.now.history.items c.args.self.now.doubts) (sym c.requires.head) c.requires.taken.kept

pub lead-requires-clause-acyclic : goal.lead-requires-clause-acyclic
lead-requires-clause-acyclic c =
    subst (λ (h : Head). WasAcyclic h c.args.parts.now.history.items c.args.self.now.acyclic) (sym c.requires.head) c.requires.taken.acyclic
