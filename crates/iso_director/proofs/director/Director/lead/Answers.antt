use Rattle.std.proofs.Common.{◌∙◌, ℕ, drop, sym, subst}
use Rattle.iso_director.proofs.Leads.{none-cycle, victim-made}
use Rattle.iso_director.specs.Turns.{HasMade}
use Rattle.iso_director.specs.declared.director.Led.TheVariants.{Ran}
use Rattle.iso_ends.specs.Doubts.{AreKept}
use Rattle.iso_ends.specs.declared.doubts.Doubts.{Doubts}
use Rattle.iso_state.specs.Stands.{world_of}
use Rattle.iso_types.specs.declared.head.Head.{Head}
use Rattle.iso_director.proofs.director.Director.lead.Goals as goal

pub returns-then-is_cyclic-clause-made : goal.returns-then-is_cyclic-clause-made
returns-then-is_cyclic-clause-made c =
    let p = c.args.parts.now in
    let lines = c.args.script.now.lines in
    let ls = drop c.args.self.now.taken lines in
    let new = c.end_deadlock.new.parts.history.items in
    subst (λ (n : ℕ). HasMade c.args.script.now.head (world_of p) ls (drop n lines) p.history.items new Ran) (sym c.is_cyclic.ensures.taken)
    (subst (λ (h : Head). HasMade h (world_of p) ls ls p.history.items new Ran) c.requires.head
    (victim-made p.head (world_of p) ls p.history.items new c.requires.open (sym c.is_cyclic.ensures.answer ∙ c.if-is_cyclic.true)
    c.end_deadlock.ensures.ok))

pub go_on-requires-clause-acyclic : goal.go_on-requires-clause-acyclic
go_on-requires-clause-acyclic c =
    let p = c.args.parts.now in
    none-cycle p.head (world_of p) p.history.items p.history.items (sym c.is_cyclic.ensures.answer ∙ c.if-is_cyclic.false)

pub returns-clause-made : goal.returns-clause-made
returns-clause-made c =
    let p = c.args.parts.now in
    let s = c.args.script.now in
    let rest = drop c.go_on.new.self.taken s.lines in
    subst (λ (n : ℕ). HasMade s.head (world_of p) (drop n s.lines) rest p.history.items c.go_on.new.parts.history.items c.go_on.result)
    c.is_cyclic.ensures.taken c.go_on.ensures.made

pub returns-then-is_cyclic-clause-kept : goal.returns-then-is_cyclic-clause-kept
returns-then-is_cyclic-clause-kept c =
    let p = c.args.parts.now in
    subst (λ (d : Doubts). AreKept p.head p.history.items d) (sym c.is_cyclic.ensures.doubts) c.requires.kept

pub go_on-requires-clause-kept : goal.go_on-requires-clause-kept
go_on-requires-clause-kept c =
    let p = c.args.parts.now in
    subst (λ (d : Doubts). AreKept p.head p.history.items d) (sym c.is_cyclic.ensures.doubts) c.requires.kept
