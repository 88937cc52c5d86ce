use Rattle.std.proofs.Common.{◌≡◌, ◌∙◌, ap, subst, drop, List, ◌+◌}
use Rattle.std.proofs.Math.ListN.{get_or}
use Rattle.iso_director.proofs.Leads.{halt-made, line-made, pair-made}
use Rattle.iso_director.specs.Turns.{HasLineTaken, HasMade, due_step}
use Rattle.iso_director.specs.declared.director.Led.TheVariants.{Ran}
use Rattle.iso_director.specs.declared.taking.Taken.{Taken}
use Rattle.iso_script.specs.declared.script.Line.{Line}
use Rattle.iso_state.specs.Stands.{world_of}
use Rattle.iso_types.specs.declared.head.Head.{Head}
use Rattle.iso_director.proofs.director.Director.take_next.Goals as goal

pub returns-in-Line-clause-made : goal.returns-in-Line-clause-made
returns-in-Line-clause-made c =
    let p = c.args.parts.now in
    let k = c.args.self.now.taken in
    let s = c.args.script.now in
    let l = c.index-as_slice-self.result in
    let old = p.history.items in
    let new = c.take.new.parts.history.items in
    let is : l ≡ get_or s.lines k l = c.index-as_slice-self.is ∙ ap (λ (ls : List Line). get_or ls k l) c.as_slice.ensures in
    subst (λ (h : Head). HasMade h (world_of p) (drop k s.lines) (drop (k + 1) s.lines) old new Ran) c.requires.head
    (line-made p.head (world_of p) s.lines k l old new c.requires.open c.requires.going c.requires.acyclic c.requires.left is
    (subst (λ (t : Taken). HasLineTaken p.head (world_of p) (due_step p.head (world_of p) l) old new t) c.in-Line.is c.take.ensures.taken))

pub returns-in-Stop-clause-made : goal.returns-in-Stop-clause-made
returns-in-Stop-clause-made c =
    let p = c.args.parts.now in
    let k = c.args.self.now.taken in
    let s = c.args.script.now in
    let l = c.index-as_slice-self.result in
    let old = p.history.items in
    let new = c.take.new.parts.history.items in
    let is : l ≡ get_or s.lines k l = c.index-as_slice-self.is ∙ ap (λ (ls : List Line). get_or ls k l) c.as_slice.ensures in
    subst (λ (h : Head). HasMade h (world_of p) (drop k s.lines) (drop k s.lines) old new Ran) c.requires.head
    (halt-made p.head (world_of p) s.lines k l old new c.requires.open c.requires.going c.requires.acyclic c.requires.left is
    (subst (λ (t : Taken). HasLineTaken p.head (world_of p) (due_step p.head (world_of p) l) old new t) c.in-Stop.is c.take.ensures.taken))

pub returns-in-Pair-clause-made : goal.returns-in-Pair-clause-made
returns-in-Pair-clause-made c =
    let p = c.args.parts.now in
    let k = c.args.self.now.taken in
    let s = c.args.script.now in
    let l = c.index-as_slice-self.result in
    let old = p.history.items in
    let new = c.take.new.parts.history.items in
    let is : l ≡ get_or s.lines k l = c.index-as_slice-self.is ∙ ap (λ (ls : List Line). get_or ls k l) c.as_slice.ensures in
    subst (λ (h : Head). HasMade h (world_of p) (drop k s.lines) (drop k s.lines) old new Ran) c.requires.head
    (pair-made p.head (world_of p) s.lines k l old new c.requires.open c.requires.going c.requires.acyclic c.requires.left is
    (subst (λ (t : Taken). HasLineTaken p.head (world_of p) (due_step p.head (world_of p) l) old new t) c.in-Pair.is c.take.ensures.taken))
