use Rattle.std.proofs.Common.{◌≡◌, ◌∙◌, ℕ, List, ap, sym}
use Rattle.std.proofs.Math.ListN.{get_or}
use Rattle.iso_director.proofs.Ables.{takes-own, takes-pair}
use Rattle.iso_script.specs.declared.script.Line.{Line}
use Rattle.iso_state.specs.Stands.{world_of}
use Rattle.iso_director.proofs.director.Director.can_go_on.Goals as goal

pub returns-then-can_purge-clause-takes : goal.returns-then-can_purge-clause-takes
returns-then-can_purge-clause-takes c =
    let p = c.args.parts.now in
    takes-pair p.head (world_of p) c.args.script.now.lines c.args.self.now.taken c.requires.going c.requires.left
    (sym c.can_purge.ensures.purges ∙ c.if-can_purge.true)

pub returns-clause-takes : goal.returns-clause-takes
returns-clause-takes c =
    let p = c.args.parts.now in
    let s = c.args.script.now in
    let k = c.args.self.now.taken in
    let l = c.index-as_slice-self.result in
    let is : l ≡ get_or s.lines k l =
    c.index-as_slice-self.is
    ∙ (ap (λ (ls : List Line). get_or ls c.can_purge.new.self.taken l) c.as_slice.ensures
    ∙ ap (λ (n : ℕ). get_or s.lines n l) c.can_purge.ensures.taken) in
    c.can_take.ensures
    ∙ takes-own p.head (world_of p) s.lines k l c.requires.going c.requires.left is (sym c.can_purge.ensures.purges ∙ c.if-can_purge.false)
