use Rattle.std.proofs.Common.{◌∷◌, refl}
use Rattle.iso_ends.proofs.DoubtSets.{calm-of, filled-added, filled-kept, filled-taken}
use Rattle.iso_ends.specs.Doubts.{Known, known_of}
use Rattle.iso_key.specs.Pages.{entries}
use Rattle.iso_state.specs.Stands.{world_of}
use Rattle.iso_ends.proofs.settling.take_in.Goals as goal

pub returns-then-settle : goal.returns-then-settle
returns-then-settle c left f =
    let p = c.args.parts.now in
    let i = c.args.index in
    let pair = c.args.pair.now in
    let d = c.args.doubt.now in
    let x : Known = known_of d in
    let y : Known = record { pairs = entries d.pairs; keys = c.settle.new.keys; parked = entries d.parked; by = d.by } in
    filled-taken p.head (world_of p) i y pair left (c.settle.ensures.keeps.kept c.if-settle.true)
    (filled-kept p.head (world_of p) i x y pair (pair ∷ left) c.settle.result c.requires.there refl refl refl c.settle.ensures.keeps
    (λ e. calm-of p.head (world_of p) i c.args.def.now pair.0 pair.1 c.requires.def (c.settle.ensures.calm e)) f)

pub returns : goal.returns
returns c left f =
    let p = c.args.parts.now in
    let i = c.args.index in
    let pair = c.args.pair.now in
    let d = c.args.doubt.now in
    let x : Known = known_of d in
    let y : Known = record { pairs = entries d.pairs; keys = c.settle.new.keys; parked = entries d.parked; by = d.by } in
    let z : Known = record { pairs = entries c.add.new.pairs; keys = c.settle.new.keys; parked = entries d.parked; by = d.by } in
    filled-added p.head (world_of p) i y z pair left c.requires.there c.in_ok-add.ensures refl refl refl
    (filled-kept p.head (world_of p) i x y pair (pair ∷ left) c.settle.result c.requires.there refl refl refl c.settle.ensures.keeps
    (λ e. calm-of p.head (world_of p) i c.args.def.now pair.0 pair.1 c.requires.def (c.settle.ensures.calm e)) f)
