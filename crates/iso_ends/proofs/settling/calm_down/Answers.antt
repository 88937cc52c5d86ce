use Rattle.std.proofs.Common.{[], refl}
use Rattle.iso_ends.proofs.DoubtSets.{calm-of, filled-kept, filled-known, known-dropped, known-filled}
use Rattle.iso_ends.specs.Doubts.{Known, known_of}
use Rattle.iso_key.specs.Pages.{entries}
use Rattle.iso_state.specs.Stands.{world_of}
use Rattle.iso_ends.proofs.settling.calm_down.Goals as goal

pub returns-then-settle : goal.returns-then-settle
returns-then-settle c =
    let p = c.args.parts.now in
    let i = c.args.index in
    let pair = c.args.pair.now in
    let d = c.args.doubt.now in
    let x : Known = known_of d in
    let y : Known = record { pairs = entries d.pairs; keys = c.settle.new.keys; parked = entries d.parked; by = d.by } in
    let z : Known = record { pairs = entries c.remove.new.self; keys = c.settle.new.keys; parked = entries d.parked; by = d.by } in
    known-dropped p.head (world_of p) i y z pair (c.settle.ensures.keeps.kept c.if-settle.true) c.remove.ensures.entries refl refl refl
    (filled-known p.head (world_of p) i y
    (filled-kept p.head (world_of p) i x y pair [] c.settle.result (c.requires.known.there pair c.requires.there) refl refl refl c.settle.ensures.keeps
    (λ e. calm-of p.head (world_of p) i c.args.def.now pair.0 pair.1 c.requires.def (c.settle.ensures.calm e))
    (known-filled p.head (world_of p) i x [] c.requires.known)))

pub park-requires-clause-known : goal.park-requires-clause-known
park-requires-clause-known c =
    let p = c.args.parts.now in
    let i = c.args.index in
    let pair = c.args.pair.now in
    let d = c.args.doubt.now in
    let x : Known = known_of d in
    let y : Known = record { pairs = entries d.pairs; keys = c.settle.new.keys; parked = entries d.parked; by = d.by } in
    filled-known p.head (world_of p) i y
    (filled-kept p.head (world_of p) i x y pair [] c.settle.result (c.requires.known.there pair c.requires.there) refl refl refl c.settle.ensures.keeps
    (λ e. calm-of p.head (world_of p) i c.args.def.now pair.0 pair.1 c.requires.def (c.settle.ensures.calm e))
    (known-filled p.head (world_of p) i x [] c.requires.known))
