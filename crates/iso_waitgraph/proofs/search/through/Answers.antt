use Rattle.std.proofs.Common.{◌≡◌, length, arith}
use Rattle.iso_types.specs.Edges.{leads}
use Rattle.iso_waitgraph.proofs.Chosen.{no-cycle, no-nearer, way-chosen}
use Rattle.iso_waitgraph.proofs.search.through.Goals as goal

pub walk_back-requires-clause-on : goal.walk_back-requires-clause-on
unfolding leads
walk_back-requires-clause-on c =
    let near = c.in-Some.ensures in
    (near.1.0, near.1.1, (c.levels-levels.ensures c.in-Some.last near.1.0 near.0).0 near.1.2)

pub walk_back-requires-clause-nearest : goal.walk_back-requires-clause-nearest
unfolding leads
walk_back-requires-clause-nearest c =
    let near = c.in-Some.ensures in
    no-nearer c.args.edges.now c.args.start c.levels-levels.result c.in-Some.last (omega (arith, near.0)) c.levels-levels.ensures near.2

pub returns-in-Some : goal.returns-in-Some
unfolding leads
returns-in-Some c =
    let near = c.in-Some.ensures in
    let edge = leads c.args.edges.now in
    let way = c.walk_back.ensures in
    rw way.1 (way-chosen edge c.args.start c.in-Some.last way.0 way.2
    (no-nearer c.args.edges.now c.args.start c.levels-levels.result c.in-Some.last (omega (arith, near.0)) c.levels-levels.ensures near.2)
    c.requires.least)

pub returns-in-None : goal.returns-in-None
unfolding leads
returns-in-None c =
    let full : length c.args.edges.now ≡ 32 = c.told-edges in
    no-cycle c.args.edges.now c.args.start c.levels-levels.result full c.levels-levels.ensures c.in-None.ensures
