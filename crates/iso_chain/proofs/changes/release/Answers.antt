use Rattle.std.proofs.Common.{◌<◌, ℕ, refl, subst}
use Rattle.std.proofs.lemmas.List.{length-map}
use Rattle.iso_chain.specs.Logs.{record_at}
use Rattle.iso_chain.specs.Views.{bare}
use Rattle.iso_chain.proofs.Lines.{goes-first, goes-none, next-of}
use Rattle.iso_chain.proofs.changes.release.Goals as goal
use Rattle.iso_rebuild.proofs.Rebuilds.{depth-falls}

pub loop-at-init : goal.loop-at-init
loop-at-init c = goes-first c.args.log.now.records (bare c.args.tables.now) c.args.last c.requires.line

pub record_of-note-requires : goal.record_of-note-requires
record_of-note-requires c =
    (next-of c.args.log.now.records c.loop-at.at c.in-Some.number (record_at c.args.log.now.records c.in-Some.number)
    (bare c.loop-at.tables) _ c.in-Some.is refl
    (c.loop-at.invariant c.requires.line.0 c.requires.line.1)).number

pub clear_slot-requires-clause-table : goal.clear_slot-requires-clause-table
clear_slot-requires-clause-table c = subst (λ (n : ℕ). c.record_of-note.result.now.table.0 < n) (length-map c.loop-at.tables _)
    (next-of c.args.log.now.records c.loop-at.at c.in-Some.number c.record_of-note.result.now (bare c.loop-at.tables) _ c.in-Some.is c.record_of-note.ensures
    (c.loop-at.invariant c.requires.line.0 c.requires.line.1)).table

pub clear_slot-requires-clause-rid : goal.clear_slot-requires-clause-rid
clear_slot-requires-clause-rid c =
    (next-of c.args.log.now.records c.loop-at.at c.in-Some.number c.record_of-note.result.now (bare c.loop-at.tables) _ c.in-Some.is c.record_of-note.ensures
    (c.loop-at.invariant c.requires.line.0 c.requires.line.1)).rid

pub loop-at-smaller : goal.loop-at-smaller
loop-at-smaller c = depth-falls c.loop-at.at _ c.in-Some.number c.in-Some.is
    (next-of c.args.log.now.records c.loop-at.at c.in-Some.number c.record_of-note.result.now (bare c.loop-at.tables) _ c.in-Some.is c.record_of-note.ensures
    (c.loop-at.invariant c.requires.line.0 c.requires.line.1)).falls

pub loop-at-preserved : goal.loop-at-preserved
loop-at-preserved c ns k =
    (next-of c.args.log.now.records c.loop-at.at c.in-Some.number c.record_of-note.result.now (bare c.loop-at.tables) _ c.in-Some.is c.record_of-note.ensures
    (c.loop-at.invariant ns k)).rest _ c.clear_slot.ensures

pub returns : goal.returns
returns c ns k = goes-none c.args.log.now.records c.loop-at.at _ _ c.in_default.is (c.loop-at.invariant ns k)
