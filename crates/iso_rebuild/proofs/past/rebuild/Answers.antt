use Rattle.std.proofs.Common.{ap, sym, ◌∙◌}
use Rattle.std.specs.Option.{option_copied}
use Rattle.iso_record.specs.Undone.{all_undone, shown}
use Rattle.iso_rebuild.specs.Chains.{face_of}
use Rattle.iso_rebuild.proofs.Rebuilds.{Goes, depth-falls, goes-first, goes-there, goes-whole, turns}
use Rattle.iso_rebuild.proofs.past.rebuild.Goals as goal

pub loop-at-init : goal.loop-at-init
loop-at-init c = goes-first c.args.past c.requires.chain

pub undo_on-requires : goal.undo_on-requires
undo_on-requires c = record {
  columns = (turns c.args.past.pin c.loop-at.at c.in-Some.number c.in-Some-item.note.now _ _ c.in-Some.is
      (sym c.item.ensures.value ∙ ap option_copied c.in-Some-item.is) (c.loop-at.invariant c.requires.chain.0 c.requires.chain.1)).columns;
}

pub loop-at-smaller : goal.loop-at-smaller
loop-at-smaller c = depth-falls c.loop-at.at _ c.in-Some.number c.in-Some.is
    (turns c.args.past.pin c.loop-at.at c.in-Some.number c.in-Some-item.note.now _ _ c.in-Some.is
    (sym c.item.ensures.value ∙ ap option_copied c.in-Some-item.is) (c.loop-at.invariant c.requires.chain.0 c.requires.chain.1)).falls

pub loop-at-preserved : goal.loop-at-preserved
loop-at-preserved c whole k = (turns c.args.past.pin c.loop-at.at c.in-Some.number c.in-Some-item.note.now _ _ c.in-Some.is
    (sym c.item.ensures.value ∙ ap option_copied c.in-Some-item.is) (c.loop-at.invariant whole k)).rest _ c.undo_on.ensures.undone

pub unreachable-requires : goal.unreachable-requires
unreachable-requires c =
    nothing (c.loop-at.invariant c.requires.chain.0 c.requires.chain.1)
  where
    nothing : Goes c.args.past.pin c.loop-at.at (record { row = c.loop-at.row; live = c.loop-at.live }) (all_undone c.requires.chain.0 (face_of c.args.past))
        → ⊥
    nothing g = goes-there c.args.past.pin c.loop-at.at c.in-Some.number _ _ c.in-Some.is (sym c.item.ensures.value ∙ ap option_copied c.in-None.is) g

pub returns-then-live : goal.returns-then-live
returns-then-live c = record {
  rebuilt = λ chain k. rw c.if-live.true at (ap shown (goes-whole c.args.past.pin c.loop-at.at _ _ c.in_default.is (c.loop-at.invariant chain k)));
}

pub returns : goal.returns
returns c = record {
  rebuilt = λ chain k. rw c.if-live.false at (ap shown (goes-whole c.args.past.pin c.loop-at.at _ _ c.in_default.is (c.loop-at.invariant chain k)));
}
