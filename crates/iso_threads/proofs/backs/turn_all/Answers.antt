use Rattle.std.proofs.Common.{rules, ◌≡◌, [], ◌∷◌, ◌++◌, sym, ◌∙◌, subst}
use Rattle.iso_threads.specs.Backs.{AllBack}
use Rattle.iso_threads.proofs.Returned.{all-snoc, all_first, voices-moved}
use Rattle.iso_threads.proofs.backs.turn_all.Goals as goal

pub turn-back-requires-clause-back : goal.turn-back-requires-clause-back
turn-back-requires-clause-back g c = let items : c.loop-back.here.items ≡ c.pop.new.self.items ++ c.in-Some.back ∷ [] = search rules in
    (all_first c.args.latch.now.table.shared.table_id c.args.script.now c.pop.new.self.items c.in-Some.back
    (subst (AllBack c.args.latch.now.table.shared.table_id c.args.script.now) items c.loop-back.invariant.left)).1

pub loop-back-preserved : goal.loop-back-preserved
loop-back-preserved g c =
    let inv = c.loop-back.invariant in
    let id = c.args.latch.now.table.shared.table_id in
    let items : c.loop-back.here.items ≡ c.pop.new.self.items ++ c.in-Some.back ∷ [] = search rules in
    let pushed = c.push_reserved.ensures in
    record {
      left = (all_first id c.args.script.now c.pop.new.self.items c.in-Some.back (subst (AllBack id c.args.script.now) items inv.left)).0;
      done = subst (AllBack id c.args.script.now) (sym pushed.items)
          (all-snoc id c.args.script.now c.loop-back.there.items c.turn-back.result.0 inv.done c.turn-back.ensures.back);
      count = search rules;
      room = (c.pop.ensures.capacity ∙ inv.room.0, pushed.capacity ∙ inv.room.1);
      voices = λ x. voices-moved x c.loop-back.here.items c.pop.new.self.items c.loop-back.there.items c.push_reserved.new.self.items c.in-Some.back
          c.turn-back.result.0 items pushed.items c.turn-back.ensures.conn ∙ inv.voices x;
    }
