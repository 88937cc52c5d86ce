use Rattle.std.proofs.Common.{rules, arith, ◌≡◌, ℕ, [], ◌∷◌, ◌++◌, length, sym, ap, ◌∙◌, subst, length-append}
use Rattle.iso_latch.specs.Dealt.{Dealt}
use Rattle.iso_latch.specs.declared.pass.Pass.{Pass}
use Rattle.iso_latch.specs.declared.tests.Driven.{Driven}
use Rattle.iso_latch.specs.declared.tests.log.Log.{Log}
use Rattle.iso_latch.proofs.Sents.{promised_fewer, comes_back}
use Rattle.iso_latch.proofs.tests.join_all.Goals as goal

abbrev given : Driven → Pass Log
given d = d.0.value

pub loop-child-preserved : goal.loop-child-preserved
loop-child-preserved g c = let inv = c.loop-child.invariant in let id = c.args.latch.now.table.shared.table_id in let n : ℕ = length c.args.children.items in
    let items : c.loop-child.children.items ≡ c.pop.new.self.items ++ c.in-Some.child ∷ [] = search rules in let long = ap length items ∙ length-append c.pop.new.self.items (c.in-Some.child ∷ []) in
    let p = promised_fewer given id n c.loop-child.children.items c.pop.new.self.items c.in-Some.child items inv.left in let count = inv.count in
    let pushed : c.push.new.self.items ≡ c.loop-child.passes.items ++ c.join.result ∷ [] = search rules in let longer = ap length pushed ∙ length-append c.loop-child.passes.items (c.join.result ∷ []) in record {
      count = omega arith;
      left = p.0;
      dealt = subst (Dealt id) (sym pushed) (comes_back given id n c.pop.new.self.items c.in-Some.child c.loop-child.passes.items c.join.result (omega arith) (p.1, p.2) c.join.ensures inv.dealt);
    }
