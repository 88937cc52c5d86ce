use Rattle.std.proofs.Common.{rules, arith, ◌≡◌, ℕ, ◌+◌, ◌-◌, [], ◌∷◌, ◌++◌, length, sym, ap, ◌∙◌, subst, length-append}
use Rattle.std.proofs.lemmas.Grind.{common_steps}
use Rattle.iso_latch.specs.Sent.{Promised}
use Rattle.iso_latch.specs.Told.{voices_of}
use Rattle.iso_latch.specs.declared.pass.Pass.{Pass}
use Rattle.iso_latch.specs.declared.tests.Driven.{Driven}
use Rattle.iso_latch.specs.declared.tests.log.Log.{Log}
use Rattle.iso_latch.proofs.Deals.{dealt_fewer}
use Rattle.iso_latch.proofs.Sents.{promised_more}
use Rattle.iso_latch.proofs.tests.fn.drive_all.scope.Goals as goal

abbrev given : Driven → Pass Log
given d = d.0.value

pub spawn_with-started-requires-clause-runs : goal.spawn_with-started-requires-clause-runs
spawn_with-started-requires-clause-runs g c κs within = let inv = c.loop-one.invariant in let items : c.loop-one.passes.items ≡ c.pop.new.self.items ++ c.in-Some.one ∷ [] = search rules in
    let d = dealt_fewer c.captures.latch.now.table.shared.table_id c.loop-one.passes.items c.pop.new.self.items c.in-Some.one items inv.dealt in let len : length c.pop.new.self.items ≡ c.len-conn.result = search rules in (d.1, d.2 ∙ ap (λ (k : ℕ). (k + 1) ∷ []) len)

pub loop-one-preserved : goal.loop-one-preserved
loop-one-preserved g c = let inv = c.loop-one.invariant in let id = c.captures.latch.now.table.shared.table_id in let n : ℕ = length c.captures.passes.items in
    let items : c.loop-one.passes.items ≡ c.pop.new.self.items ++ c.in-Some.one ∷ [] = search rules in let long = ap length items ∙ length-append c.pop.new.self.items (c.in-Some.one ∷ []) in
    let d = dealt_fewer id c.loop-one.passes.items c.pop.new.self.items c.in-Some.one items inv.dealt in let count = inv.count in
    let pushed : c.push.new.self.items ≡ c.loop-one.children.items ++ c.in_ok-ok.field-0 ∷ [] = search rules in let longer = ap length pushed ∙ length-append c.loop-one.children.items (c.in_ok-ok.field-0 ∷ []) in
    let back : length c.pop.new.self.items + 1 ≡ n - length c.loop-one.children.items = omega arith in
    let is : c.in_ok-ok.field-0.promise.0.value ≡ c.in-Some.one = (first_of (search rules, grind (arith, common_steps))) in record {
      count = omega arith;
      dealt = d.0;
      left = subst (Promised given id n) (sym pushed) (promised_more given id n c.loop-one.children.items c.in_ok-ok.field-0 inv.left (ap (λ (p : Pass Log). p.seat.table_id) is ∙ d.1) (ap (λ (p : Pass Log). voices_of p.seat) is ∙ (d.2 ∙ ap (λ (k : ℕ). k ∷ []) back)));
    }
