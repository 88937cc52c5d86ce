use Rattle.std.proofs.Common.{rules, arith, ◌≡◌, ℕ, ◌+◌, ◌<◌, [], ◌∷◌, ◌++◌, length, refl, sym, ap, ◌∙◌, subst, length-append}
use mathlib.Core.Logic.{dite}
use mathlib.Core.Option.{some}
use native.Mathlib.Decide.{ℕ_discrete}
use lib.ListN.{get_elem?}
use Rattle.atomic_table.proofs.Lists.{at_last}
use Rattle.iso_latch.specs.Dealt.{ContinuesFrom}
use Rattle.iso_latch.specs.Seen.{has}
use Rattle.iso_latch.specs.Told.{seen_of, voices_of}
use Rattle.iso_latch.proofs.Voices.{has_left, has_right, has_self, continues_self, continues_fewer}
use Rattle.iso_latch.proofs.Deals.{continues_then, dealt_fewer, one_more, at_left, none_past}
use Rattle.iso_latch.proofs.pass.Latch.gather.Goals as goal

pub meet-pass-requires : goal.meet-pass-requires
meet-pass-requires g c = let inv = c.loop-one.invariant in let items : c.loop-one.passes.items ≡ c.pop.new.self.items ++ c.in-Some.one ∷ [] = search rules in
    let d = dealt_fewer c.args.pass.seat.table_id c.loop-one.passes.items c.pop.new.self.items c.in-Some.one items inv.dealt in record { of = (inv.of.0 ∙ c.requires.of, d.1 ∙ c.requires.of) }

pub loop-one-preserved : goal.loop-one-preserved
loop-one-preserved g c = let inv = c.loop-one.invariant in let items : c.loop-one.passes.items ≡ c.pop.new.self.items ++ c.in-Some.one ∷ [] = search rules in let left = c.pop.new.self.items in let one = c.in-Some.one in
    let mine = voices_of c.loop-one.pass.seat in let d = dealt_fewer c.args.pass.seat.table_id c.loop-one.passes.items left one items inv.dealt in let e = c.meet-pass.ensures in
    let long : length c.loop-one.passes.items ≡ length left + 1 = ap length items ∙ length-append left (one ∷ []) in let few = inv.fewer in
    let still : (k : ℕ) → k < length left → get_elem? c.loop-one.passes.items k ≡ get_elem? left k = λ k low. ap (λ l. get_elem? l k) items ∙ at_left left one k low in
    let at : get_elem? c.args.passes.items (length left) ≡ some one = sym (inv.same (length left) (omega arith)) ∙ (ap (λ l. get_elem? l (length left)) items ∙ at_last left one (length left) refl) in record {
      of = (e.of.0 ∙ inv.of.0, e.of.1 ∙ inv.of.1);
      fewer = omega arith;
      dealt = d.0;
      kept = λ x h. ap (has x) e.voices ∙ has_left x mine (voices_of one.seat) (inv.kept x h);
      first = continues_then (voices_of c.args.pass.seat) (seen_of c.args.pass.seat) (seen_of c.loop-one.pass.seat) (seen_of c.meet-pass.result.seat) inv.first
          (continues_fewer mine (voices_of c.args.pass.seat) (seen_of c.loop-one.pass.seat) (seen_of c.meet-pass.result.seat) inv.kept e.first);
      same = λ k low. sym (still k low) ∙ inv.same k (omega arith);
      met = one_more c.args.passes.items (length left) mine (seen_of c.loop-one.pass.seat) (seen_of c.meet-pass.result.seat) one at d.2
          (λ k low high. inv.others (k + 1) (omega arith) (omega arith)) e.first e.second (subst (λ (n : ℕ). ContinuesFrom n c.args.passes.items (seen_of c.loop-one.pass.seat)) long inv.met);
      others = λ x low high. dite (ℕ_discrete x (length left + 1))
          (λ is. ap (has x) e.voices ∙ has_right x mine (voices_of one.seat) (ap (has x) d.2 ∙ (ap (λ k. has x (k ∷ [])) (sym is) ∙ has_self x)))
          (λ no. ap (has x) e.voices ∙ has_left x mine (voices_of one.seat) (inv.others x (omega arith) high));
    }

pub loop-one-init : goal.loop-one-init
loop-one-init g c = record {
  of = (refl, refl);
  fewer = omega arith;
  dealt = c.requires.dealt;
  kept = λ x h. h;
  first = continues_self (voices_of c.args.pass.seat) (seen_of c.args.pass.seat);
  same = λ k low. refl;
  met = λ k p low e. absurd (none_past c.args.passes.items k p low e);
  others = λ x low high. absurd (omega arith);
}
