use Rattle.std.proofs.Common.{rules, arith, ◌≡◌, ℕ, ◌+◌, [], ◌∷◌, ◌++◌, length, sym, ap, ◌∙◌, subst, length-append}
use Rattle.iso_latch.specs.Dealt.{Dealt, Fresh}
use Rattle.iso_latch.specs.Seen.{has}
use Rattle.iso_latch.proofs.Voices.{has_kept, some_of}
use Rattle.iso_latch.proofs.Deals.{dealt_more, fresh_more}
use Rattle.iso_latch.proofs.pass.Latch.deal.Goals as goal

pub split-rest-requires-clause-other : goal.split-rest-requires-clause-other
split-rest-requires-clause-other g c = some_of 0 _ (has_kept (c.loop-i.i + 1) 0 _ c.loop-i.invariant.first (λ e. omega arith))

pub loop-i-preserved : goal.loop-i-preserved
loop-i-preserved g c = let inv = c.loop-i.invariant in let v = c.split-rest.ensures.voices in let of = c.split-rest.ensures.of in let head = c.split-rest.ensures.head in let seen = c.split-rest.ensures.seen in let i : ℕ = c.loop-i.i in let n = inv.count in
    let items : c.push.new.self.items ≡ c.loop-i.passes.items ++ c.split-rest.result.1 ∷ [] = search rules in record {
      of = of.0 ∙ inv.of;
      head = head.0 ∙ inv.head;
      seen = seen.0 ∙ inv.seen;
      count = ap length items ∙ (length-append c.loop-i.passes.items (c.split-rest.result.1 ∷ []) ∙ ap (λ k. k + 1) n);
      dealt = subst (Dealt c.args.pass.seat.table_id) (sym items) (dealt_more c.args.pass.seat.table_id c.loop-i.passes.items c.split-rest.result.1 inv.dealt (of.1 ∙ inv.of) (v.1 ∙ ap (λ k. (k + 1) ∷ []) (sym n)));
      fresh = subst (Fresh c.args.pass.seat) (sym items) (fresh_more c.args.pass.seat c.loop-i.passes.items c.split-rest.result.1 inv.fresh (head.1 ∙ inv.head) (seen.1 ∙ inv.seen));
      first = ap (has 0) v.0 ∙ has_kept (i + 1) 0 _ inv.first (λ e. omega arith);
      others = λ x low high. ap (has x) v.0 ∙ has_kept (i + 1) x _ (inv.others x (omega arith) high) (λ e. omega arith);
    }
