use Rattle.std.proofs.Common.{◌≡◌, List, ℕ, get_or, drop, arith, refl, subst, sym, ◌∙◌}
use Rattle.iso_grammar.specs.Lex.{tokens, token_at}
use Rattle.iso_grammar.proofs.LexLemmas.{one_more, rest_of_line}
use Rattle.iso_grammar.proofs.lex.tokens_of.Goals as goal

pub loop-at-init : goal.loop-at-init
unfolding tokens
loop-at-init c = record { within = omega arith; so_far = rw c.new-found.ensures refl }

pub loop-at-preserved : goal.loop-at-preserved
loop-at-preserved c = record {
  within = omega arith;
  so_far = one_more c.args.line.now c.loop-at.at c.loop-at.after_name c.is_name-after_name.result c.token_at-kind.result _ c.loop-at.found c.push.new.self (tokens c.args.line.now)
      c.loop-at-test.true (sym c.is_blank.ensures ∙ c.if-is_blank.false) (subst (λ (l : List ℕ). c.token_at-kind.result ≡ token_at c.loop-at.after_name (get_or l 0 0) (drop 1 l)) (rest_of_line c.args.line.now c.loop-at.at) c.token_at-kind.ensures.found) c.token_at-kind.ensures.some refl c.is_name-after_name.ensures c.in_ok-push.ensures.ok c.loop-at.invariant.so_far;
}
