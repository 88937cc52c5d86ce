use Rattle.std.proofs.Common.{◌-◌, List, [], ◌∷◌, ◌++◌, ap, sym, ◌∙◌}
use Rattle.std.proofs.lemmas.Result.{err_from_is_err_and}
use Rattle.iso_grammar.specs.declared.token.Kind.TheVariants as k
use Rattle.iso_grammar.specs.declared.token.Token.{Token}
use Rattle.iso_grammar.proofs.Turns.{rest_of, rest_of-first, goes_on, errs_here, stops_here, ends_here}
use Rattle.iso_script.specs.RuleReading.{literal, next_literal, literals}
use Rattle.iso_script.proofs.rules.literals.Goals as goal
use Rattle.iso_script.proofs.rules.literals.Goals.{else-loop-turn-test, then-loop-turn-test+then-not-sees}

pub loop-turn-init : goal.loop-turn-init
unfolding literals
loop-turn-init c = record {
  most = c.in_ok-first.ensures.1 ∙ c.requires.most;
  rest = ap (λ (all : List Token). rest_of (k.Comma ∷ []) next_literal (c.args.bound - 0) all c.literal.new.tokens.rest) (c.in_ok-push.ensures.ok ∙ ap (λ (all : List Token). all ++ c.in_ok-first.first ∷ []) c.new-all.ensures)
      ∙ rest_of-first (k.Comma ∷ []) literal next_literal c.args.bound c.args.tokens.now.rest c.in_ok-first.first c.literal.new.tokens.rest c.in_ok-first.ensures.0;
}

pub returns-in_err-next : goal.returns-in_err-next
returns-in_err-next c =
    let p = err_from_is_err_and c.from_residual-in_err-next.result c.from_residual-in_err-next.ensures.1 in
    rw (p.1, p.2) (errs_here (k.Comma ∷ []) next_literal (literals c.args.bound) c.args.bound c.loop-turn._turn c.loop-turn.all c.in_err-next.field-0.0 c.loop-turn.tokens c.next_literal.new.tokens c.args.tokens.now c.next_literal.new.tokens
    c.loop-turn-test.true (sym c.sees.ensures ∙ c.if-not-sees.false) c.in_err-next.ensures c.loop-turn.invariant.rest)

pub loop-turn-preserved : goal.loop-turn-preserved
loop-turn-preserved c = record {
  most = c.in_ok-next.ensures.1 ∙ c.loop-turn.invariant.most;
  rest = goes_on (k.Comma ∷ []) next_literal (literals c.args.bound c.args.tokens.now.rest) c.args.bound c.loop-turn._turn c.loop-turn.all c.push-in-loop-turn.new.self c.in_ok-next.next c.loop-turn.tokens.rest c.next_literal.new.tokens.rest
      c.loop-turn-test.true (sym c.sees.ensures ∙ c.if-not-sees.false) c.in_ok-next.ensures.0 c.in_ok-push-2.ensures.ok c.loop-turn.invariant.rest;
}

pub returns : goal.returns
returns c = elim c.loop-turn-test.branch [
  | else-loop-turn-test w ↦ (ends_here (k.Comma ∷ []) next_literal (literals c.args.bound c.args.tokens.now.rest) c.args.bound c.loop-turn._turn c.loop-turn.all c.loop-turn.tokens.rest w.loop-turn-test.false c.loop-turn.invariant.rest, c.loop-turn.invariant.most ∙ sym c.requires.most)
  | then-loop-turn-test+then-not-sees w ↦ (stops_here (k.Comma ∷ []) next_literal (literals c.args.bound c.args.tokens.now.rest) (c.args.bound - c.loop-turn._turn) c.loop-turn.all c.loop-turn.tokens.rest (sym w.sees.ensures ∙ w.if-not-sees.true) c.loop-turn.invariant.rest, c.loop-turn.invariant.most ∙ sym c.requires.most)
]
