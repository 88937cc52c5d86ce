use Rattle.std.proofs.Common.{◌-◌, [], ◌∷◌, arith, sym, ◌∙◌}
use Rattle.std.proofs.lemmas.Result.{err_from_is_err_and}
use Rattle.iso_grammar.specs.declared.token.Kind.TheVariants as k
use Rattle.iso_sql.specs.Names.{names_of}
use Rattle.iso_sql.specs.Actions.{both, any}
use Rattle.iso_sql.specs.ConditionReading.{negation, and_next, or_next, conjunction, disjunction, paren_at, deep_paren, open_paren}
use Rattle.std.proofs.lemmas.Bool.{le-ltb, lt-ltb}
use Rattle.iso_sql.proofs.Steps.{paren_deep, paren_open}
use Rattle.iso_grammar.proofs.Folds.{gives_as, rest_of-first, goes_on, errs_here, stops_here, ends_here}
use Rattle.iso_sql.proofs.condition.+condition.Goals as goal
use Rattle.iso_sql.proofs.condition.+condition.Goals.{conjunction-else-loop-turn-test, conjunction-then-loop-turn-test+then-not-sees, disjunction-else-loop-turn-test, disjunction-then-loop-turn-test+then-not-sees}

pub conjunction-loop-turn-init : goal.conjunction-loop-turn-init
unfolding conjunction
conjunction-loop-turn-init t c = record {
  most = c.in_ok-all.ensures.1 ∙ c.requires.most;
  rest = rest_of-first both (k.And ∷ []) (negation (names_of c.args.scope.now) (paren_at (names_of c.args.scope.now) c.args.depth c.args.bound)) (and_next (names_of c.args.scope.now) (paren_at (names_of c.args.scope.now) c.args.depth c.args.bound)) c.args.bound c.args.tokens.now.rest c.in_ok-all.all c.negation.new.tokens.rest c.in_ok-all.ensures.0;
}

pub conjunction-returns-in_err-next : goal.conjunction-returns-in_err-next
conjunction-returns-in_err-next t c =
    let p = err_from_is_err_and c.from_residual-in_err-next.result c.from_residual-in_err-next.ensures.1 in
    rw (p.1, p.2) (errs_here both (k.And ∷ []) (and_next (names_of c.args.scope.now) (paren_at (names_of c.args.scope.now) c.args.depth c.args.bound)) (conjunction (names_of c.args.scope.now) (paren_at (names_of c.args.scope.now) c.args.depth c.args.bound) c.args.bound) c.args.bound c.loop-turn._turn c.loop-turn.all c.in_err-next.field-0.0 c.loop-turn.tokens c.and_next.new.tokens c.args.tokens.now c.and_next.new.tokens
    c.loop-turn-test.true (sym c.sees.ensures ∙ c.if-not-sees.false) c.in_err-next.ensures c.loop-turn.invariant.rest)

pub conjunction-loop-turn-preserved : goal.conjunction-loop-turn-preserved
conjunction-loop-turn-preserved t c = record {
  most = c.in_ok-next.ensures.1 ∙ c.loop-turn.invariant.most;
  rest = goes_on both (k.And ∷ []) (and_next (names_of c.args.scope.now) (paren_at (names_of c.args.scope.now) c.args.depth c.args.bound)) (conjunction (names_of c.args.scope.now) (paren_at (names_of c.args.scope.now) c.args.depth c.args.bound) c.args.bound c.args.tokens.now.rest) c.args.bound c.loop-turn._turn c.loop-turn.all c.in_ok-all-2.all c.in_ok-next.next c.loop-turn.tokens.rest c.and_next.new.tokens.rest
      c.loop-turn-test.true (sym c.sees.ensures ∙ c.if-not-sees.false) c.in_ok-next.ensures.0 c.in_ok-all-2.ensures c.loop-turn.invariant.rest;
}

pub conjunction-returns : goal.conjunction-returns
conjunction-returns t c = elim c.loop-turn-test.branch [
  | conjunction-else-loop-turn-test w ↦ (ends_here both (k.And ∷ []) (and_next (names_of c.args.scope.now) (paren_at (names_of c.args.scope.now) c.args.depth c.args.bound)) (conjunction (names_of c.args.scope.now) (paren_at (names_of c.args.scope.now) c.args.depth c.args.bound) c.args.bound c.args.tokens.now.rest) c.args.bound c.loop-turn._turn c.loop-turn.all c.loop-turn.tokens.rest w.loop-turn-test.false c.loop-turn.invariant.rest, c.loop-turn.invariant.most ∙ sym c.requires.most)
  | conjunction-then-loop-turn-test+then-not-sees w ↦ (stops_here both (k.And ∷ []) (and_next (names_of c.args.scope.now) (paren_at (names_of c.args.scope.now) c.args.depth c.args.bound)) (conjunction (names_of c.args.scope.now) (paren_at (names_of c.args.scope.now) c.args.depth c.args.bound) c.args.bound c.args.tokens.now.rest) (c.args.bound - c.loop-turn._turn) c.loop-turn.all c.loop-turn.tokens.rest (sym w.sees.ensures ∙ w.if-not-sees.true) c.loop-turn.invariant.rest, c.loop-turn.invariant.most ∙ sym c.requires.most)
]

pub disjunction-loop-turn-init : goal.disjunction-loop-turn-init
unfolding disjunction
disjunction-loop-turn-init t c = record {
  most = c.in_ok-all.ensures.1 ∙ c.requires.most;
  rest = rest_of-first any (k.Or ∷ []) (conjunction (names_of c.args.scope.now) (paren_at (names_of c.args.scope.now) c.args.depth c.args.bound) c.args.bound) (or_next (names_of c.args.scope.now) (paren_at (names_of c.args.scope.now) c.args.depth c.args.bound) c.args.bound) c.args.bound c.args.tokens.now.rest c.in_ok-all.all c.conjunction.new.tokens.rest c.in_ok-all.ensures.0;
}

pub disjunction-returns-in_err-next : goal.disjunction-returns-in_err-next
disjunction-returns-in_err-next t c =
    let p = err_from_is_err_and c.from_residual-in_err-next.result c.from_residual-in_err-next.ensures.1 in
    rw (p.1, p.2) (errs_here any (k.Or ∷ []) (or_next (names_of c.args.scope.now) (paren_at (names_of c.args.scope.now) c.args.depth c.args.bound) c.args.bound) (disjunction (names_of c.args.scope.now) (paren_at (names_of c.args.scope.now) c.args.depth c.args.bound) c.args.bound) c.args.bound c.loop-turn._turn c.loop-turn.all c.in_err-next.field-0.0 c.loop-turn.tokens c.or_next.new.tokens c.args.tokens.now c.or_next.new.tokens
    c.loop-turn-test.true (sym c.sees.ensures ∙ c.if-not-sees.false) c.in_err-next.ensures c.loop-turn.invariant.rest)

pub disjunction-loop-turn-preserved : goal.disjunction-loop-turn-preserved
disjunction-loop-turn-preserved t c = record {
  most = c.in_ok-next.ensures.1 ∙ c.loop-turn.invariant.most;
  rest = goes_on any (k.Or ∷ []) (or_next (names_of c.args.scope.now) (paren_at (names_of c.args.scope.now) c.args.depth c.args.bound) c.args.bound) (disjunction (names_of c.args.scope.now) (paren_at (names_of c.args.scope.now) c.args.depth c.args.bound) c.args.bound c.args.tokens.now.rest) c.args.bound c.loop-turn._turn c.loop-turn.all c.in_ok-all-2.all c.in_ok-next.next c.loop-turn.tokens.rest c.or_next.new.tokens.rest
      c.loop-turn-test.true (sym c.sees.ensures ∙ c.if-not-sees.false) c.in_ok-next.ensures.0 c.in_ok-all-2.ensures c.loop-turn.invariant.rest;
}

pub disjunction-returns : goal.disjunction-returns
disjunction-returns t c = elim c.loop-turn-test.branch [
  | disjunction-else-loop-turn-test w ↦ (ends_here any (k.Or ∷ []) (or_next (names_of c.args.scope.now) (paren_at (names_of c.args.scope.now) c.args.depth c.args.bound) c.args.bound) (disjunction (names_of c.args.scope.now) (paren_at (names_of c.args.scope.now) c.args.depth c.args.bound) c.args.bound c.args.tokens.now.rest) c.args.bound c.loop-turn._turn c.loop-turn.all c.loop-turn.tokens.rest w.loop-turn-test.false c.loop-turn.invariant.rest, c.loop-turn.invariant.most ∙ sym c.requires.most)
  | disjunction-then-loop-turn-test+then-not-sees w ↦ (stops_here any (k.Or ∷ []) (or_next (names_of c.args.scope.now) (paren_at (names_of c.args.scope.now) c.args.depth c.args.bound) c.args.bound) (disjunction (names_of c.args.scope.now) (paren_at (names_of c.args.scope.now) c.args.depth c.args.bound) c.args.bound c.args.tokens.now.rest) (c.args.bound - c.loop-turn._turn) c.loop-turn.all c.loop-turn.tokens.rest (sym w.sees.ensures ∙ w.if-not-sees.true) c.loop-turn.invariant.rest, c.loop-turn.invariant.most ∙ sym c.requires.most)
]

pub paren-returns-then-depth-ge-MAX_DEPTH : goal.paren-returns-then-depth-ge-MAX_DEPTH
paren-returns-then-depth-ge-MAX_DEPTH t c =
    gives_as (deep_paren (names_of c.args.scope.now)) (paren_at (names_of c.args.scope.now) c.args.depth c.args.bound) c.args.tokens.now c.deep_paren.new.tokens c.deep_paren.result
    (sym (paren_deep (names_of c.args.scope.now) c.args.depth c.args.bound c.args.tokens.now.rest (le-ltb _ _ c.if-depth-ge-MAX_DEPTH.true) (omega (arith, c.most-most.ensures.within, c.most-most.ensures.value, c.requires.most)))) c.deep_paren.ensures

pub paren-returns-else-depth-ge-MAX_DEPTH : goal.paren-returns-else-depth-ge-MAX_DEPTH
paren-returns-else-depth-ge-MAX_DEPTH t c =
    gives_as (open_paren (names_of c.args.scope.now) c.args.depth c.args.bound) (paren_at (names_of c.args.scope.now) c.args.depth c.args.bound) c.args.tokens.now c.open_paren.new.tokens c.open_paren.result
    (sym (paren_open (names_of c.args.scope.now) c.args.depth c.args.bound c.args.tokens.now.rest (lt-ltb _ _ c.if-depth-ge-MAX_DEPTH.false) (omega (arith, c.most-most.ensures.within, c.most-most.ensures.value, c.requires.most)))) c.open_paren.ensures
