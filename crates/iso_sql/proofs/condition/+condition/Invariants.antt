use Rattle.std.proofs.Common.{◌≡◌, ◌+◌, ◌-◌, ◌*◌, [], ◌∷◌}
use Rattle.iso_grammar.specs.declared.token.Kind.TheVariants as k
use Rattle.iso_sql.specs.Names.{names_of}
use Rattle.iso_sql.specs.Actions.{both, any}
use Rattle.iso_sql.specs.ConditionReading.{and_next, or_next, conjunction, disjunction, paren_at}
use Rattle.iso_grammar.proofs.Folds.{rest_of}
use Rattle.iso_sql.proofs.condition.+condition.Given as goal

abbrev pub decreases-open_paren : goal.decreases-open_paren
decreases-open_paren l = 7 * (32 - l.depth) + 0

abbrev pub decreases-paren : goal.decreases-paren
decreases-paren l = 7 * (32 - l.depth) + 1

abbrev pub decreases-negation : goal.decreases-negation
decreases-negation l = 7 * (32 - l.depth) + 2

abbrev pub decreases-and_next : goal.decreases-and_next
decreases-and_next l = 7 * (32 - l.depth) + 3

abbrev pub decreases-conjunction : goal.decreases-conjunction
decreases-conjunction l = 7 * (32 - l.depth) + 4

abbrev pub decreases-or_next : goal.decreases-or_next
decreases-or_next l = 7 * (32 - l.depth) + 5

abbrev pub decreases-disjunction : goal.decreases-disjunction
decreases-disjunction l = 7 * (32 - l.depth) + 6

abbrev pub invariant-conjunction-loop-turn : goal.invariant-conjunction-loop-turn
invariant-conjunction-loop-turn l = record {
  most : l.tokens.most ≡ l.bound;
  rest : rest_of both (k.And ∷ []) (and_next (names_of l.scope) (paren_at (names_of l.scope) l.depth l.bound)) (l.bound - l._turn) l.all l.tokens.rest
      ≡ conjunction (names_of l.scope) (paren_at (names_of l.scope) l.depth l.bound) l.bound l.fn.tokens.rest;
}

abbrev pub invariant-disjunction-loop-turn : goal.invariant-disjunction-loop-turn
invariant-disjunction-loop-turn l = record {
  most : l.tokens.most ≡ l.bound;
  rest : rest_of any (k.Or ∷ []) (or_next (names_of l.scope) (paren_at (names_of l.scope) l.depth l.bound) l.bound) (l.bound - l._turn) l.all l.tokens.rest
      ≡ disjunction (names_of l.scope) (paren_at (names_of l.scope) l.depth l.bound) l.bound l.fn.tokens.rest;
}
