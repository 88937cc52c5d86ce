use Rattle.std.proofs.Common.{◌≡◌, ◌-◌, [], ◌∷◌}
use Rattle.iso_grammar.specs.declared.token.Kind.TheVariants as k
use Rattle.iso_grammar.proofs.Turns.{rest_of}
use Rattle.iso_script.specs.RuleReading.{next_literal, literals}
use Rattle.iso_script.proofs.rules.literals.Given as goal

abbrev pub invariant-loop-turn : goal.invariant-loop-turn
invariant-loop-turn l = record {
  most : l.tokens.most ≡ l.bound;
  rest : rest_of (k.Comma ∷ []) next_literal (l.bound - l._turn) l.all l.tokens.rest ≡ literals l.bound l.fn.tokens.rest;
}
