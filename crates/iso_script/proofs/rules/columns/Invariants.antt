use Rattle.std.proofs.Common.{◌≡◌, ◌-◌, [], ◌∷◌}
use Rattle.iso_grammar.specs.declared.token.Kind.TheVariants as k
use Rattle.iso_grammar.proofs.Turns.{rest_of}
use Rattle.iso_script.specs.RuleReading.{next_column, columns}
use Rattle.iso_script.proofs.rules.columns.Given as goal

abbrev pub invariant-loop-turn : goal.invariant-loop-turn
invariant-loop-turn l = record {
  most : l.tokens.most ≡ l.bound;
  rest : rest_of (k.Comma ∷ []) next_column (l.bound - l._turn) l.all l.tokens.rest ≡ columns l.bound l.fn.tokens.rest;
}
