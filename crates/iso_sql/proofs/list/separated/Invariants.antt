use Rattle.std.proofs.Common.{◌≡◌, ◌-◌, [], ◌∷◌}
use Rattle.iso_grammar.specs.declared.token.Kind.TheVariants as k
use Rattle.iso_grammar.proofs.Turns.{rest_of}
use Rattle.iso_sql.specs.StatementReading.{next_item, separated}
use Rattle.iso_sql.proofs.list.separated.Given as goal

abbrev pub invariant-loop-turn : goal.invariant-loop-turn
invariant-loop-turn l = record {
  most : l.tokens.most ≡ l.bound;
  rest : rest_of (k.Comma ∷ []) (next_item l.which) (l.bound - l._turn) l.all l.tokens.rest ≡ separated l.which l.bound l.fn.tokens.rest;
}
