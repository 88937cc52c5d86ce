-- The grammar of conditions.
-- Db2 LUW, SQL reference, 'Search conditions', 'Predicates'; which of them there are is this project's own
use Rattle.std.specs.Prelude.{ℕ, zero, suc, ◌+◌, fold}
use Rattle.iso_grammar.specs.declared.token.Kind.TheVariants as k
use Rattle.iso_grammar.specs.declared.token.Token.{Token}
use Rattle.iso_grammar.specs.Grammar.{Lang, pure, ◌>>=◌, ◌>>◌, ◌<|>◌, token, optional, many, nowhere}
use Rattle.iso_sql.specs.declared.found.Found.{Found}
use Rattle.iso_sql.specs.declared.statement.Op.{Op}
use Rattle.iso_sql.specs.declared.statement.Op.TheVariants as op
use Rattle.iso_sql.specs.Names.{Names}
use Rattle.iso_sql.specs.Actions as act
use Rattle.iso_sql.specs.Actions.{negated, both, any, nested}

-- integer | text
abbrev pub literal : Lang Token
literal = token k.Integer <|> (token k.One <|> token k.Text)

-- = <> < <= > >=
abbrev pub operator : Lang Op
operator =
    (token k.Equal >> pure op.Eq)
    <|> ((token k.NotEqual >> pure op.Ne)
    <|> ((token k.Less >> pure op.Lt)
    <|> ((token k.LessEqual >> pure op.Le)
    <|> ((token k.Greater >> pure op.Gt)
    <|> (token k.GreaterEqual >> pure op.Ge)))))

module _ (names : Names) where
  abbrev pub compared : Token → Lang Found
  compared column = do
    how ← operator
    value ← literal
    pure (act.compared names column how value)

  abbrev pub between : Token → Lang Found
  between column = do
    not_word ← optional (token k.Not)
    token k.Between
    low ← literal
    token k.And
    high ← literal
    pure (negated not_word (act.between names column low high))

  abbrev pub is_null : Token → Lang Found
  is_null column = do
    token k.Is
    not_word ← optional (token k.Not)
    token k.Null
    pure (negated not_word (act.is_null names column))

  -- c [NOT] BETWEEN literal AND literal | c IS [NOT] NULL | c op literal
  abbrev pub comparison : Lang Found
  comparison = do
    column ← token k.Name
    between column <|> (is_null column <|> compared column)

  -- [NOT] prim, where this is what stands in parentheses
  abbrev pub negation : Lang Found → Lang Found
  negation paren = do
    not_word ← optional (token k.Not)
    x ← paren <|> comparison
    pure (negated not_word x)

  -- not {AND not}
  abbrev pub conjunction : Lang Found → Lang Found
  conjunction paren = do
    first ← negation paren
    more ← many (token k.And >> negation paren)
    pure (fold both first more)

  -- and {OR and}
  abbrev pub disjunction : Lang Found → Lang Found
  disjunction paren = do
    first ← conjunction paren
    more ← many (token k.Or >> conjunction paren)
    pure (fold any first more)

  -- A condition in parentheses, with fewer than so many in it; the second number counts those around it.
  abbrev pub paren_below : ℕ → ℕ → Lang Found
  paren_below zero depth = nowhere
  paren_below (suc n) depth = do
    open_ ← token k.Open
    x ← disjunction (paren_below n (depth + 1))
    token k.Close
    pure (nested depth open_ x)

  abbrev pub paren : ℕ → Lang Found
  paren depth ts x = (n : ℕ) × paren_below n depth ts x

  abbrev pub condition : Lang Found
  condition = disjunction (paren 0)
