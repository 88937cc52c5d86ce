-- Reading conditions, as the code does.
use Rattle.std.specs.Prelude.{Bool, true, false, ℕ, zero, suc, ◌+◌, [], ◌∷◌, length, Option, Err, fold}
use Rattle.iso_grammar.specs.declared.token.Kind.{Kind}
use Rattle.iso_grammar.specs.declared.token.Kind.TheVariants as k
use Rattle.iso_grammar.specs.declared.token.Token.{Token}
use Rattle.iso_grammar.specs.Kinds.{Kinds}
use Rattle.iso_grammar.specs.Reading.{Parser, pure, ◌>>=◌, ◌>>◌, either, expect, optional, many}
use Rattle.iso_sql.specs.declared.found.Found.{Found}
use Rattle.iso_sql.specs.declared.statement.Op.{Op}
use Rattle.iso_sql.specs.declared.statement.Op.TheVariants as op
use Rattle.iso_sql.specs.Names.{Names}
use Rattle.iso_sql.specs.Actions as act
use Rattle.iso_sql.specs.Actions.{hidden, negated, both, any, nested}

unfoldable pub literal : Parser Token
literal = either (k.Integer ∷ []) (expect k.Integer) (either (k.One ∷ []) (expect k.One) (expect k.Text))

-- a word that stands for this
abbrev pub word : {A : Type 0} → Kind → A → Parser A
word kind x = expect kind >> pure x

unfoldable pub operator : Parser Op
operator =
    either (k.Equal ∷ []) (word k.Equal op.Eq)
    (either (k.NotEqual ∷ []) (word k.NotEqual op.Ne)
    (either (k.Less ∷ []) (word k.Less op.Lt)
    (either (k.LessEqual ∷ []) (word k.LessEqual op.Le)
    (either (k.Greater ∷ []) (word k.Greater op.Gt)
    (word k.GreaterEqual op.Ge)))))

unfoldable pub maybe_not : Parser (Option Token)
maybe_not = optional (k.Not ∷ []) (expect k.Not)

module _ (names : Names) where
  unfoldable pub compared : Token → Parser Found
  compared column = do
    how ← operator
    value ← literal
    pure (act.compared names column how value)

  unfoldable pub between : Token → Parser Found
  between column = do
    not_word ← maybe_not
    expect k.Between
    low ← literal
    expect k.And
    high ← literal
    pure (negated not_word (act.between names column low high))

  unfoldable pub is_null : Token → Parser Found
  is_null column = do
    expect k.Is
    not_word ← maybe_not
    expect k.Null
    pure (negated not_word (act.is_null names column))

  abbrev pub between_words : Kinds
  between_words = k.Not ∷ k.Between ∷ []

  unfoldable pub comparison : Parser Found
  comparison = do
    column ← expect k.Name
    either between_words (between column) (either (k.Is ∷ []) (is_null column) (compared column))

  unfoldable pub negation : Parser Found → Parser Found
  negation paren = do
    not_word ← maybe_not
    x ← either (k.Open ∷ []) paren comparison
    pure (negated not_word x)

  abbrev pub and_next : Parser Found → Parser Found
  and_next paren = expect k.And >> negation paren

  unfoldable pub conjunction : Parser Found → ℕ → Parser Found
  conjunction paren n = do
    first ← negation paren
    more ← many (k.And ∷ []) (and_next paren) n
    pure (fold both first more)

  abbrev pub or_next : Parser Found → ℕ → Parser Found
  or_next paren n = expect k.Or >> conjunction paren n

  unfoldable pub disjunction : Parser Found → ℕ → Parser Found
  disjunction paren n = do
    first ← conjunction paren n
    more ← many (k.Or ∷ []) (or_next paren n) n
    pure (fold any first more)

  -- the number bounds how deep the calls go
  abbrev pub paren_at : ℕ → ℕ → Parser Found
  paren_at depth zero = λ ts. Err (length ts)
  paren_at depth (suc n) = do
    open_ ← expect k.Open
    x ← disjunction (paren_at (depth + 1) n) n
    expect k.Close
    pure (nested depth open_ x)

  unfoldable pub condition : ℕ → Parser Found
  condition n = disjunction (paren_at 0 n) n

  -- The rest of a condition and the parenthesis that closes it, read without a call of itself. The first number bounds the turns,
  -- the second counts the parentheses that are open, and the test says that a condition's part comes next.
  abbrev pub scan : ℕ → ℕ → Bool → Parser (Unit {0})
  scan zero open_ wants = λ ts. Err (length ts)
  scan (suc m) open_ true = maybe_not >>= λ w. either (k.Open ∷ []) (expect k.Open >>= λ t. scan m (suc open_) true) (comparison >>= λ x. scan m open_ false)
  scan (suc m) zero false = pure tt
  scan (suc m) (suc open_) false =
      either (k.And ∷ []) (expect k.And >>= λ t. scan m (suc open_) true) (either (k.Or ∷ []) (expect k.Or >>= λ t. scan m (suc open_) true) (expect k.Close >>= λ t. scan m open_ false))

  abbrev pub inside : ℕ → ℕ → Parser (Unit {0})
  inside depth n = disjunction (paren_at depth n) n >>= λ x. expect k.Close >>= λ t. pure tt

  abbrev pub deep_paren : Parser Found
  deep_paren = expect k.Open >>= λ t. (λ ts. scan (length ts + 1) 1 true ts) >>= λ x. pure (hidden t)

  abbrev pub open_paren : ℕ → ℕ → Parser Found
  open_paren depth n = do
    expect k.Open
    x ← disjunction (paren_at (depth + 1) n) n
    expect k.Close
    pure x
