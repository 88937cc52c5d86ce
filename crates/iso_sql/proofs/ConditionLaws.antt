-- Conditions are read by their grammar.
use Rattle.std.proofs.Common.{true, false, [], ◌∷◌, Some, None, refl}
use Rattle.iso_grammar.specs.declared.token.Kind.{Kind}
use Rattle.iso_grammar.specs.declared.token.Kind.TheVariants as k
use Rattle.iso_grammar.specs.declared.token.Token.{Token}
use Rattle.iso_grammar.specs.Grammar as g
use Rattle.iso_grammar.proofs.Laws.{Reads}
use Rattle.iso_grammar.proofs.Rules.{then, or_else, word, done}
use Rattle.iso_sql.specs.declared.statement.Op.TheVariants as op
use Rattle.iso_sql.specs.Names.{Names}
use Rattle.iso_sql.specs.Actions as act
use Rattle.iso_sql.specs.Actions.{negated}
use Rattle.iso_sql.specs.Conditions as gs
use Rattle.iso_sql.specs.ConditionReading as r
use Rattle.iso_sql.specs.ConditionReading.{literal, operator, maybe_not, compared, between, is_null, comparison}

-- a word that stands for something
pub stands : {A : Type 0} (kind : Kind) (x : A) → Reads (λ n. r.word kind x) (g.◌>>◌ (g.token kind) (g.pure x)) (kind ∷ []) [] false
stands kind x = then (word kind) (λ _. done x) refl

literal-reads : Reads (λ n. literal) gs.literal (k.Integer ∷ k.One ∷ k.Text ∷ []) [] false
unfolding literal
literal-reads = or_else (word k.Integer) (or_else (word k.One) (word k.Text) refl) refl

operator-reads : Reads (λ n. operator) gs.operator (k.Equal ∷ k.NotEqual ∷ k.Less ∷ k.LessEqual ∷ k.Greater ∷ k.GreaterEqual ∷ []) [] false
unfolding operator
operator-reads =
    or_else (stands k.Equal op.Eq) (or_else (stands k.NotEqual op.Ne) (or_else (stands k.Less op.Lt) (or_else (stands k.LessEqual op.Le) (or_else (stands k.Greater op.Gt) (stands k.GreaterEqual op.Ge) refl) refl) refl) refl) refl

pub maybe_not-reads : Reads (λ n. maybe_not) (g.optional (g.token k.Not)) (k.Not ∷ []) (k.Not ∷ []) true
unfolding maybe_not
maybe_not-reads = or_else (then (word k.Not) (λ t. done (Some t)) refl) (done None) refl

module _ (names : Names) where
  compared-reads : (column : Token) → Reads (λ n. compared names column) (gs.compared names column) (k.Equal ∷ k.NotEqual ∷ k.Less ∷ k.LessEqual ∷ k.Greater ∷ k.GreaterEqual ∷ []) [] false
  unfolding compared
  compared-reads column = then operator-reads (λ how. then literal-reads (λ value. done (act.compared names column how value)) refl) refl

  between-reads : (column : Token) → Reads (λ n. between names column) (gs.between names column) (k.Not ∷ k.Between ∷ []) [] false
  unfolding between
  between-reads column =
      then maybe_not-reads (λ not_word. then (word k.Between) (λ _. then literal-reads (λ low. then (word k.And) (λ _. then literal-reads (λ high.
      done (negated not_word (act.between names column low high))) refl) refl) refl) refl) refl

  is_null-reads : (column : Token) → Reads (λ n. is_null names column) (gs.is_null names column) (k.Is ∷ []) [] false
  unfolding is_null
  is_null-reads column =
      then (word k.Is) (λ _. then maybe_not-reads (λ not_word. then (word k.Null) (λ _. done (negated not_word (act.is_null names column))) refl) refl) refl

  pub comparison-reads : Reads (λ n. comparison names) (gs.comparison names) (k.Name ∷ []) [] false
  unfolding comparison
  comparison-reads = then (word k.Name) (λ column. or_else (between-reads column) (or_else (is_null-reads column) (compared-reads column) refl) refl) refl
