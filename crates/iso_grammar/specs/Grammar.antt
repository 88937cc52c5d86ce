-- What a grammar is: which token lists spell which values.
use Rattle.std.specs.Prelude.{◌≡◌, ◌⊎◌, ℕ, length, Result, Ok, Err, List, [], ◌∷◌, ◌++◌, Option, Some, None}
use Rattle.iso_grammar.specs.declared.token.Kind.{Kind}
use Rattle.iso_grammar.specs.declared.token.Token.{Token}
use Rattle.iso_grammar.specs.declared.tokens.ReadError.{ReadError}
use Rattle.iso_grammar.specs.declared.tokens.ReadError.TheVariants.{Memory, Syntax}

-- the lists that spell each value
abbrev pub Lang : Type 0 → Type 1
Lang A = List Token → A → Type 0

-- nothing, which stands for this value
abbrev pub pure : {A : Type 0} → A → Lang A
pure x ts y = (ts ≡ []) × (y ≡ x)

-- one after the other
infixl 10 ◌>>=◌
abbrev pub ◌>>=◌ : {A B : Type 0} → Lang A → (A → Lang B) → Lang B
(L >>= M) ts y = (x : _) × (front : List Token) × (back : List Token) × (ts ≡ front ++ back) × L front x × M x back y

infixl 10 ◌>>◌
abbrev pub ◌>>◌ : {A B : Type 0} → Lang A → Lang B → Lang B
L >> M = L >>= (λ _. M)

-- a token of this kind
abbrev pub token : Kind → Lang Token
token kind ts t = (ts ≡ t ∷ []) × (t.kind ≡ kind)

-- the one or the other
infixl 9 ◌<|>◌
abbrev pub ◌<|>◌ : {A : Type 0} → Lang A → Lang A → Lang A
(L <|> M) ts x = L ts x ⊎ M ts x

abbrev pub optional : {A : Type 0} → Lang A → Lang (Option A)
optional L = (L >>= λ x. pure (Some x)) <|> pure None

abbrev pub many : {A : Type 0} → Lang A → Lang (List A)
many L ts [] = ts ≡ []
many L ts (x ∷ xs) = (front : List Token) × (back : List Token) × (ts ≡ front ++ back) × L front x × many L back xs

-- no list at all
abbrev pub nowhere : {A : Type 0} → Lang A
nowhere ts x = ⊥

-- ---- where a list leaves a grammar

-- both are empty, or begin with the same token
abbrev pub SameHead : List Token → List Token → Type 0
SameHead [] b = b ≡ []
SameHead (t ∷ a) b = (more : List Token) × (b ≡ t ∷ more)

-- The list is not of the grammar, and this many tokens are left at the first with which it begins no list of it.
pub record StopsAt {A : Type 0} (L : Lang A) (ts : List Token) (left : ℕ) : Type 0 where
  pub front : List Token
  pub rest : List Token
  pub split : ts ≡ front ++ rest
  pub count : length rest ≡ left
  pub viable : (more : List Token) × (x : A) × L (front ++ more) x
  pub dead : (more : List Token) (x : A) → SameHead rest more → L (front ++ more) x → ⊥

-- the answer of a reader, unless memory ran out
abbrev pub Answers : {A : Type 0} → Lang A → List Token → Result A ReadError → Type 0
Answers L ts (Ok x) = L ts x
Answers L ts (Err Memory) = Unit {0}
Answers L ts (Err (Syntax left)) = StopsAt L ts left

abbrev pub IsOrMemory : {A : Type 0} → Result A ReadError → Result A ReadError → Type 0
IsOrMemory r answer = (r ≡ answer) ⊎ (r ≡ Err Memory)
