-- Reading token lists, as the code does. An error is the number of tokens left at the fault.
use Rattle.std.specs.Prelude.{◌≡◌, ℕ, zero, suc, Bool, false, List, [], ◌∷◌, length, Option, Some, None, Result, Ok, Err, if◌then◌else◌}
use Rattle.iso_grammar.specs.declared.token.Kind.{Kind}
use Rattle.iso_grammar.specs.declared.token.Token.{Token}
use Rattle.iso_grammar.specs.declared.tokens.ReadError.{ReadError}
use Rattle.iso_grammar.specs.declared.tokens.ReadError.TheVariants.{Memory, Syntax}
use Rattle.iso_grammar.specs.Kinds.{Kinds, has, same_kind}

abbrev pub Outcome : Type 0 → Type 0
Outcome A = Result (A × List Token) ℕ

abbrev pub Parser : Type 0 → Type 0
Parser A = List Token → Outcome A

abbrev pub and_then : {A B : Type 0} → Outcome A → (A → Parser B) → Outcome B
and_then (Ok p) f = f p.0 p.1
and_then (Err e) f = Err e

infixl 10 ◌>>=◌
abbrev pub ◌>>=◌ : {A B : Type 0} → Parser A → (A → Parser B) → Parser B
p >>= f = λ ts. and_then (p ts) f

infixl 10 ◌>>◌
abbrev pub ◌>>◌ : {A B : Type 0} → Parser A → Parser B → Parser B
p >> q = p >>= (λ _. q)

abbrev pub pure : {A : Type 0} → A → Parser A
pure a = λ ts. Ok (a, ts)

abbrev pub begins : Kinds → List Token → Bool
begins ks [] = false
begins ks (t ∷ ts) = has ks t.kind

abbrev pub expect : Kind → Parser Token
expect kind [] = Err 0
expect kind (t ∷ ts) = if same_kind kind t.kind then Ok (t, ts) else Err (length (t ∷ ts))

-- the first where the list begins so
abbrev pub either : {A : Type 0} → Kinds → Parser A → Parser A → Parser A
either first p q = λ ts. if begins first ts then p ts else q ts

abbrev pub optional : {A : Type 0} → Kinds → Parser A → Parser (Option A)
optional first p = either first (p >>= λ x. pure (Some x)) (pure None)

-- the number bounds the turns
abbrev pub many : {A : Type 0} → Kinds → Parser A → ℕ → Parser (List A)
many first p zero = pure []
many first p (suc n) = either first (p >>= λ x. many first p n >>= λ xs. pure (x ∷ xs)) (pure [])

-- the tokens that are left, and a number that they do not pass, which bounds what is read
pub record Input : Type 0 where
  pub rest : List Token
  pub most : ℕ

abbrev pub with_bound : List Token → ℕ → Input
with_bound ts n = record { rest = ts; most = n }

-- what a function that reads ensures: the outcome, unless memory ran out
abbrev pub Gives : {A : Type 0} → Parser A → Input → Result A ReadError → Input → Type 0
Gives p old (Ok a) new = (p old.rest ≡ Ok (a, new.rest)) × (new.most ≡ old.most)
Gives p old (Err Memory) new = Unit {0}
Gives p old (Err (Syntax left)) new = p old.rest ≡ Err left

-- nothing is left
abbrev pub end : Parser (Unit {0})
end [] = Ok (tt, [])
end (t ∷ ts) = Err (length (t ∷ ts))

-- the whole list
abbrev pub all_of : {A : Type 0} → (ℕ → Parser A) → List Token → Outcome A
all_of p ts = (p (length ts) >>= λ x. end >> pure x) ts
