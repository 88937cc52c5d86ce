-- Tokens that stand in a line rise.
use Rattle.std.proofs.Common.{◌≤◌, ◌<◌, ℕ, List, [], ◌∷◌, sym, subst, inl, inr, arith}
use Rattle.iso_grammar.specs.declared.token.Token.{Token}
use Rattle.iso_grammar.specs.Order.{RisesFrom}
use Rattle.iso_sql.specs.Every.{Rise, StandIn}

pub lower : (m n : ℕ) (ts : List Token) → n ≤ m → Rise m ts → Rise n ts
lower m n [] le r = tt
lower m n (t ∷ ts) le r = (let p : m < t.start = r.0 in omega (arith, p, le), r.1)

pub starts-rise : (n : ℕ) (ts : List Token) → RisesFrom n ts → Rise n ts
starts-rise n [] r = tt
starts-rise n (t ∷ ts) r = (r.0, lower t.end t.start ts r.1 (starts-rise t.end ts r.2))

pub standing-rise : (n : ℕ) (ts all : List Token) → StandIn ts all → Rise n all → Rise n ts
standing-rise n [] all s r = tt
standing-rise n (t ∷ ts) [] s r = absurd s
standing-rise n (t ∷ ts) (a ∷ all) (inl s) r = subst (λ (z : Token). Rise n (z ∷ ts)) (sym s.0) (r.0, standing-rise a.start ts all s.1 r.1)
standing-rise n (t ∷ ts) (a ∷ all) (inr s) r =
    let p : n < a.start = r.0 in
    lower a.start n (t ∷ ts) (omega (arith, p)) (standing-rise a.start (t ∷ ts) all s r.1)
