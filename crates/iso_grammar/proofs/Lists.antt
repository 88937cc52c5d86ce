-- Fronts of token lists.
use Rattle.std.proofs.Common.{◌≡◌, ℕ, ◌≤◌, List, [], ◌∷◌, ◌++◌, length, refl, sym, ap, ◌∙◌, ◌⊎◌, inl, inr, length-append, arith}
use Rattle.iso_grammar.specs.declared.token.Token.{Token}
use Rattle.iso_grammar.specs.Kinds.{Kinds}
use Rattle.iso_grammar.specs.Grammar.{SameHead}
use Rattle.iso_grammar.specs.Reading.{begins}

pub same_refl : (a : List Token) → SameHead a a
same_refl [] = refl
same_refl (t ∷ a) = (a, refl)

pub same_under : (f r m : List Token) → SameHead r m → SameHead (f ++ r) (f ++ m)
same_under [] r m s = s
same_under (t ∷ f) r m s = (f ++ m, refl)

pub begins_same : (ks : Kinds) (a b : List Token) → SameHead a b → begins ks a ≡ begins ks b
begins_same ks [] b s = sym (ap (begins ks) s)
begins_same ks (t ∷ a) b s = sym (ap (begins ks) s.1)

-- where two ways to cut a list stand to each other
pub cut : (a b f m : List Token) → a ++ b ≡ f ++ m → ((c : List Token) × (f ≡ a ++ c) × (b ≡ c ++ m)) ⊎ ((t : Token) × (d : List Token) × (a ≡ f ++ t ∷ d) × (m ≡ t ∷ (d ++ b)))
cut [] b f m e = inl (f, refl, e)
cut (x ∷ a) b [] m e = inr (x, a, refl, sym e)
cut (x ∷ a) b (y ∷ f) m e =
    let heads : x ≡ y = cc in
    let tails : a ++ b ≡ f ++ m = cc in
    elim (cut a b f m tails) [
      | inl p ↦ inl (p.0, cc, p.2)
      | inr p ↦ inr (p.0, p.1, cc, p.3)
    ]

pub cancel : (f a b : List Token) → f ++ a ≡ f ++ b → a ≡ b
cancel [] a b e = e
cancel (t ∷ f) a b e = cancel f a b cc

pub shorter : (n : ℕ) (ts f r : List Token) → ts ≡ f ++ r → length ts ≤ n → length r ≤ n
shorter n ts f r e le = omega (arith, ap length e, length-append f r)

pub same_start : (r m d u : List Token) (t : Token) → SameHead r m → m ≡ t ∷ u → SameHead r (t ∷ d)
same_start [] m d u t s e = absurd (nil_or_cons t u (sym s ∙ e))
  where
    nil_or_cons : (t : Token) (u : List Token) → [] ≡ t ∷ u → ⊥
    nil_or_cons t u e = cc
same_start (v ∷ r) m d u t s e =
    let same : v ≡ t = heads v t s.0 u (sym s.1 ∙ e) in
    (d, ap (λ (w : Token). w ∷ d) (sym same))
  where
    heads : (v t : Token) (a b : List Token) → v ∷ a ≡ t ∷ b → v ≡ t
    heads v t a b e = cc
