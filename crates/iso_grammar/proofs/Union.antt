-- A grammar that grows, and the union of all that it becomes.
use Rattle.std.proofs.Common.{ℕ, ◌≤◌, max, List, [], ◌∷◌, inl, inr, arith}
use Rattle.iso_grammar.specs.declared.token.Token.{Token}
use Rattle.iso_grammar.specs.Grammar as g
use Rattle.iso_grammar.specs.Grammar.{Lang}

-- what the one spells the other does
abbrev pub Within : {A : Type 0} → Lang A → Lang A → Type 0
Within L M = (ts : List Token) (x : _) → L ts x → M ts x

pub bind-within : {A B : Type 0} {L L' : Lang A} {M M' : A → Lang B} → Within L L' → ((x : A) → Within (M x) (M' x)) → Within (g.◌>>=◌ L M) (g.◌>>=◌ L' M')
bind-within a b ts y w = (w.0, w.1, w.2, w.3, a w.1 w.0 w.4, b w.0 w.2 y w.5)

pub alt-within : {A : Type 0} {L L' M M' : Lang A} → Within L L' → Within M M' → Within (g.◌<|>◌ L M) (g.◌<|>◌ L' M')
alt-within a b ts y w = elim w [ inl l ↦ inl (a ts y l) | inr m ↦ inr (b ts y m) ]

pub many-within : {A : Type 0} {L L' : Lang A} → Within L L' → Within (g.many L) (g.many L')
many-within a ts [] w = w
many-within a ts (x ∷ xs) w = (w.0, w.1, w.2, a w.0 x w.3, many-within a w.1 xs w.4)

-- each list of the one is one of some of the others, which grow
pub record Grows {A : Type 0} (L : Lang A) (Ls : ℕ → Lang A) : Type 0 where
  pub up : (n m : ℕ) → n ≤ m → Within (Ls n) (Ls m)
  pub into : (ts : List Token) (x : A) → L ts x → (n : ℕ) × Ls n ts x

pub same-grows : {A : Type 0} (L : Lang A) → Grows L (λ n. L)
same-grows L = record { up = λ n m le ts x l. l; into = λ ts x l. (0, l) }

pub bind-grows : {A B : Type 0} {L : Lang A} {Ls : ℕ → Lang A} {M : A → Lang B} {Ms : ℕ → A → Lang B} → Grows L Ls → ((x : A) → Grows (M x) (λ n. Ms n x)) → Grows (g.◌>>=◌ L M) (λ n. g.◌>>=◌ (Ls n) (Ms n))
bind-grows a b = record {
  up = λ n m le. bind-within (a.up n m le) (λ x. (b x).up n m le);
  into = λ ts y w.
      let one = a.into w.1 w.0 w.4 in
      let two = (b w.0).into w.2 y w.5 in
      (max one.0 two.0, (w.0, w.1, w.2, w.3, a.up one.0 (max one.0 two.0) (omega arith) w.1 w.0 one.1, (b w.0).up two.0 (max one.0 two.0) (omega arith) w.2 y two.1));
}

pub alt-grows : {A : Type 0} {L : Lang A} {Ls : ℕ → Lang A} {M : Lang A} {Ms : ℕ → Lang A} → Grows L Ls → Grows M Ms → Grows (g.◌<|>◌ L M) (λ n. g.◌<|>◌ (Ls n) (Ms n))
alt-grows a b = record {
  up = λ n m le. alt-within (a.up n m le) (b.up n m le);
  into = λ ts y w. elim w [
    | inl l ↦ let one = a.into ts y l in (one.0, inl one.1)
    | inr m ↦ let two = b.into ts y m in (two.0, inr two.1)
  ];
}

many-into : {A : Type 0} (L : Lang A) (Ls : ℕ → Lang A) → Grows L Ls → (xs : List A) (ts : List Token) → g.many L ts xs → (n : ℕ) × g.many (Ls n) ts xs
many-into L Ls a [] ts w = (0, w)
many-into L Ls a (x ∷ xs) ts w =
    let one = a.into w.0 x w.3 in
    let two = many-into L Ls a xs w.1 w.4 in
    (max one.0 two.0, (w.0, w.1, w.2, a.up one.0 (max one.0 two.0) (omega arith) w.0 x one.1, many-within (a.up two.0 (max one.0 two.0) (omega arith)) w.1 xs two.1))

pub many-grows : {A : Type 0} {L : Lang A} {Ls : ℕ → Lang A} → Grows L Ls → Grows (g.many L) (λ n. g.many (Ls n))
many-grows {L = L} {Ls = Ls} a = record {
  up = λ n m le. many-within (a.up n m le);
  into = λ ts xs w. many-into L Ls a xs ts w;
}
