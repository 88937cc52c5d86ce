-- What is in a list.
use Rattle.std.proofs.Common.{◌≡◌, zero, suc, Bool, true, false, List, [], ◌∷◌, refl, sym, arith, subst, ◌⊎◌, inl, inr}
use Rattle.std.specs.List.{list_any}
use Rattle.std.specs.Prelude.{Contains, filter}

-- an element of a longer list is its first, or in the rest
pub in-cases : {A : Type 0} (y x : A) (ys : List A) → Contains (y ∷ ys) x → (x ≡ y) ⊎ Contains ys x
in-cases y x ys (zero, lt, e) = inl (sym e)
in-cases y x ys (suc k, lt, e) = inr (k, omega (arith, lt), e)

-- the first is in it
pub in-first : {A : Type 0} (x : A) (xs : List A) → Contains (x ∷ xs) x
in-first x xs = (0, omega arith, refl)

-- what is in the rest is in it
pub in-rest : {A : Type 0} (y x : A) (ys : List A) → Contains ys x → Contains (y ∷ ys) x
in-rest y x ys (k, lt, e) = (suc k, omega (arith, lt), e)

-- nothing is in the empty list
pub in-none : {A : Type 0} (x : A) → Contains [] x → ⊥
in-none x (k, lt, e) = omega (arith, lt)

-- what a filter leaves was in the list
pub in-filter : {A : Type 0} (p : A → Bool) (x : A) (xs : List A) → Contains (filter p xs) x → Contains xs x
in-filter p x [] h = h
in-filter p x (y ∷ ys) h = go (in-filter p x ys) (p y) refl
  where
    go : (Contains (filter p ys) x → Contains ys x) → (b : Bool) → p y ≡ b → Contains (y ∷ ys) x
    go ih true e = let k : Contains (y ∷ filter p ys) x = rw e at h in elim (in-cases y x (filter p ys) k) [
      | inl s ↦ subst (λ (z : _). Contains (y ∷ ys) z) (sym s) (in-first y ys)
      | inr s ↦ in-rest y x ys (ih s)
    ]
    go ih false e = in-rest y x ys (ih (rw e at h))

-- a test that an element passes
pub in-any : {A : Type 0} (p : A → Bool) (x : A) (xs : List A) → Contains xs x → p x ≡ true → list_any p xs ≡ true
in-any p x [] h e = absurd (in-none x h)
in-any p x (y ∷ ys) h e = elim (in-cases y x ys h) [
  | inl s ↦ (let z : p y ≡ true = subst (λ (u : _). p u ≡ true) s e in rw z refl)
  | inr s ↦ go (in-any p x ys s e) (p y) refl
]
  where
    go : list_any p ys ≡ true → (b : Bool) → p y ≡ b → list_any p (y ∷ ys) ≡ true
    go ih true f = rw f refl
    go ih false f = rw f ih

-- and passes
pub in-filter_passes : {A : Type 0} (p : A → Bool) (x : A) (xs : List A) → Contains (filter p xs) x → p x ≡ true
in-filter_passes p x [] h = absurd (in-none x h)
in-filter_passes p x (y ∷ ys) h = go (in-filter_passes p x ys) (p y) refl
  where
    go : (Contains (filter p ys) x → p x ≡ true) → (b : Bool) → p y ≡ b → p x ≡ true
    go ih true e = elim (in-cases y x (filter p ys) (rw e at h)) [ inl s ↦ subst (λ (u : _). p u ≡ true) (sym s) e | inr s ↦ ih s ]
    go ih false e = ih (rw e at h)

-- what passes a test of any
pub any-in : {A : Type 0} (p : A → Bool) (xs : List A) → list_any p xs ≡ true → (x : A) × Contains xs x × (p x ≡ true)
any-in p [] e = cc
any-in p (y ∷ ys) e = go (any-in p ys) (p y) refl
  where
    go : (list_any p ys ≡ true → (x : _) × Contains ys x × (p x ≡ true)) → (b : Bool) → p y ≡ b → (x : _) × Contains (y ∷ ys) x × (p x ≡ true)
    go ih true f = (y, in-first y ys, f)
    go ih false f = let x = ih (rw f at e) in (x.0, in-rest y x.0 ys x.1, x.2)

-- what passes is in what a filter leaves
pub filter-in : {A : Type 0} (p : A → Bool) (x : A) (xs : List A) → Contains xs x → p x ≡ true → Contains (filter p xs) x
filter-in p x [] h e = absurd (in-none x h)
filter-in p x (y ∷ ys) h e = go (λ k. filter-in p x ys k e) (p y) refl
  where
    go : (Contains ys x → Contains (filter p ys) x) → (b : Bool) → p y ≡ b → Contains (filter p (y ∷ ys)) x
    go ih true f = rw f (elim (in-cases y x ys h) [
      | inl s ↦ subst (λ (z : _). Contains (y ∷ filter p ys) z) (sym s) (in-first y (filter p ys))
      | inr s ↦ in-rest y x (filter p ys) (ih s)
    ])
    go ih false f = rw f (elim (in-cases y x ys h) [
      | inl s ↦ (let z : p x ≡ false = subst (λ (u : _). p u ≡ false) (sym s) f in absurd (cc))
      | inr s ↦ ih s
    ])
