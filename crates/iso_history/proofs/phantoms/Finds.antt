-- What is found in a list that has changed.
use Rattle.std.proofs.Common.{◌≡◌, Bool, true, false, List, [], ◌∷◌, map, refl, sym, subst, Some}
use Rattle.std.specs.List.{list_all, list_any}
use Rattle.std.specs.Option.{option_map}
use Rattle.std.specs.Prelude.{filter, find}

-- what is found where the change leaves what passes
pub find-filter_same : {A : Type 0} (p q : A → Bool) → ((x : A) → p x ≡ true → q x ≡ true) → (xs : List A) → find p (filter q xs) ≡ find p xs
find-filter_same p q h [] = refl
find-filter_same p q h (x ∷ xs) = go (find-filter_same p q h xs) (p x) refl (q x) refl
  where
    go : find p (filter q xs) ≡ find p xs → (a : Bool) → p x ≡ a → (b : Bool) → q x ≡ b → find p (filter q (x ∷ xs)) ≡ find p (x ∷ xs)
    go ih true e true f = rw (f, e) refl
    go ih true e false f = let z : q x ≡ true = h x e in absurd (cc)
    go ih false e true f = rw (f, e) ih
    go ih false e false f = rw (f, e) ih

-- what is found where a map leaves the test
pub find-map : {A : Type 0} (p : A → Bool) (f : A → A) → ((x : A) → p (f x) ≡ p x) → (xs : List A) → find p (map f xs) ≡ option_map f (find p xs)
find-map p f h [] = refl
find-map p f h (x ∷ xs) = go (find-map p f h xs) (p x) refl
  where
    go : find p (map f xs) ≡ option_map f (find p xs) → (a : Bool) → p x ≡ a → find p (map f (x ∷ xs)) ≡ option_map f (find p (x ∷ xs))
    go ih true e = rw (h x, e) refl
    go ih false e = rw (h x, e) ih

-- the first that passes is kept by a filter that it passes
pub find-filter_kept : {A : Type 0} (p q : A → Bool) (y : A) (xs : List A) → find p xs ≡ Some y → q y ≡ true → find p (filter q xs) ≡ Some y
find-filter_kept p q y [] f k = cc
find-filter_kept p q y (x ∷ xs) f k = go (λ g. find-filter_kept p q y xs g k) (p x) refl (q x) refl
  where
    go : (find p xs ≡ Some y → find p (filter q xs) ≡ Some y) → (a : Bool) → p x ≡ a → (b : Bool) → q x ≡ b → find p (filter q (x ∷ xs)) ≡ Some y
    go ih true e b g = let s : Some x ≡ Some y = rw e at f in let r : x ≡ y = cc in
        let z : q x ≡ true = subst (λ (u : _). q u ≡ true) (sym r) k in rw (z, e) s
    go ih false e true g = rw (g, e) (ih (rw e at f))
    go ih false e false g = rw g (ih (rw e at f))

-- what is found passes, and all of a list pass what it passes
pub find-passes : {A : Type 0} (p : A → Bool) (xs : List A) (y : A) → find p xs ≡ Some y → p y ≡ true
find-passes p [] y f = cc
find-passes p (x ∷ xs) y f = go (find-passes p xs y) (p x) refl
  where
    go : (find p xs ≡ Some y → p y ≡ true) → (a : Bool) → p x ≡ a → p y ≡ true
    go ih true e = let s : Some x ≡ Some y = rw e at f in let r : x ≡ y = cc in subst (λ (u : _). p u ≡ true) r e
    go ih false e = ih (rw e at f)

-- what all pass, what is found passes
pub find-all : {A : Type 0} (p q : A → Bool) (xs : List A) (y : A) → list_all q xs ≡ true → find p xs ≡ Some y → q y ≡ true
find-all p q [] y a f = cc
find-all p q (x ∷ xs) y a f = go (find-all p q xs y) (q x) refl (p x) refl
  where
    go : (list_all q xs ≡ true → find p xs ≡ Some y → q y ≡ true) → (b : Bool) → q x ≡ b → (c : Bool) → p x ≡ c → q y ≡ true
    go ih false e c g = let z : false ≡ true = rw e at a in absurd (cc)
    go ih true e true g = let s : Some x ≡ Some y = rw g at f in let r : x ≡ y = cc in subst (λ (u : _). q u ≡ true) r e
    go ih true e false g = ih (rw e at a) (rw g at f)

-- what is found makes the test of any true
pub find-any : {A : Type 0} (p q : A → Bool) (xs : List A) (y : A) → find p xs ≡ Some y → q y ≡ true → list_any q xs ≡ true
find-any p q [] y f k = cc
find-any p q (x ∷ xs) y f k = go (λ g. find-any p q xs y g k) (p x) refl (q x) refl
  where
    go : (find p xs ≡ Some y → list_any q xs ≡ true) → (a : Bool) → p x ≡ a → (b : Bool) → q x ≡ b → list_any q (x ∷ xs) ≡ true
    go ih a e true g = rw g refl
    go ih true e false g = let s : Some x ≡ Some y = rw e at f in let r : x ≡ y = cc in let z : q x ≡ true = subst (λ (u : _). q u ≡ true) (sym r) k in
        absurd (cc)
    go ih false e false g = rw g (ih (rw e at f))

-- what all pass, all that a filter leaves pass
pub all-filter : {A : Type 0} (p q : A → Bool) (xs : List A) → list_all p xs ≡ true → list_all p (filter q xs) ≡ true
all-filter p q [] a = refl
all-filter p q (x ∷ xs) a = go (all-filter p q xs) (p x) refl (q x) refl
  where
    go : (list_all p xs ≡ true → list_all p (filter q xs) ≡ true) → (b : Bool) → p x ≡ b → (c : Bool) → q x ≡ c → list_all p (filter q (x ∷ xs)) ≡ true
    go ih false e c f = let z : false ≡ true = rw e at a in absurd (cc)
    go ih true e true f = rw (f, e) (ih (rw e at a))
    go ih true e false f = rw f (ih (rw e at a))

-- or all that a map makes
pub all-map : {A : Type 0} (p : A → Bool) (f : A → A) → ((x : A) → p x ≡ true → p (f x) ≡ true) → (xs : List A) → list_all p xs ≡ true
    → list_all p (map f xs) ≡ true
all-map p f h [] a = refl
all-map p f h (x ∷ xs) a = go (all-map p f h xs) (p x) refl
  where
    go : (list_all p xs ≡ true → list_all p (map f xs) ≡ true) → (b : Bool) → p x ≡ b → list_all p (map f (x ∷ xs)) ≡ true
    go ih false e = let z : false ≡ true = rw e at a in absurd (cc)
    go ih true e = rw (h x e) (ih (rw e at a))
