-- Lists in lists: what a write, a map and an added pair leave.
use Rattle.std.proofs.Common.{◌≡◌, ◌<◌, ◌≤◌, ◌+◌, ℕ, zero, suc, Bool, true, false, ◌||◌, List, [], ◌∷◌, map, length, refl, ap, sym, ◌∙◌, arith, Some, filter, find}
use Rattle.std.specs.Prelude.{slice_index_or, slice_set}
use Rattle.std.specs.List.{list_any, range_with_len}
use Rattle.iso_history.proofs.locks.Tests.{or-second}

module _ {A : Type 0} where
  pub at-map : (f : List A → List A) → f [] ≡ [] → (xs : List (List A)) (k : ℕ) → slice_index_or (map f xs) k [] ≡ f (slice_index_or xs k [])
  at-map f e [] k = sym e
  at-map f e (x ∷ xs) zero = refl
  at-map f e (x ∷ xs) (suc k) = at-map f e xs k

  -- a longer list in one place
  pub at-set_longer : (xs : List (List A)) (i k : ℕ) (v : List A) → length (slice_index_or xs i []) ≤ length v
      → length (slice_index_or xs k []) ≤ length (slice_index_or (slice_set xs i v) k [])
  at-set_longer [] i k v le = omega arith
  at-set_longer (x ∷ xs) zero zero v le = le
  at-set_longer (x ∷ xs) zero (suc k) v le = omega arith
  at-set_longer (x ∷ xs) (suc i) zero v le = omega arith
  at-set_longer (x ∷ xs) (suc i) (suc k) v le = at-set_longer xs i k v le

  pub at-set_here : (xs : List (List A)) (i : ℕ) (v : List A) → i < length xs → slice_index_or (slice_set xs i v) i [] ≡ v
  at-set_here [] i v lt = absurd (omega arith)
  at-set_here (x ∷ xs) zero v lt = refl
  at-set_here (x ∷ xs) (suc i) v lt = at-set_here xs i v (omega arith)

  -- a test that passes in some place passes there after a write that keeps it
  pub any-set : (q : A → Bool) (xs : List (List A)) (i k : ℕ) (v : List A)
      → (i ≡ k → list_any q (slice_index_or xs i []) ≡ true → list_any q v ≡ true)
      → list_any q (slice_index_or xs k []) ≡ true → list_any q (slice_index_or (slice_set xs i v) k []) ≡ true
  any-set q [] i k v h e = e
  any-set q (x ∷ xs) zero zero v h e = h refl e
  any-set q (x ∷ xs) zero (suc k) v h e = e
  any-set q (x ∷ xs) (suc i) zero v h e = e
  any-set q (x ∷ xs) (suc i) (suc k) v h e = any-set q xs i k v (λ is. h (ap (λ (n : ℕ). suc n) is)) e

  pub past-end : (xs : List (List A)) (k : ℕ) → length xs ≤ k → slice_index_or xs k [] ≡ []
  past-end [] k le = refl
  past-end (x ∷ xs) zero le = absurd (omega arith)
  past-end (x ∷ xs) (suc k) le = past-end xs k (omega arith)

  -- what is made of the numbers of a range
  pub at-range : (f : ℕ → List A) (n a k : ℕ) → k < n → slice_index_or (map f (range_with_len a n)) k [] ≡ f (a + k)
  at-range f zero a k lt = absurd (omega arith)
  at-range f (suc n) a zero lt = let e : a ≡ a + 0 = omega arith in ap f e
  at-range f (suc n) a (suc k) lt = let e : a + 1 + k ≡ a + suc k = omega arith in at-range f n (a + 1) k (omega arith) ∙ ap f e

  pub any-found : (p q : A → Bool) (xs : List A) (y : A) → find p xs ≡ Some y → q y ≡ true → list_any q xs ≡ true
  any-found p q [] y e k = cc
  any-found p q (x ∷ xs) y e k = go (p x) refl (any-found p q xs y)
    where
      go : (b : Bool) → p x ≡ b → (find p xs ≡ Some y → q y ≡ true → list_any q xs ≡ true) → (q x || list_any q xs) ≡ true
      go true t ih = let f : Some x ≡ Some y = sym (rw t refl) ∙ e in let is : x ≡ y = cc in rw (ap q is ∙ k) refl
      go false t ih = or-second (q x) (list_any q xs) (ih (rw t at e) k)

  pub any-filter : (q r : A → Bool) → ((x : A) → q x ≡ true → r x ≡ true) → (xs : List A) → list_any q xs ≡ true → list_any q (filter r xs) ≡ true
  any-filter q r h [] e = e
  any-filter q r h (x ∷ xs) e = go (q x) refl (r x) refl (any-filter q r h xs)
    where
      go : (b : Bool) → q x ≡ b → (d : Bool) → r x ≡ d → (list_any q xs ≡ true → list_any q (filter r xs) ≡ true) → list_any q (filter r (x ∷ xs)) ≡ true
      go true t true u ih = rw (u, t) refl
      go true t false u ih = cc (h x t)
      go false t true u ih = rw (u, t) (ih (rw t at e))
      go false t false u ih = rw u (ih (rw t at e))

pub map-map : {A B C : Type 0} (f : A → B) (g : B → C) (xs : List A) → map g (map f xs) ≡ map (λ x. g (f x)) xs
map-map f g [] = refl
map-map f g (x ∷ xs) = ap (λ (ys : List _). g (f x) ∷ ys) (map-map f g xs)
