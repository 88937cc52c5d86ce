-- What is found in a list that was changed.
use Rattle.std.proofs.Common.{◌≡◌, Bool, true, false, List, [], ◌∷◌, map, filter, find, refl, Some, None, option_map}
use Rattle.iso_history.proofs.pending.Conns.{and-both, and-first, and-rest}
use Rattle.std.specs.List.{list_all, list_any}

module _ {X : Type 0} (p : X → Bool) where
  -- an item that is kept is found where it was
  pub find-kept : (q : X → Bool) (xs : List X) (x : X) → find p xs ≡ Some x → q x ≡ true → find p (filter q xs) ≡ Some x
  find-kept q [] x e k = cc
  find-kept q (y ∷ ys) x e k = go (find-kept q ys x) (p y) refl (q y) refl
    where
      go : (find p ys ≡ Some x → q x ≡ true → find p (filter q ys) ≡ Some x) → (a : Bool) → p y ≡ a → (b : Bool) → q y ≡ b
          → find p (filter q (y ∷ ys)) ≡ Some x
      go ih true a true b = rw (b, a) (rw a at e)
      go ih true a false b = absurd (wrong (rw a at e))
        where
          wrong : Some y ≡ Some x → ⊥
          wrong s = cc
      go ih false a true b = rw (b, a) (ih (rw a at e) k)
      go ih false a false b = rw b (ih (rw a at e) k)

  -- what is found in a part was found before, or something before it that went
  pub find-mapped : (f : X → X) → ((x : X) → p (f x) ≡ p x) → (xs : List X) → find p (map f xs) ≡ option_map f (find p xs)
  find-mapped f same [] = refl
  find-mapped f same (y ∷ ys) = go (find-mapped f same ys) (p y) refl
    where
      go : find p (map f ys) ≡ option_map f (find p ys) → (a : Bool) → p y ≡ a → find p (map f (y ∷ ys)) ≡ option_map f (find p (y ∷ ys))
      go ih true a = rw (same y, a) refl
      go ih false a = rw (same y, a) ih

  -- a filter that keeps all that the test finds
  pub find-all_kept : (q : X → Bool) → ((x : X) → p x ≡ true → q x ≡ true) → (xs : List X) → find p (filter q xs) ≡ find p xs
  find-all_kept q all [] = refl
  find-all_kept q all (y ∷ ys) = go (find-all_kept q all ys) (p y) refl (q y) refl
    where
      go : find p (filter q ys) ≡ find p ys → (a : Bool) → p y ≡ a → (b : Bool) → q y ≡ b → find p (filter q (y ∷ ys)) ≡ find p (y ∷ ys)
      go ih true a true b = rw (b, a) refl
      go ih true a false b = absurd (wrong (all y a))
        where
          wrong : q y ≡ true → ⊥
          wrong s = cc
      go ih false a true b = rw (b, a) ih
      go ih false a false b = rw (b, a) ih

  -- what is found passes the test
  pub find-passes : (xs : List X) (x : X) → find p xs ≡ Some x → p x ≡ true
  find-passes [] x e = cc
  find-passes (y ∷ ys) x e = go (find-passes ys x) (p y) refl
    where
      go : (find p ys ≡ Some x → p x ≡ true) → (a : Bool) → p y ≡ a → p x ≡ true
      go ih true a = at_head a (rw a at e)
        where
          at_head : p y ≡ true → Some y ≡ Some x → p x ≡ true
          at_head h s = cc
      go ih false a = ih (rw a at e)

  -- nothing is found where nothing passes
  pub find-none : (xs : List X) (q : X → Bool) → find p xs ≡ None → ((x : X) → q x ≡ true → p x ≡ true) → list_any q xs ≡ false
  find-none [] q e sub = refl
  find-none (y ∷ ys) q e sub = go (find-none ys q) (p y) refl (q y) refl
    where
      go : (find p ys ≡ None → ((x : X) → q x ≡ true → p x ≡ true) → list_any q ys ≡ false) → (a : Bool) → p y ≡ a → (b : Bool) → q y ≡ b
          → list_any q (y ∷ ys) ≡ false
      go ih true a b q = absurd (wrong (rw a at e))
        where
          wrong : Some y ≡ None → ⊥
          wrong s = cc
      go ih false a true b = absurd (wrong (sub y b))
        where
          wrong : p y ≡ true → ⊥
          wrong s = cc
      go ih false a false b = rw b (ih (rw a at e) sub)

-- a test that all pass
module _ {X : Type 0} (p : X → Bool) where
  pub all-filter : (q : X → Bool) (xs : List X) → list_all p xs ≡ true → list_all p (filter q xs) ≡ true
  all-filter q [] e = refl
  all-filter q (y ∷ ys) e = go (all-filter q ys (and-rest (p y) _ e)) (q y) refl
    where
      go : list_all p (filter q ys) ≡ true → (b : Bool) → q y ≡ b → list_all p (filter q (y ∷ ys)) ≡ true
      go ih true b = rw b (and-both _ _ (and-first _ _ e) ih)
      go ih false b = rw b ih

  pub all-map : (r : X → Bool) (f : X → X) → ((x : X) → p x ≡ true → r (f x) ≡ true) → (xs : List X) → list_all p xs ≡ true
      → list_all r (map f xs) ≡ true
  all-map r f good [] e = refl
  all-map r f good (y ∷ ys) e = and-both _ _ (good y (and-first _ _ e)) (all-map r f good ys (and-rest (p y) _ e))

  -- an item that is found passes what all pass
  pub all-found : (r : X → Bool) (xs : List X) (x : X) → list_all r xs ≡ true → find p xs ≡ Some x → r x ≡ true
  all-found r [] x a e = cc
  all-found r (y ∷ ys) x a e = go (all-found r ys x (and-rest (r y) _ a)) (p y) refl
    where
      go : (find p ys ≡ Some x → r x ≡ true) → (b : Bool) → p y ≡ b → r x ≡ true
      go ih true b = at_head (and-first _ _ a) (rw b at e)
        where
          at_head : r y ≡ true → Some y ≡ Some x → r x ≡ true
          at_head h s = cc
      go ih false b = ih (rw b at e)
