-- The first element that passes a test, and how many do, through `map`, `filter` and `find`.
use Rattle.std.proofs.Common.{◌≡◌, ◌+◌, ◌≤◌, Bool, true, false, cond, List, [], ◌∷◌, map, refl, ap, sym, ◌∙◌, arith, Some, None, option_map, filter, find, count_by}
use Rattle.std.specs.List.{list_any}
use Rattle.std.proofs.lemmas.List.Sums.{sum_by-cons}

module _ {A : Type 0} where
  pub find-here : (p : A → Bool) (x : A) (xs : List A) → p x ≡ true → find p (x ∷ xs) ≡ Some x
  find-here p x xs e = rw e refl

  pub find-past : (p : A → Bool) (x : A) (xs : List A) → p x ≡ false → find p (x ∷ xs) ≡ find p xs
  find-past p x xs e = rw e refl

  pub filter-here : (q : A → Bool) (x : A) (xs : List A) → q x ≡ true → filter q (x ∷ xs) ≡ x ∷ filter q xs
  filter-here q x xs e = rw e refl

  pub filter-past : (q : A → Bool) (x : A) (xs : List A) → q x ≡ false → filter q (x ∷ xs) ≡ filter q xs
  filter-past q x xs e = rw e refl

  pub find-is : (p : A → Bool) (xs : List A) (y : A) → find p xs ≡ Some y → p y ≡ true
  find-is p [] y e = cc
  find-is p (x ∷ xs) y e = go (p x) refl (find-is p xs y)
    where
      go : (b : Bool) → p x ≡ b → (find p xs ≡ Some y → p y ≡ true) → p y ≡ true
      go true t ih = let h : x ≡ y = cc (sym (find-here p x xs t) ∙ e) in ap p (sym h) ∙ t
      go false t ih = ih (sym (find-past p x xs t) ∙ e)

  pub find-map : (p : A → Bool) (f : A → A) → ((x : A) → p (f x) ≡ p x) → (xs : List A) → find p (map f xs) ≡ option_map f (find p xs)
  find-map p f same [] = refl
  find-map p f same (x ∷ xs) = rw (same x, find-map p f same xs) (go (p x))
    where
      go : (b : Bool) → cond b (Some (f x)) (option_map f (find p xs)) ≡ option_map f (cond b (Some x) (find p xs))
      go true = refl
      go false = refl

  pub count-here : (p : A → Bool) (x : A) (xs : List A) → p x ≡ true → count_by p (x ∷ xs) ≡ 1 + count_by p xs
  count-here p x xs e = sum_by-cons (λ (y : A). cond (p y) 1 0) x xs ∙ rw e refl

  pub count-past : (p : A → Bool) (x : A) (xs : List A) → p x ≡ false → count_by p (x ∷ xs) ≡ count_by p xs
  count-past p x xs e = sum_by-cons (λ (y : A). cond (p y) 1 0) x xs ∙ rw e (omega arith)

  pub count-map : (p : A → Bool) (f : A → A) → ((x : A) → p (f x) ≡ p x) → (xs : List A) → count_by p (map f xs) ≡ count_by p xs
  count-map p f same [] = refl
  count-map p f same (x ∷ xs) =
      sum_by-cons (λ (y : A). cond (p y) 1 0) (f x) (map f xs) ∙ rw (same x, count-map p f same xs) (sym (sum_by-cons (λ (y : A). cond (p y) 1 0) x xs))

  pub count-filter : (p q : A → Bool) (xs : List A) → count_by p (filter q xs) ≤ count_by p xs
  count-filter p q [] = omega arith
  count-filter p q (x ∷ xs) = go (q x) refl (p x) refl (count-filter p q xs)
    where
      go : (b : Bool) → q x ≡ b → (d : Bool) → p x ≡ d → count_by p (filter q xs) ≤ count_by p xs → count_by p (filter q (x ∷ xs)) ≤ count_by p (x ∷ xs)
      go true t true u ih = rw (filter-here q x xs t, count-here p x xs u, count-here p x (filter q xs) u) (omega arith)
      go true t false u ih = rw (filter-here q x xs t, count-past p x xs u, count-past p x (filter q xs) u) (omega arith)
      go false t true u ih = rw (filter-past q x xs t, count-here p x xs u) (omega arith)
      go false t false u ih = rw (filter-past q x xs t, count-past p x xs u) (omega arith)

  -- where none passes, none is found
  pub none-counts : (p : A → Bool) (xs : List A) → find p xs ≡ None → count_by p xs ≡ 0
  none-counts p [] e = refl
  none-counts p (x ∷ xs) e = go (p x) refl (none-counts p xs)
    where
      go : (b : Bool) → p x ≡ b → (find p xs ≡ None → count_by p xs ≡ 0) → count_by p (x ∷ xs) ≡ 0
      go true t ih = cc (sym (find-here p x xs t) ∙ e)
      go false t ih = count-past p x xs t ∙ ih (sym (find-past p x xs t) ∙ e)

  pub counts-none : (p : A → Bool) (xs : List A) → count_by p xs ≤ 0 → find p xs ≡ None
  counts-none p [] e = refl
  counts-none p (x ∷ xs) e = go (p x) refl (counts-none p xs)
    where
      go : (b : Bool) → p x ≡ b → (count_by p xs ≤ 0 → find p xs ≡ None) → find p (x ∷ xs) ≡ None
      go true t ih = absurd (omega (arith, count-here p x xs t))
      go false t ih = find-past p x xs t ∙ ih (omega (arith, count-past p x xs t))

  pub find-filter_kept : (p q : A → Bool) (xs : List A) (y : A) → find p xs ≡ Some y → q y ≡ true → find p (filter q xs) ≡ Some y
  find-filter_kept p q [] y e k = cc
  find-filter_kept p q (x ∷ xs) y e k = go (p x) refl (q x) refl (λ t. find-filter_kept p q xs y t k)
    where
      go : (b : Bool) → p x ≡ b → (d : Bool) → q x ≡ d → (find p xs ≡ Some y → find p (filter q xs) ≡ Some y) → find p (filter q (x ∷ xs)) ≡ Some y
      go true t d u ih =
          let h : x ≡ y = cc (sym (find-here p x xs t) ∙ e) in
          ap (find p) (filter-here q x xs (ap q h ∙ k)) ∙ find-here p x (filter q xs) t ∙ ap Some h
      go false t true u ih = ap (find p) (filter-here q x xs u) ∙ find-past p x (filter q xs) t ∙ ih (sym (find-past p x xs t) ∙ e)
      go false t false u ih = ap (find p) (filter-past q x xs u) ∙ ih (sym (find-past p x xs t) ∙ e)

  -- where at most one passes, a filter finds no other
  pub find-filter : (p q : A → Bool) (xs : List A) (y : A) → count_by p xs ≤ 1 → find p (filter q xs) ≡ Some y → find p xs ≡ Some y
  find-filter p q [] y one e = cc
  find-filter p q (x ∷ xs) y one e = go (p x) refl (q x) refl (find-filter p q xs y)
    where
      go : (b : Bool) → p x ≡ b → (d : Bool) → q x ≡ d → (count_by p xs ≤ 1 → find p (filter q xs) ≡ Some y → find p xs ≡ Some y) → find p (x ∷ xs) ≡ Some y
      go true t true u ih = find-here p x xs t ∙ sym (find-here p x (filter q xs) t) ∙ sym (ap (find p) (filter-here q x xs u)) ∙ e
      go true t false u ih =
          let le : count_by p xs ≤ 0 = omega (arith, count-here p x xs t) in
          let few : count_by p (filter q xs) ≤ 0 = omega (arith, count-filter p q xs) in
          cc (sym (counts-none p (filter q xs) few) ∙ sym (ap (find p) (filter-past q x xs u)) ∙ e)
      go false t true u ih =
          find-past p x xs t ∙ ih (omega (arith, count-past p x xs t)) (sym (ap (find p) (filter-here q x xs u) ∙ find-past p x (filter q xs) t) ∙ e)
      go false t false u ih = find-past p x xs t ∙ ih (omega (arith, count-past p x xs t)) (sym (ap (find p) (filter-past q x xs u)) ∙ e)

  any-here : (q : A → Bool) (x : A) (xs : List A) → q x ≡ true → list_any q (x ∷ xs) ≡ true
  any-here q x xs e = rw e refl

  any-past : (q : A → Bool) (x : A) (xs : List A) → q x ≡ false → list_any q (x ∷ xs) ≡ list_any q xs
  any-past q x xs e = rw e refl

  -- what a filter leaves passes it
  pub find-filter_passes : (p q : A → Bool) (xs : List A) (y : A) → find p (filter q xs) ≡ Some y → q y ≡ true
  find-filter_passes p q [] y e = cc
  find-filter_passes p q (x ∷ xs) y e = go (q x) refl (p x) refl (find-filter_passes p q xs y)
    where
      go : (b : Bool) → q x ≡ b → (d : Bool) → p x ≡ d → (find p (filter q xs) ≡ Some y → q y ≡ true) → q y ≡ true
      go true u true t ih =
          let h : Some x ≡ Some y = sym (ap (find p) (filter-here q x xs u) ∙ find-here p x (filter q xs) t) ∙ e in
          let k : x ≡ y = cc in
          ap q (sym k) ∙ u
      go true u false t ih = ih (sym (ap (find p) (filter-here q x xs u) ∙ find-past p x (filter q xs) t) ∙ e)
      go false u d t ih = ih (sym (ap (find p) (filter-past q x xs u)) ∙ e)

  -- where none passes a test, none that is found does
  pub none-found : (p q : A → Bool) (xs : List A) (y : A) → list_any q xs ≡ false → find p xs ≡ Some y → q y ≡ false
  none-found p q [] y n e = cc
  none-found p q (x ∷ xs) y n e = go (p x) refl (q x) refl (none-found p q xs y)
    where
      go : (b : Bool) → p x ≡ b → (d : Bool) → q x ≡ d → (list_any q xs ≡ false → find p xs ≡ Some y → q y ≡ false) → q y ≡ false
      go b t true u ih = cc (sym (any-here q x xs u) ∙ n)
      go true t false u ih = let h : x ≡ y = cc (sym (find-here p x xs t) ∙ e) in ap q (sym h) ∙ u
      go false t false u ih = ih (sym (any-past q x xs u) ∙ n) (sym (find-past p x xs t) ∙ e)

  -- where a filter takes all that the test finds, it finds none; where it takes none of them, it finds the same
  pub find-filter_away : (p q : A → Bool) → ((y : A) → p y ≡ true → q y ≡ false) → (xs : List A) → find p (filter q xs) ≡ None
  find-filter_away p q away [] = refl
  find-filter_away p q away (x ∷ xs) = go (q x) refl (p x) refl (find-filter_away p q away xs)
    where
      go : (b : Bool) → q x ≡ b → (d : Bool) → p x ≡ d → find p (filter q xs) ≡ None → find p (filter q (x ∷ xs)) ≡ None
      go true e true g ih = cc (away x g)
      go true e false g ih = rw e (find-past p x (filter q xs) g ∙ ih)
      go false e d g ih = rw e ih

  pub find-filter_same : (p q : A → Bool) → ((y : A) → p y ≡ true → q y ≡ true) → (xs : List A) → find p (filter q xs) ≡ find p xs
  find-filter_same p q same [] = refl
  find-filter_same p q same (x ∷ xs) = go (q x) refl (p x) refl (find-filter_same p q same xs)
    where
      go : (b : Bool) → q x ≡ b → (d : Bool) → p x ≡ d → find p (filter q xs) ≡ find p xs → find p (filter q (x ∷ xs)) ≡ find p (x ∷ xs)
      go true e true g ih = rw e (find-here p x (filter q xs) g ∙ sym (find-here p x xs g))
      go true e false g ih = rw e (find-past p x (filter q xs) g ∙ ih ∙ sym (find-past p x xs g))
      go false e true g ih = cc (same x g)
      go false e false g ih = rw e (ih ∙ sym (find-past p x xs g))
